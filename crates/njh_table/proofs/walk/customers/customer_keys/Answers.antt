use Rattle.std.proofs.Common.{Err, ap, sym, ◌∙◌}
use Rattle.njh_table.specs.Walk.{customer_keys}
use Rattle.njh_table.proofs.Loops.{goes_on, ends, passes, fails, leaves_seen}
use Rattle.njh_table.proofs.walk.customers.customer_keys.Goals as goal

pub returns-in_err-name : goal.returns-in_err-name
unfolding customer_keys
returns-in_err-name c = leaves_seen _ _ _ _ c.from_residual.ensures.1 (ends _ _ _ (sym c.in_err-name.ensures))

pub returns-then-has_customer : goal.returns-then-has_customer
unfolding customer_keys
returns-then-has_customer c =
    ap Err c.fault_at.ensures
    ∙ sym (goes_on _ _ _ (sym c.in_ok-name.ensures) ∙ fails _ _ _ (sym c.has_customer.ensures ∙ c.if-has_customer.true))

pub returns-in_err-hub : goal.returns-in_err-hub
unfolding customer_keys
returns-in_err-hub c =
    leaves_seen _ _ _ _ c.from_residual-in_err-hub.ensures.1
    (goes_on _ _ _ (sym c.in_ok-name.ensures) ∙ passes _ _ _ (sym c.has_customer.ensures ∙ c.if-has_customer.false)
    ∙ ends _ _ _ (sym c.in_err-hub.ensures))

pub returns-in_err-quota : goal.returns-in_err-quota
unfolding customer_keys
returns-in_err-quota c =
    leaves_seen _ _ _ _ c.from_residual-in_err-quota.ensures.1
    (goes_on _ _ _ (sym c.in_ok-name.ensures) ∙ passes _ _ _ (sym c.has_customer.ensures ∙ c.if-has_customer.false)
    ∙ goes_on _ _ _ (sym c.in_ok-hub.ensures) ∙ ends _ _ _ (sym c.in_err-quota.ensures.read))

pub returns-in_err-files : goal.returns-in_err-files
unfolding customer_keys
returns-in_err-files c =
    leaves_seen _ _ _ _ c.from_residual-in_err-files.ensures.1
    (goes_on _ _ _ (sym c.in_ok-name.ensures) ∙ passes _ _ _ (sym c.has_customer.ensures ∙ c.if-has_customer.false)
    ∙ goes_on _ _ _ (sym c.in_ok-hub.ensures) ∙ goes_on _ _ _ (sym c.in_ok-quota.ensures.read)
    ∙ ends _ _ _ (sym c.in_err-files.ensures.read))

pub returns : goal.returns
unfolding customer_keys
returns c =
    sym (goes_on _ _ _ (sym c.in_ok-name.ensures) ∙ passes _ _ _ (sym c.has_customer.ensures ∙ c.if-has_customer.false)
    ∙ goes_on _ _ _ (sym c.in_ok-hub.ensures) ∙ goes_on _ _ _ (sym c.in_ok-quota.ensures.read)
    ∙ goes_on _ _ _ (sym c.in_ok-files.ensures.read))
