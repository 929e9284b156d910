use Rattle.njh_keeper.proofs.Words
use Words.{◌≡◌, ℕ, Bool, true, false, cond, List, ◌∷◌, map, sym, ap, subst, ◌∙◌, on_ok_weaker, File, entry_of, shown}
use Words.{part, Leads, whole_of, IsRead, Reads, owned_of, is_name_of, is_own, leads_nothing}
use Rattle.njh_keeper.proofs.remembering.remember_if_own.Goals as goal

pub returns-then-reads_as-clause-led : goal.returns-then-reads_as-clause-led
returns-then-reads_as-clause-led g c text found clean =
    let old = shown g.S.Store c.args.writer.now.store in
    let new = shown g.S.Store c.remember_one.new.writer.store in
    let name = c.args.own.now.name in
    let spool = (part c.args.customer c.args.hub.now).customer.spool in
    let e = entry_of c.args.stored.now in
    let owned : is_own name e.1 ≡ true = ap (λ (t : List ℕ). is_name_of t name) (sym c.as_str.ensures.value)
    ∙ sym c.reads_as.ensures ∙ c.if-reads_as.true in
    on_ok_weaker c.remember_one.result (λ led left. subst
    (λ (es : List (ℕ × File)). Leads (Reads name spool (map whole_of c.args.own.now.whole.items)
    (map whole_of c.remember_one.new.own.whole.items) es (owned_of name left)) old new)
    (sym (ap (λ (b : Bool). cond b (e ∷ owned_of name left) (owned_of name left)) owned)) (led (owned_of name left)))
    (c.remember_one.ensures.led text found clean)

pub returns-clause-led : goal.returns-clause-led
returns-clause-led g c text found clean left =
    let name = c.args.own.now.name in
    let spool = (part c.args.customer c.args.hub.now).customer.spool in
    let whole = map whole_of c.args.own.now.whole.items in
    let e = entry_of c.args.stored.now in
    let foreign : is_own name e.1 ≡ false = ap (λ (t : List ℕ). is_name_of t name) (sym c.as_str.ensures.value)
    ∙ sym c.reads_as.ensures ∙ c.if-reads_as.false in
    leads_nothing (λ s from is. subst (λ (es : List (ℕ × File)). IsRead name whole es spool.whole from s)
    (ap (λ (b : Bool). cond b (e ∷ owned_of name left) (owned_of name left)) foreign) is)
