use Rattle.njh_keeper.proofs.Words
use Words.{◌≡◌, true, [], map, string_bytes, ap, subst, ◌∙◌, shown, part, Leads, own_of, partial_of, sweep_in, whole_of}
use Words.{Reads, entries, owned_of, is_name_of, leads_weaker}
use Rattle.njh_keeper.proofs.OpeningLists.{remembered}
use Rattle.njh_keeper.proofs.remembering.remember_customer.Goals as goal

pub returns-clause-own : goal.returns-clause-own
returns-clause-own g c =
    let first = c.in_ok-own.ensures in
    let others = c.remember_files.ensures.others in
    record {
      name_is = ap (λ o. o.name) others ∙ first.0;
      arrived = ap (λ o. o.arrived) others ∙ first.2;
      partial = ap (λ o. map partial_of o.partial.items) others ∙ ap (map partial_of) first.4;
      sweeps = ap (λ o. map sweep_in o.sweeps.items) others ∙ ap (map sweep_in) first.5;
    }

pub returns-clause-text : goal.returns-clause-text
returns-clause-text g c =
    let first = c.in_ok-own.ensures in
    ap (λ o. is_name_of (string_bytes o.text) o.name) c.remember_files.ensures.others
    ∙ ap (is_name_of (string_bytes c.in_ok-own.own.text)) first.0 ∙ first.1

pub returns-clause-led : goal.returns-clause-led
returns-clause-led g c found clean =
    let old = shown g.S.Store c.args.writer.now.store in
    let new = shown g.S.Store c.remember_files.new.writer.store in
    let first = c.in_ok-own.ensures in
    let own = c.in_ok-own.own in
    let now = c.remember_files.new.own in
    let spool = (part c.args.place c.args.hub.now).customer.spool in
    let rows = entries c.args.files.now in
    let whole = map whole_of now.whole.items in
    let named : is_name_of (string_bytes own.text) own.name ≡ true =
    ap (is_name_of (string_bytes own.text)) first.0 ∙ first.1 in
    let led : Leads (Reads c.args.name spool [] whole (owned_of c.args.name rows) []) old new =
    subst (λ xs. Leads (Reads c.args.name spool (map whole_of xs) whole (owned_of c.args.name rows) []) old new) first.3
    (subst (λ who. Leads (Reads who spool (map whole_of own.whole.items) whole (owned_of who rows) []) old new) first.0
    (c.in_ok-remember_files.ensures.led named found clean)) in
    leads_weaker led (λ s t reads. remembered (own_of now) c.args.name rows spool.whole s t
    (ap (λ o. o.name) c.remember_files.ensures.others ∙ first.0) (reads s))
