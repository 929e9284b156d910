use Rattle.std.proofs.Common.{◌≡◌, ◌∙◌, Bool, true, false, List, Some, ap, arith, map, rules, sym, take}
use Rattle.std.proofs.lemmas.Grind.{common_steps}
use Rattle.std.proofs.lemmas.List.{take-map}
use Rattle.njh_ctl.specs.Many.{EntryView, entry_view, share_by, stands_first}
use Rattle.njh_ctl.specs.declared.entries.Share.{Share}
use Rattle.njh_ctl.proofs.entries.Entry.share_at.Goals as goal

pub returns-then-stands_first : goal.returns-then-stands_first
returns-then-stands_first c =
    let entries = c.args.entries.now in
    let e = entry_view c.args.self.now in
    let seen : c.stands_first.result ≡ stands_first (map entry_view (take c.args.at entries)) e =
    first_of (grind (arith, common_steps), search rules) in
    let first : stands_first (take c.args.at (map entry_view entries)) e ≡ true =
    ap (λ (l : List EntryView). stands_first l e) (take-map entry_view c.args.at entries)
    ∙ (sym seen ∙ c.if-stands_first.true) in
    ap (λ (s : Share). Some s) c.share_of.ensures ∙ sym (ap (λ (b : Bool). share_by b (map entry_view entries) e) first)

pub returns-else-stands_first : goal.returns-else-stands_first
returns-else-stands_first c =
    let entries = c.args.entries.now in
    let e = entry_view c.args.self.now in
    let seen : c.stands_first.result ≡ stands_first (map entry_view (take c.args.at entries)) e =
    first_of (grind (arith, common_steps), search rules) in
    let first : stands_first (take c.args.at (map entry_view entries)) e ≡ false =
    ap (λ (l : List EntryView). stands_first l e) (take-map entry_view c.args.at entries)
    ∙ (sym seen ∙ c.if-stands_first.false) in
    sym (ap (λ (b : Bool). share_by b (map entry_view entries) e) first)
