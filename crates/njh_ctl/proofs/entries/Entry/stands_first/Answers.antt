use Rattle.std.proofs.Common.{◌∙◌, ◌&&◌, ap₂, sym}
use Rattle.std.specs.Prelude.{not}
use Rattle.njh_ctl.proofs.EntryLaws.{list_any_map}
use Rattle.njh_ctl.specs.Many.{entry_view, is_chosen_same}
use Rattle.njh_ctl.proofs.entries.Entry.stands_first.Goals as goal

pub returns-then-self : goal.returns-then-self
returns-then-self c =
    let e = entry_view c.args.self.now in
    sym (ap₂ (λ a b. a && not b) c.if-self.true
    (list_any_map (is_chosen_same e) entry_view c.args.before.now ∙ sym c.is_among.ensures))
