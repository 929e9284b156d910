use Rattle.std.proofs.Common.{Some, map}
use Rattle.njh_ctl.specs.Asked.{Gathered}
use Rattle.njh_ctl.specs.Chosen.{wanted_by}
use Rattle.njh_ctl.specs.Lists.{Files}
use Rattle.njh_ctl.specs.Many.{IsEntry, entry_view}
use Rattle.njh_ctl.proofs.asker.Asker.gather_entries.Given as goal

abbrev pub invariant-loop : goal.invariant-loop
invariant-loop g l =
    Gathered (Files l.customer (wanted_by l.filter)) (IsEntry (wanted_by l.filter)) l.fn.self l.self
    (map entry_view l.entries.items) (Some l.from)
