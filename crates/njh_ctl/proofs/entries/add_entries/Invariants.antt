use Rattle.std.proofs.Common.{map, take}
use Rattle.serde_json.specs.View.{view}
use Rattle.njh_ctl.specs.Asked.{AddsEach}
use Rattle.njh_ctl.specs.Chosen.{wanted_by}
use Rattle.njh_ctl.specs.Many.{IsEntry, entry_view}
use Rattle.njh_ctl.proofs.entries.add_entries.Given as goal

abbrev pub invariant-loop-file : goal.invariant-loop-file
invariant-loop-file l =
    AddsEach (IsEntry (wanted_by l.filter)) (map view (take l.file-index l.files)) (map entry_view l.fn.entries.items)
    (map entry_view l.entries.items)
