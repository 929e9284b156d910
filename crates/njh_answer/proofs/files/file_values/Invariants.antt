use Rattle.std.proofs.Common.{◌≡◌, ◌-◌, map, take, drop}
use Rattle.serde_json.specs.View.{view}
use Rattle.njh_hub.specs.WholeHub.{part}
use Rattle.njh_arrivals.specs.Arrivals.{seen_of}
use Rattle.njh_answer.specs.Files.{file_entry}
use Rattle.njh_answer.proofs.files.file_values.Given as goal

abbrev pub invariant-loop-index : goal.invariant-loop-index
invariant-loop-index l =
    map view l.values.items
    ≡ map (file_entry l.lines (part l.customer l.views.hub.now).customer.entry
    (seen_of l.customer l.views.arrivals.now))
    (take (l.index - l.fn.page.first) (drop l.fn.page.first (part l.customer l.views.hub.now).customer.spool.whole))
