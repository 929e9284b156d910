use Rattle.std.proofs.Common.{◌≡◌, ◌-◌, map}
use Rattle.std.specs.List.{range_with_len}
use Rattle.serde_json.specs.View.{view}
use Rattle.njh_hub.specs.WholeHub.{part}
use Rattle.njh_answer.specs.Lines.{line_told}
use Rattle.njh_answer.proofs.lines.line_values.Given as goal

abbrev pub invariant-loop-number : goal.invariant-loop-number
invariant-loop-number l =
    map view l.values.items ≡ map (line_told l.named l.customer (part l.customer l.views.hub.now) l.views.lines.now)
    (range_with_len l.fn.page.first (l.number - l.fn.page.first))
