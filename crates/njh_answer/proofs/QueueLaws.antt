-- What is told of the messages that wait on a line of the hub.
use Rattle.std.proofs.Common.{◌≡◌, ℕ, List, Option, length, map, refl}
use Rattle.std.specs.List.{range_with_len}
use Rattle.serde_json.specs.Data.{array}
use Rattle.serde_json.specs.View.{items_of}
use Rattle.njh_hub.specs.Views.{hub_line}
use Rattle.njh_hub.specs.WholeHub.{HasLine, Part, part}
use Rattle.njh_table.specs.declared.LineId.{LineId}
use Rattle.njh_answer.proofs.Telling.{line_here}
use Rattle.njh_answer.specs.Lines.{line_where}
use Rattle.njh_answer.specs.Queues.{queue_entry, queue_where}
use Rattle.njh_answer.specs.declared.views.LineView.{LineView}

-- of a line that it has each of them is told
pub queue_here : (parts : List Part) (id : LineId) (served : Option LineView) (count : ℕ) → HasLine parts id
    → count ≡ length (hub_line id parts).state.messages
    → array (items_of (map (queue_entry (hub_line id parts).state.messages served) (range_with_len 0 count)))
    ≡ queue_where served (line_where id.number (part id.customer parts))
queue_here parts id served count there many = rw (line_here parts id there, many) refl
