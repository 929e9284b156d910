use Rattle.std.proofs.Common.{◌≡◌, map}
use Rattle.std.specs.List.{range_with_len}
use Rattle.std.specs.Option.{option_map}
use Rattle.serde_json.specs.View.{view}
use Rattle.njh_hub.specs.Views.{hub_line}
use Rattle.njh_answer.specs.Queues.{queue_entry}
use Rattle.njh_answer.proofs.queue.queue_values.Given as goal

-- those so far are told
abbrev pub invariant-loop-index : goal.invariant-loop-index
invariant-loop-index l = map view l.values.items
    ≡ map (queue_entry (hub_line l.id l.hub).state.messages (option_map (λ s. s.now) l.served)) (range_with_len 0 l.index)
