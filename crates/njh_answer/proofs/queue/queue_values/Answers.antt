use Rattle.std.proofs.Common.{◌∙◌, sym, arith, rules}
use Rattle.std.proofs.lemmas.List.FromFn.{map-range_with_len_more}
use Rattle.std.specs.Option.{option_map}
use Rattle.njh_hub.specs.Views.{hub_line}
use Rattle.njh_answer.proofs.Telling.{value_more}
use Rattle.njh_answer.specs.Queues.{queue_entry}
use Rattle.njh_answer.proofs.queue.queue_values.Goals as goal

pub loop-index-preserved : goal.loop-index-preserved
loop-index-preserved c =
    let entry = queue_entry (hub_line c.args.id c.args.hub.now).state.messages
    (option_map (λ s. s.now) c.args.served) in
    value_more _ _ _ _ (entry c.loop-index.index) c.in_ok-push.ensures.items c.loop-index.invariant
    (search rules)
    ∙ sym (map-range_with_len_more entry 0 c.loop-index.index c.loop-index.index (omega arith))
