use Rattle.std.proofs.Common.{◌≡◌, IfOk, false, option_map, refl, subst}
use Rattle.std.proofs.lemmas.Bool.{iff_false}
use Rattle.serde_json.specs.View.{view}
use Rattle.njh_answer.proofs.QueueLaws.{queue_here}
use Rattle.njh_answer.proofs.Telling.{line_nowhere}
use Rattle.njh_answer.proofs.queue.queue_value.Goals as goal

pub returns-in-Ok : goal.returns-in-Ok
returns-in-Ok c =
    subst (λ d. IfOk c.queue_list.result (λ value. view value ≡ d))
    (queue_here c.args.hub.now c.args.id (option_map (λ s. s.now) c.args.served) c.in-Ok.count
    (c.in-Ok.ensures.known.0 refl) c.in-Ok.ensures.count)
    c.queue_list.ensures

pub returns-in-Err : goal.returns-in-Err
returns-in-Err c =
    rw (line_nowhere c.args.hub.now c.args.id (iff_false {b = false} c.in-Err.ensures.known refl)) c.nothing.ensures
