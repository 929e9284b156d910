use Rattle.std.proofs.Common.{refl}
use Rattle.std.proofs.lemmas.Str.{is_utf8-from_IsUtf8, IsUtf8-from_is_utf8}
use Rattle.std.proofs.lemmas.Bool.{false_from_ne_true}
use Rattle.njh_replay.specs.Script.{script_event}
use Rattle.njh_replay.proofs.line.any_event.Goals as goal

pub returns-in-Ok-clause-event : goal.returns-in-Ok-clause-event
unfolding script_event
returns-in-Ok-clause-event c =
    let text = is_utf8-from_IsUtf8 c.args.line.now c.in-Ok.ensures.cases.1 in
    rw (text, ← c.in-Ok.ensures.cases.0) c.event_of_text.ensures.event

pub returns-in-Err-clause-event : goal.returns-in-Err-clause-event
unfolding script_event
returns-in-Err-clause-event c =
    let broken = false_from_ne_true _ (λ text. c.in-Err.ensures.cases.0 (IsUtf8-from_is_utf8 c.args.line.now text)) in
    rw broken refl
