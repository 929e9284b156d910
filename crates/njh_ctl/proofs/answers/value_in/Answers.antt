use Rattle.std.proofs.Common.{refl}
use Rattle.std.proofs.lemmas.Str.{is_utf8-from_IsUtf8, IsUtf8-from_is_utf8}
use Rattle.std.proofs.lemmas.Bool.{false_from_ne_true}
use Rattle.njh_ctl.proofs.answers.value_in.Goals as goal

pub returns-in-Ok-clause-understood : goal.returns-in-Ok-clause-understood
returns-in-Ok-clause-understood c =
    let text = is_utf8-from_IsUtf8 c.args.body.now c.in-Ok.ensures.cases.1 in
    rw (text, ← c.in-Ok.ensures.cases.0) c.value_of_text.ensures.understood

pub returns-in-Ok-clause-refused : goal.returns-in-Ok-clause-refused
returns-in-Ok-clause-refused c =
    let text = is_utf8-from_IsUtf8 c.args.body.now c.in-Ok.ensures.cases.1 in
    rw (text, ← c.in-Ok.ensures.cases.0) c.value_of_text.ensures.refused

pub returns-in-Err-clause-refused : goal.returns-in-Err-clause-refused
returns-in-Err-clause-refused c =
    let broken = false_from_ne_true _ (λ text. c.in-Err.ensures.cases.0 (IsUtf8-from_is_utf8 c.args.body.now text)) in
    rw broken refl
