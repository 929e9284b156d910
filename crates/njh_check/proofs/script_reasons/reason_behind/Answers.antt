use Rattle.std.proofs.Common.{refl}
use Rattle.njh_replay.proofs.Parting.{parts-some}
use Rattle.njh_check.proofs.script_reasons.reason_behind.Goals as goal

pub returns-in_default-Some : goal.returns-in_default-Some
returns-in_default-Some c =
    let more = parts-some 32 c.in_default-Some.field-0-1.now in
    let words = rw c.in_default-Some.is-1 at c.first_part.ensures.parts in
    rw (c.in-Some.is, words, more.2, c.alone.ensures) refl
