use Rattle.std.proofs.Common.{refl}
use Rattle.njh_replay.proofs.Parting.{parts-some}
use Rattle.njh_check.proofs.order_reasons.reason_of_user_parts.Goals as goal

pub returns-in_default-Some : goal.returns-in_default-Some
returns-in_default-Some c =
    let more = parts-some 46 c.in_default-Some.field-0-1.now in
    let node = rw c.in-Some.is at c.first_part.ensures.parts in
    let user = rw c.in_default-Some.is-1 at c.first_part-2.ensures.parts in
    rw (node, user, more.2) refl
