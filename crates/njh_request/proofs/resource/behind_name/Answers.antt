use Rattle.std.proofs.Common.{refl}
use Rattle.njh_request.proofs.Parting.{parts-some}
use Rattle.njh_request.proofs.resource.behind_name.Goals as goal

pub returns-in_default-Some-clause-named : goal.returns-in_default-Some-clause-named
returns-in_default-Some-clause-named c =
    let more = parts-some 47 c.in_default-Some.field-0-1.now in
    let first = rw c.in_default-Some.is-1 at c.first_part.ensures in
    rw (first, more.2) refl
