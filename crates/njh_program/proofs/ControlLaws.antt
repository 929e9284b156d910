-- What was told of a command that failed.
use Rattle.std.proofs.Common.{◌≡◌, ◌⊎◌, ℕ, List, [], Option, Result, Err, OnErr, append-nil, inr, subst}
use Rattle.std.specs.Io.KnownBytes.{Keeps}
use Rattle.njh_io.specs.Written.{AppendsBeginning}
use Rattle.njh_program.specs.ProgramOutcome.{IsTold}
use Rattle.njh_program.specs.ShownText.{IsTextBegun}

-- a text that was told whole was begun
pub told_begun : (old new : Option (List ℕ)) → IsTold old new → IsTextBegun old new
told_begun old new (text, appends) = (text, (text, [], append-nil text, appends))

-- one of which a beginning was written
pub bytes_begun : {T E : Type 0} (old new : Option (List ℕ)) (bytes : List ℕ) (r : Result T E) (e : E) → r ≡ Err e
    → OnErr r (AppendsBeginning old new bytes) → Keeps old new ⊎ IsTextBegun old new
bytes_begun {T} {E} old new bytes r e is begun =
    inr (bytes, subst (λ (r : Result T E). OnErr r (AppendsBeginning old new bytes)) is begun)
