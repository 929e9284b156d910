-- A password is a name, which isn't empty.
use Rattle.std.proofs.Common.{◌≡◌, ℕ, true, List, [], ◌∷◌, refl}
use Rattle.std.proofs.lemmas.Bool.{false≢true}
use Rattle.std.specs.Prelude.{IsTrue}
use Rattle.njh_ebcdic.specs.Names.{is_name}
use Rattle.njh_check.specs.Reports.{has_password}

pub has_password_name : (name : List ℕ) → IsTrue (is_name name) → has_password name ≡ true
has_password_name [] named = absurd (false≢true named)
has_password_name (b ∷ bytes) named = refl
