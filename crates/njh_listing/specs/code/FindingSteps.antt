-- What is found of one file more, as the loop over the files goes.
use Rattle.std.specs.Prelude.{ℕ, ◌==◌, Bool, true, ◌&&◌, cond, List, [], ◌∷◌, Option, None, Some}
use Rattle.njh_spoolfile.specs.Kept.{File}
use Rattle.njh_listing.specs.Asked.{is_called, key_in}

-- whether it is the number that is asked for, if one is
abbrev pub is_number : Option ℕ → ℕ → Bool
is_number None at = true
is_number (Some n) at = n == at

-- a file's key, if it is asked for and its line has this number
abbrev pub found_at : Option ℕ → List ℕ → ℕ → ℕ × File → List ℕ
found_at number name at e = cond (is_number number at && is_called name e) (key_in e ∷ []) []
