-- Which files a hub takes for a new spool file.
use Rattle.std.specs.Prelude.{ℕ, zero, suc, Bool, true, false, List, [], ◌∷◌}

-- A file of one byte is somebody else's, unless the making of a spool file may have left it: then the byte is 0, and
-- there is a log beside it that has bytes too. `file` is the file, or the beginning of one that has more than a byte.
abbrev pub is_other : (file : List ℕ) → (log : ℕ) → Bool
is_other [] log = false
is_other (b ∷ []) zero = true
is_other (zero ∷ []) (suc n) = false
is_other (suc b ∷ []) (suc n) = true
is_other (a ∷ (b ∷ more)) log = false
