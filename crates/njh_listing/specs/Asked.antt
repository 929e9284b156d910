-- Which of the files of a spool file is asked for.
use Rattle.std.specs.Prelude.{map, ◌≡◌, ℕ, ◌<◌, ◌-◌, Bool, List, [], filter, take, drop, length, bytes_eq}
use Rattle.std.specs.Prelude.{Option, None, Some, ⊤}
use Rattle.njh_spoolfile.specs.Kept.{File}
use Rattle.njh_listing.specs.Listed.{listed_files, name_text}
use Rattle.njh_listing.specs.declared.fault.FilesFault.{FilesFault}
use Rattle.njh_listing.specs.declared.fault.FilesFault.TheVariants.{NoFile, Several}

-- called so, as LYON.42
abbrev pub is_called : List ℕ → ℕ × File → Bool
is_called name e = bytes_eq (name_text e.1) name

-- the one of this number, counted from 1 on; all if no number is given
abbrev pub at_number : {X : Type 0} → Option ℕ → List X → List X
at_number None xs = xs
at_number (Some n) xs = drop (n - 1) (take n xs)

-- of files in the order of their list those of the name; with a number none but the one of that number
abbrev pub asked_in : (number : Option ℕ) → (name : List ℕ) → List (ℕ × File) → List (ℕ × File)
asked_in number name es = filter (is_called name) (at_number number es)

-- of all files, or the customer's: a file's number is that of its line in their listing
abbrev pub asked_of : (customer : Option (List ℕ)) → (number : Option ℕ) → (name : List ℕ) → List (ℕ × File)
    → List (ℕ × File)
asked_of customer number name es = asked_in number name (listed_files customer es)

-- the number under which a file's records are kept
abbrev pub key_in : ℕ × File → ℕ
key_in e = e.1.key

-- If it isn't one file that is asked for, and `named` are those of the name, whatever their numbers: none has the name;
-- or several are asked for, or none is and some have the name.
abbrev pub FitsFault : (keys named : List ℕ) → FilesFault → Type 0
FitsFault keys named (NoFile name) = (keys ≡ []) × (named ≡ [])
FitsFault keys named (Several list) = (length keys ≡ 1 → ⊥) × (length keys ≡ 0 → 0 < length named)
FitsFault keys named fault = ⊤

-- as these files say it of those that are asked for, and of those that are if no number is given
abbrev pub IsRefusedOf : (customer : Option (List ℕ)) → (number : Option ℕ) → (name : List ℕ) → List (ℕ × File)
    → FilesFault → Type 0
IsRefusedOf customer number name es fault =
    FitsFault (map key_in (asked_of customer number name es)) (map key_in (asked_of customer None name es)) fault
