-- What the check of a table file says.
use Rattle.std.specs.Prelude.{◌≡◌, ◌⊎◌, ℕ, Bool, true, false, List, Option, Some, None, codes}
use Rattle.std.specs.Io.KnownBytes.{Appends}
use Rattle.std.specs.Str.{is_utf8}
use Rattle.njh_check.specs.Checks.{Tells}
use Rattle.njh_io.specs.Written.{AppendsBeginning}
use Rattle.njh_table.specs.declared.places.PlacedFault.{PlacedFault}
use Rattle.njh_subcommands.specs.TableBytes.{IsUnread}
use Rattle.njh_subcommands.specs.declared.failure.Failure.{Failure}
use Rattle.njh_subcommands.specs.declared.failure.Failure.TheVariants.{Found}
use Rattle.njh_subcommands.specs.declared.failure.Failure.TheVariants as failure

-- of a file that is no text
abbrev pub no_text_words : List ℕ
no_text_words = codes "K1 BadToml: not UTF-8\n"

-- what is said of bytes: the report of their tables, if they are right; or the first fault, if they aren't
abbrev pub IsSaidOf : (right : Bool) (bytes words : List ℕ) → Type 0
IsSaidOf true bytes words = (is_utf8 bytes ≡ true) × Tells bytes None words
IsSaidOf false bytes words = ((is_utf8 bytes ≡ true) × ((placed : PlacedFault) × Tells bytes (Some placed) words))
    ⊎ ((is_utf8 bytes ≡ false) × (words ≡ no_text_words))

-- it came after what had been written
abbrev pub IsToldOf : (right : Bool) (bytes : List ℕ) (old new : Option (List ℕ)) → Type 0
IsToldOf right bytes old new = (words : List ℕ) × IsSaidOf right bytes words × Appends old new words

-- of the bytes of a file, which no clause knows
abbrev pub IsTablesTold : (right : Bool) (old new : Option (List ℕ)) → Type 0
IsTablesTold right old new = (bytes : List ℕ) × IsToldOf right bytes old new

-- a beginning of what is said of some bytes came after what had been written
abbrev pub IsTablesBegun : (old new : Option (List ℕ)) → Type 0
IsTablesBegun old new = (right : Bool) × (bytes : List ℕ) × (words : List ℕ) × IsSaidOf right bytes words
    × AppendsBeginning old new words

-- why a check of tables ends otherwise than by a fault in them
abbrev pub MayTell : Failure → Type 0
MayTell why = (why ≡ Found) ⊎ (why ≡ failure.Device) ⊎ (why ≡ failure.Memory)

abbrev pub IsTablesEnd : Failure → Type 0
IsTablesEnd why = MayTell why ⊎ IsUnread why
