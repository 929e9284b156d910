-- What is copied of one spool file into another.
use Rattle.std.specs.Prelude.{◌≡◌, ◌≢◌, ℕ, suc, ◌+◌, ◌<◌, ◌-◌, ◌^◌, Bool, true, List, [], ◌∷◌, ◌++◌, length, bytes_eq}
use Rattle.std.specs.Prelude.{Option, None, Some, ⊤}
use Rattle.std.specs.List.{AllByRecursion}
use Rattle.sqlite.specs.State.{State}
use Rattle.njh_spoolfile.specs.Kept.{File, SpoolContents, Whole, kept}
use Rattle.njh_spoolfile.specs.Lists.{kept_where}
use Rattle.njh_spoolfile.specs.CommitState.{Stands}
use Rattle.njh_spoolfile.specs.declared.copying.CopyFault.{CopyFault}
use Rattle.njh_spoolfile.specs.declared.copying.CopyFault.TheVariants.{Database, Damaged, Taken, Full}

-- a customer's file; any if no customer is named
abbrev pub is_asked : Option (List ℕ) → File → Bool
is_asked None file = true
is_asked (Some customer) file = bytes_eq file.customer customer

-- the whole files that are asked for, in the order of their arrival
abbrev pub asked : Option (List ℕ) → SpoolContents → List Whole
asked customer = kept_where (is_asked customer)

-- the same file with the same records, under other numbers
abbrev pub under : (id key : ℕ) → Whole → Whole
under id key w = record w { id = id; file = record w.file { key = key } }

-- the same files, each under the numbers after those of the one before it
abbrev pub numbered : (id key : ℕ) → List Whole → List Whole
numbered id key [] = []
numbered id key (w ∷ ws) = under id key w ∷ numbered (suc id) (suc key) ws

-- no file has one of these numbers, or one above them
abbrev pub AreBelow : (id key : ℕ) → List Whole → Type 0
AreBelow id key = AllByRecursion (λ w. (w.id < id) × (w.file.key < key))

-- The files that are asked for came behind those that the other spool had, of which none is asked for. They have new
-- numbers, and never the greatest one, which a hub takes for damage.
pub record IsCopied (customer : Option (List ℕ)) (from before after : SpoolContents) : Type 0 where
  pub id : ℕ
  pub key : ℕ
  pub behind : AreBelow id key (kept before)
  pub copies : kept after ≡ kept before ++ numbered id key (asked customer from)
  pub low : AreBelow (2 ^ 63 - 1) (2 ^ 32 - 1) (kept after)
  pub none : asked customer before ≡ []

-- so many did, and all is committed
pub record IsCopiedInto (customer : Option (List ℕ)) (count : ℕ) (from before : SpoolContents) (at : State) : Type 0
  where
    pub after : SpoolContents
    pub stands : Stands (record { now = after; kept = after }) at
    pub copied : IsCopied customer from before after
    pub how_many : count ≡ length (asked customer from)

-- each record has a subrecord control byte
abbrev pub HaveControlBytes : List Whole → Type 0
HaveControlBytes = AllByRecursion (λ w. AllByRecursion (λ r. r.1 < 256) w.records)

-- there are numbers for so many files behind these
pub record HasRoom (count : ℕ) (ws : List Whole) : Type 0 where
  pub id : ℕ
  pub key : ℕ
  pub some : (0 < id) × (0 < key)
  pub behind : AreBelow id key ws
  pub low : (id + count < 2 ^ 63) × (key + count < 2 ^ 32)

-- what a fault says of the two spools
abbrev pub FitsFault : Option (List ℕ) → (from before : SpoolContents) → CopyFault → Type 0
FitsFault customer from before (Database error) = ⊤
FitsFault customer from before Damaged = (asked customer before ≡ []) × ¬ HaveControlBytes (asked customer from)
FitsFault customer from before Taken = asked customer before ≢ []
FitsFault customer from before Full =
    (asked customer before ≡ []) × ¬ HasRoom (length (asked customer from)) (kept before)
