-- The sections of a header (IBM SC23-0070): a prefix of four bytes, and sections, each with its length, of all its
-- bytes, in its first two bytes, and its type and modifier in the next two. The first whose type and modifier are 00 00
-- is the general one.
use Rattle.std.specs.Prelude.{◌≡◌, ◌≢◌, ℕ, ◌+◌, ◌<◌, ◌≤◌, ◌⊎◌, List, [], ◌++◌, length}
use Rattle.std.specs.List.{flat_map, AllByRecursion}
use Rattle.njh_record.specs.Bytes.{number_at}
use Rattle.njh_header.specs.declared.fault.HeaderFault.{HeaderFault}
use Rattle.njh_header.specs.declared.fault.HeaderFault.TheVariants.{TooShort, NoGeneralSection, BadName, SectionOverrun}

-- a whole section of another kind
pub record IsOther (section : List ℕ) : Type 0 where
  pub head : 4 ≤ length section
  pub whole : number_at 0 section ≡ length section
  pub kind : number_at 2 section ≢ 0

-- the header is its prefix, whole sections of other kinds up to a place, and then the rest
pub record Passes (header : List ℕ) (place : ℕ) (rest : List ℕ) : Type 0 where
  pub before : List ℕ
  pub four : length before ≡ 4
  pub sections : List (List ℕ)
  pub others : AllByRecursion IsOther sections
  pub parts : header ≡ before ++ flat_map (λ section. section) sections ++ rest
  pub end : place ≡ 4 + length (flat_map (λ section. section) sections)

-- a general section is at the front
pub record BeginsGeneral (rest : List ℕ) : Type 0 where
  pub head : 4 ≤ length rest
  pub length_field : 4 ≤ number_at 0 rest
  pub kind : number_at 2 rest ≡ 0

-- The header's general section begins at the place, and it and what is left of the header have this size at least.
pub record HasGeneral (size : ℕ) (header : List ℕ) (place : ℕ) : Type 0 where
  pub rest : List ℕ
  pub passes : Passes header place rest
  pub begins : BeginsGeneral rest
  pub long_enough : size ≤ number_at 0 rest
  pub whole : size ≤ length rest

-- the header's general section, or what is left of the header from there on, has less than the size
pub record HasSmallGeneral (size : ℕ) (header : List ℕ) : Type 0 where
  pub place : ℕ
  pub rest : List ℕ
  pub passes : Passes header place rest
  pub begins : BeginsGeneral rest
  pub small : (number_at 0 rest < size) ⊎ (length rest < size)

-- something is at the front, and it is less than a section's first four bytes, or a section shorter than these, or
-- one of another kind that isn't whole
pub record IsCut (rest : List ℕ) : Type 0 where
  pub some_left : 0 < length rest
  pub short : (length rest < 4) ⊎ ((number_at 0 rest < 4) ⊎ ((number_at 2 rest ≢ 0) × (length rest < number_at 0 rest)))

-- Why the header has no general section of this size.
abbrev pub LacksGeneral : ℕ → List ℕ → HeaderFault → Type 0
LacksGeneral size header TooShort = (length header < 4) ⊎ HasSmallGeneral size header
LacksGeneral size header NoGeneralSection = (place : ℕ) × Passes header place []
LacksGeneral size header SectionOverrun = (place : ℕ) × (rest : List ℕ) × Passes header place rest × IsCut rest
LacksGeneral size header BadName = ⊥
