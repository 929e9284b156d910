-- What a TTR carries, by its data (NJE over TCP/IP).
use Rattle.std.specs.Prelude.{ℕ, ◌<◌, ◌≤◌, ◌==◌, ◌&&◌, if◌then◌else◌, List, [], ◌∷◌, length, Option, Some, None}
use Rattle.njh_bisync.specs.Limits.{longest_text}

pub data Carried : Type 0 where
  Enquiry : Carried
  Ack0 : Carried
  Text : List ℕ → Carried

-- a text has 1 to 4,096 bytes
abbrev pub IsCarried : Carried → Type 0
IsCarried Enquiry = Unit {0}
IsCarried Ack0 = Unit {0}
IsCarried (Text text) = (0 < length text) × (length text ≤ longest_text)

-- as long as a text may be
abbrev pub IsShort : Carried → Type 0
IsShort Enquiry = Unit {0}
IsShort Ack0 = Unit {0}
IsShort (Text text) = length text ≤ longest_text

-- 01 2D, or 10 70, or 10 02 and a text, in which 10 isn't doubled
abbrev pub data_of : Carried → List ℕ
data_of Enquiry = 0x01 ∷ 0x2D ∷ []
data_of Ack0 = 0x10 ∷ 0x70 ∷ []
data_of (Text text) = 0x10 ∷ 0x02 ∷ text

abbrev pub control_of : ℕ → ℕ → Option Carried
control_of first second =
    if (first == 0x01) && (second == 0x2D) then Some Enquiry else
    if (first == 0x10) && (second == 0x70) then Some Ack0 else None

-- what these data are, if anything
abbrev pub carried_by : List ℕ → Option Carried
carried_by [] = None
carried_by (first ∷ []) = None
carried_by (first ∷ second ∷ []) = control_of first second
carried_by (first ∷ second ∷ next ∷ more) =
    if (first == 0x10) && (second == 0x02) then Some (Text (next ∷ more)) else None
