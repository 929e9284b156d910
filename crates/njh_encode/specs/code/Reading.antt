-- A text in words that comes in pieces.
use Rattle.std.specs.Prelude.{◌≡◌, ℕ, List, [], ◌∷◌, ◌++◌, Option}
use Rattle.std.specs.Io.KnownBytes.{Appends}
use Rattle.njh_io.specs.Lines.{lines_from}
use Rattle.njh_io.specs.Written.{AppendsBeginning}
use Rattle.njh_encode.specs.declared.fault.EncodeFault.{EncodeFault}
use Rattle.njh_encode.specs.declared.line_states.LineState.{LineState}
use Rattle.njh_encode.specs.Scripts.{Encoding, LinesBecome, Texts, behind_script}

-- what is kept from piece to piece: what is kept of each line of the hub, the number of the next line, and what has
-- come of it
pub record Progress : Type 0 where
  pub states : List LineState
  pub number : ℕ
  pub front : List ℕ

-- what still becomes of a text after a progress of it
abbrev pub BecomesBehind : (known : Option Texts) → Progress → (text : List ℕ) (encoding : Encoding) → Type 0
BecomesBehind known at text encoding = LinesBecome known at.states at.number (lines_from at.front text) encoding

-- A piece becomes this script, whatever follows it.
abbrev pub Takes : (known : Option Texts) → Progress → (piece script : List ℕ) → Progress → Type 0
Takes known old piece script new = (more : List ℕ) (encoding : Encoding) → BecomesBehind known new more encoding
    → BecomesBehind known old (piece ++ more) (behind_script script encoding)

-- A piece becomes this script up to a bad line, whatever follows it.
abbrev pub EndsBad : (known : Option Texts) → Progress → (piece : List ℕ) → Encoding → Type 0
EndsBad known old piece encoding = (more : List ℕ) → BecomesBehind known old (piece ++ more) encoding

-- a line became these lines of a script, whatever follows it
abbrev pub TakesLine : (known : Option Texts) → Progress → (line script : List ℕ) → Progress → Type 0
TakesLine known old line script new = (rest : List (List ℕ)) (encoding : Encoding)
    → LinesBecome known new.states new.number rest encoding
    → LinesBecome known old.states old.number (line ∷ rest) (behind_script script encoding)

-- a line is bad
abbrev pub IsBadLine : (known : Option Texts) → Progress → (line : List ℕ) → Encoding → Type 0
IsBadLine known old line encoding = (rest : List (List ℕ))
    → LinesBecome known old.states old.number (line ∷ rest) encoding

-- What the last line becomes that has no end of its own was written; or a beginning of what a text becomes was.
abbrev pub IsWritten : (known : Option Texts) (bad : Option EncodeFault) → Progress → (old new : Option (List ℕ))
    → Type 0
IsWritten known bad at old new = (encoding : Encoding) × BecomesBehind known at [] encoding × (encoding.bad ≡ bad)
    × Appends old new encoding.script

abbrev pub IsWrittenInPart : (known : Option Texts) → Progress → (old new : Option (List ℕ)) (text : List ℕ) → Type 0
IsWrittenInPart known at old new text = (encoding : Encoding) × BecomesBehind known at text encoding
    × AppendsBeginning old new encoding.script
