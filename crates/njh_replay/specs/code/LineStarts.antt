-- What the lines of `BYTES` for one line of the hub begin with.
use Rattle.std.specs.Prelude.{◌≡◌, ℕ, ◌==◌, false, List, [], ◌∷◌, ◌++◌, length, drop, All, Some}
use Rattle.std.specs.Str.{IsUtf8}
use Rattle.njh_table.specs.declared.LineId.{LineId}
use Rattle.njh_table.specs.TableFile.{TableFile, line_named, HasLine}

-- It is the word, a blank, the name of the line, which is text without a blank, and a blank.
pub record IsStart (tables : TableFile) (front : List ℕ) (id : LineId) : Type 0 where
  pub name : List ℕ
  pub spelled : front ≡ 66 ∷ 89 ∷ 84 ∷ 69 ∷ 83 ∷ 32 ∷ (name ++ 32 ∷ [])
  pub text : IsUtf8 name
  pub word : All (λ b. (b == 32) ≡ false) name
  pub owner : line_named tables name ≡ Some id
  pub known : HasLine tables id

-- A line begins with these bytes.
abbrev pub Begins : (front line : List ℕ) → Type 0
Begins front line = line ≡ front ++ drop (length front) line
