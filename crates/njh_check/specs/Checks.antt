-- What a check of a text tells.
use Rattle.std.specs.Prelude.{◌≡◌, ℕ, List, [], ◌∷◌, ◌++◌, Option, Some, None, Err, MatchOption, MatchResult}
use Rattle.std.specs.Prelude.{IfErr}
use Rattle.toml.specs.Parse.{parse_document}
use Rattle.njh_table.specs.declared.places.PlacedFault.{PlacedFault}
use Rattle.njh_table.specs.TableFile.{TableFile}
use Rattle.njh_table.specs.Walk.{walk_of}
use Rattle.njh_check.specs.FaultTexts.{IsFaultText}
use Rattle.njh_check.specs.Reports.{report_of}
use Rattle.njh_check.specs.Warnings.{warnings_of}

-- the report of a text's tables, and after it what may be a mistake in them
abbrev pub IsReport : (text : List ℕ) → TableFile → (written : List ℕ) → Type 0
IsReport text t written =
    MatchOption (parse_document text) ⊥ (λ document. written ≡ report_of t ++ warnings_of document t)

-- what is written: the report of tables that are right, or the text of their first fault and a line's end
abbrev pub Tells : List ℕ → Option PlacedFault → List ℕ → Type 0
Tells text None written = MatchResult (walk_of text) (λ t. IsReport text t written) (λ _. ⊥)
Tells text (Some placed) written =
    (walk_of text ≡ Err placed) × (told : List ℕ) × IsFaultText text placed told × (written ≡ told ++ 10 ∷ [])

-- the text of the first fault, if there is one
abbrev pub TellsFault : List ℕ → Option (List ℕ) → Type 0
TellsFault text None = IfErr (walk_of text) (λ _. ⊥)
TellsFault text (Some told) = MatchResult (walk_of text) (λ _. ⊥) (λ placed. IsFaultText text placed told)
