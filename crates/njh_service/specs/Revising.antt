-- What a table file that changed brings the lines that are served.
use Rattle.std.specs.Prelude.{◌≡◌, ◌⊎◌, List, Option, unwrap_or}
use Rattle.njh_lines.specs.LineStates.{with_from, AreMade}
use Rattle.njh_lines.specs.Watching.{ServedLine}
use Rattle.njh_revision.specs.Origins.{from_known}
use Rattle.njh_revision.specs.Revisions.{KnownTables}
use Rattle.njh_revision.specs.declared.outcome.SourceOutcome.{SourceOutcome}

-- From where the peer of a line may connect is as the tables say that were read at a look, if they say it; else as
-- before.
abbrev pub line_reread : {F : Type 0} → Option KnownTables → SourceOutcome F → ServedLine → ServedLine
line_reread known outcome line = with_from (unwrap_or (from_known known outcome line.id) line.from) line

-- So it is with each line by what came of a look, if the source was looked at and had changed. Else all lines are as
-- before.
abbrev pub AreReread : (F : Type 0) → Option KnownTables → (old new : List ServedLine) → Type 0
AreReread F known old new = (new ≡ old)
    ⊎ ((outcome : SourceOutcome F) × AreMade (line_reread known outcome) old new)
