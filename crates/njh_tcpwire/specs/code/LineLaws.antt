-- The laws that a line's connection owes of what it moves, by its protocol.
use Rattle.std.proofs.Common.{ℕ, List, [], ◌++◌}
use Rattle.njh_tcpwire.specs.Moves.{IsOfLine}
use Rattle.njh_tcpwire.specs.LineConnections.{line_moved}
use Rattle.njh_tcpwire.specs.code.MovesLaws.{moves_none, moves_then}
use Rattle.njh_tcpwire.specs.declared.line_connection.LineConnection.{LineConnection}
use Rattle.njh_tcpwire.specs.declared.line_connection.LineConnection.TheVariants.{Bisync, Tcp}

pub line_none : {C : Type 0} (moved : C → C → List ℕ → List ℕ → Type 0) → ((s : C) → moved s s [] [])
    → (s : LineConnection C) → line_moved moved s s [] []
line_none moved none (Bisync s) = none s
line_none moved none (Tcp s) = moves_none IsOfLine moved none s

pub line_more : {C : Type 0} (moved : C → C → List ℕ → List ℕ → Type 0)
    → ((a b c : C) (came next_came went next_went : List ℕ) → moved a b came went → moved b c next_came next_went
    → moved a c (came ++ next_came) (went ++ next_went))
    → (a b c : LineConnection C) (came next_came went next_went : List ℕ) → line_moved moved a b came went
    → line_moved moved b c next_came next_went → line_moved moved a c (came ++ next_came) (went ++ next_went)
line_more moved more (Bisync a) (Bisync b) (Bisync c) came next_came went next_went first then =
    more a b c came next_came went next_went first then
line_more moved more (Tcp a) (Tcp b) (Tcp c) came next_came went next_went first then =
    moves_then IsOfLine moved more a b c came next_came went next_went first then
line_more moved more (Bisync a) (Bisync b) (Tcp c) came next_came went next_went first then = absurd then
line_more moved more (Bisync a) (Tcp b) c came next_came went next_went first then = absurd first
line_more moved more (Tcp a) (Bisync b) c came next_came went next_went first then = absurd first
line_more moved more (Tcp a) (Tcp b) (Bisync c) came next_came went next_went first then = absurd then
