use Rattle.std.proofs.Common.{◌≡◌, ◌+◌, ◌≤◌, length, drop}
use Rattle.std.specs.Prelude.{All, IfSome}
use Rattle.njh_io.specs.Lines.{lines_of}
use Rattle.njh_replay.specs.ScriptRoutes.{IsNamedIn}
use Rattle.njh_replay.specs.code.LineStarts.{IsStart}
use Rattle.njh_replay.proofs.Lines.{Reads}
use Rattle.njh_replay.proofs.script.events_of.Given as goal

abbrev pub invariant-loop-line : goal.invariant-loop-line
invariant-loop-line l = record {
  reads : Reads l.tables (lines_of l.text) l.number l.events.items;
  named : All (IsNamedIn l.tables) l.events.items;
  within : l.number ≤ length (lines_of l.text);
  left : drop l.number (lines_of l.text) ≡ lines_of l.rest;
  start : IfSome l.start (λ start. IsStart l.tables start.front.now start.line);
  few : l.number + length l.rest ≤ length l.text;
}

abbrev pub decreases-loop-line : goal.decreases-loop-line
decreases-loop-line l = length l.rest
