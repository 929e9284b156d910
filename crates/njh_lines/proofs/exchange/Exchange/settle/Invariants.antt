use Rattle.std.proofs.Common.{◌≡◌, ℕ, ◌<◌, Some}
use Rattle.std.specs.Prelude.{false, slice_get}
use Rattle.njh_lines.specs.LineStates.{is_draining, line_settled}
use Rattle.njh_lines.specs.Watching.{ServedLine}
use Rattle.njh_lines.proofs.StateLaws.{AreMadeTo}
use Rattle.njh_lines.proofs.exchange.Exchange.settle.Given as goal

-- the lines so far are as a round leaves them, and if none of them drains that is known
abbrev pub invariant-loop-place : goal.invariant-loop-place
invariant-loop-place g l = record {
  made : AreMadeTo l.place (line_settled l.hub) l.fn.self.lines l.self.lines;
  drains : l.drains ≡ false → (p : ℕ) (line : ServedLine) → p < l.place → slice_get l.self.lines p ≡ Some line
      → is_draining line.state ≡ false;
}
