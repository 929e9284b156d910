use Rattle.std.proofs.Common.{◌≡◌, ℕ, ◌<◌, Some}
use Rattle.std.specs.Prelude.{true, slice_get}
use Rattle.njh_sight.specs.Streams.{is_free}
use Rattle.njh_lines.specs.Watching.{ServedLine}
use Rattle.njh_lines.proofs.exchange.Exchange.are_free.Given as goal

-- no file is on the streams of the lines so far
abbrev pub invariant-loop-place : goal.invariant-loop-place
invariant-loop-place g l = (p : ℕ) (line : ServedLine) → p < l.place → slice_get l.self.lines p ≡ Some line
    → is_free line.id l.hub ≡ true
