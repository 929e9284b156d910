use Rattle.std.proofs.Common.{◌≡◌}
use Rattle.njh_lines.proofs.StateLaws.{AreMadeTo}
use Rattle.njh_service.specs.Revising.{line_reread}
use Rattle.njh_service.proofs.revising.take_from.Given as goal

-- the lines so far are as the tables say that were read, and nothing else changed
abbrev pub invariant-loop-place : goal.invariant-loop-place
invariant-loop-place g l = record {
  same : l.exchange ≡ record l.fn.exchange { lines = l.exchange.lines };
  made : AreMadeTo l.place (line_reread l.revision l.outcome) l.fn.exchange.lines l.exchange.lines;
}
