use Rattle.std.proofs.Common.{◌≡◌, ◌++◌}
use Rattle.njh_trace.specs.Sources.{dropped_at}
use Rattle.njh_trace.proofs.MappedLaws.{mapped_upto}
use Rattle.njh_trace.proofs.sources.drop_marked.Given as goal

abbrev pub invariant-loop-source : goal.invariant-loop-source
invariant-loop-source l = l.sources ≡ mapped_upto (dropped_at (l.name ++ l.direction)) l.source-index l.initial.sources
