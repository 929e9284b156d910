use Rattle.std.proofs.Common.{◌≡◌, ◌<◌, ◌≤◌, ◌-◌, length, take}
use Rattle.std.specs.Vec.{vec_capacity}
use Rattle.njh_bisync.specs.Limits.{longest_frame}
use Rattle.njh_hub.specs.WholeHub.{HasLine, SameLines}
use Rattle.njh_hub.proofs.PieceLaws.{after_bytes}
use Rattle.njh_hub.proofs.hub.Hub.run_bytes.Given as goal

-- so many bytes were taken; of a piece that isn't all taken
abbrev pub invariant-loop-used : goal.invariant-loop-used
invariant-loop-used g l = record {
  within : l.taken ≤ length l.piece;
  left : 0 < l.taken → l.taken < length l.piece;
  parts : l.self ≡ (after_bytes l.fn.self l.id (take l.taken l.piece)).parts;
  sent : g.S.Sink.took l.fn.sink l.sink (after_bytes l.fn.self l.id (take l.taken l.piece)).sent;
  same : SameLines l.fn.self l.self;
  known : 0 < l.taken → HasLine l.fn.self l.id;
  room : 0 < l.taken → longest_frame ≤ vec_capacity l.out;
  first : l.taken ≡ 0 → vec_capacity l.out ≡ vec_capacity l.fn.out;
  counts : g.S.Sink.count l.fn.sink ≤ g.S.Sink.count l.sink;
}

abbrev pub decreases-loop-used : goal.decreases-loop-used
decreases-loop-used g l = length l.piece - l.taken
