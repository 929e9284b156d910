use Rattle.std.proofs.Common.{◌≡◌, ◌<◌, ◌≤◌, ◌-◌, length, map, take}
use Rattle.std.specs.Vec.{vec_capacity}
use Rattle.njh_bisync.specs.Limits.{longest_frame}
use Rattle.njh_hub.specs.WholeHub.{SameLines}
use Rattle.njh_hub.proofs.PieceLaws.{after_bytes}
use Rattle.njh_turns.specs.Keeping.{LeavesNoMore}
use Rattle.njh_turns.specs.Service.{in_round}
use Rattle.njh_turns.specs.Wires.{sent_act}
use Rattle.njh_turns.proofs.turn.pass_bytes.Given as goal

-- so many bytes were used, the keeper followed, each frame was written, and none went out
abbrev pub invariant-loop-taken : goal.invariant-loop-taken
invariant-loop-taken g l = record {
  within : l.taken ≤ length l.piece;
  parts : l.hub ≡ (after_bytes l.fn.hub l.at.line (take l.taken l.piece)).parts;
  acts : g.W.Wire.says.passed l.fn.wire l.wire (map sent_act (after_bytes l.fn.hub l.at.line (take l.taken l.piece)).sent);
  same : SameLines l.fn.hub l.hub;
  seen : 0 < l.taken → g.A.Attendant.saw l.attendant l.at.place l.hub l.out.items;
  asked : g.A.Attendant.stands l.attendant in_round;
  room : longest_frame ≤ vec_capacity l.out;
  counts : g.W.Wire.says.count l.fn.wire ≤ g.W.Wire.says.count l.wire;
  withheld : g.W.Wire.says.withheld l.fn.wire l.wire;
  knows : g.K.Keeper.says.knows l.keeper l.hub;
  leaves : LeavesNoMore g.K.Keeper.says l.fn.keeper l.keeper;
  kept : g.K.Keeper.says.count l.keeper ≡ g.K.Keeper.says.count l.fn.keeper;
}

abbrev pub decreases-loop-taken : goal.decreases-loop-taken
decreases-loop-taken g l = length l.piece - l.taken
