use Rattle.std.proofs.Common.{◌≡◌, List, length}
use Rattle.njh_hub.specs.WholeHub.{SameLines}
use Rattle.njh_turns.specs.Breaks.{AreWithheld}
use Rattle.njh_turns.specs.Keeping.{LeavesNoMore}
use Rattle.njh_turns.specs.Service.{in_round}
use Rattle.njh_turns.specs.Turns.{Turn, IsRound, moment}
use Rattle.njh_turns.proofs.rounds.Rounds.visit.Given as goal

-- the first wires had their turns
abbrev pub invariant-loop-i : goal.invariant-loop-i
invariant-loop-i g l = record {
  turns : (turns : List Turn) × (length turns ≡ l.i) ×
      IsRound g.W.Wire.says l.fn.self.lines (moment l.fn.hub l.fn.self.quiets l.fn.wires) turns
      (moment l.hub l.self.quiets l.wires);
  lines : l.self.lines ≡ l.fn.self.lines;
  same : SameLines l.fn.hub l.hub;
  asked : g.A.Attendant.stands l.attendant in_round;
  withheld : AreWithheld g.W.Wire.says l.fn.wires l.wires;
  knows : g.K.Keeper.says.knows l.keeper l.hub;
  leaves : LeavesNoMore g.K.Keeper.says l.fn.keeper l.keeper;
  kept : g.K.Keeper.says.count l.keeper ≡ g.K.Keeper.says.count l.fn.keeper;
}
