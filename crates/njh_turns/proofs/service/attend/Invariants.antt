use Rattle.std.proofs.Common.{◌≡◌, List, length}
use Rattle.njh_hub.specs.WholeHub.{SameLines}
use Rattle.njh_turns.specs.Keeping.{IsSettled}
use Rattle.njh_turns.specs.Service.{Happening, Rests, service_rounds}
use Rattle.njh_turns.specs.Turns.{moment}
use Rattle.njh_turns.proofs.ServiceLaws.{IsAt}
use Rattle.njh_turns.proofs.service.attend.Given as goal

-- so many rounds are over
abbrev pub invariant-loop-turn : goal.invariant-loop-turn
invariant-loop-turn g l = record {
  story : (story : List Happening) × (length (service_rounds story) ≡ l.turn) ×
      IsAt g.W.Wire.says g.A.Attendant.steers l.fn.rounds.lines (moment l.fn.hub l.fn.rounds.quiets l.fn.wires) story
      (moment l.hub l.rounds.quiets l.wires);
  lines : l.rounds.lines ≡ l.fn.rounds.lines;
  same : SameLines l.fn.hub l.hub;
  rests : g.A.Attendant.stands l.attendant Rests;
  settled : IsSettled g.K.Keeper.says l.keeper l.hub;
  kept : g.K.Keeper.says.count l.keeper ≡ g.K.Keeper.says.count l.fn.keeper;
}
