use Rattle.std.proofs.Common.{◌≡◌, ◌≤◌, ◌⊎◌, take}
use Rattle.std.specs.Prelude.{All}
use Rattle.std.specs.Vec.{vec_capacity}
use Rattle.njh_bisync.specs.Limits.{longest_frame}
use Rattle.njh_hub.specs.RunStops.{IsGiven}
use Rattle.njh_hub.specs.WholeHub.{AreTaken, IsNamed, SameLines, hub_run}
use Rattle.njh_hub.proofs.hub.Hub.run.Given as goal

-- so many events have happened
abbrev pub invariant-loop-index : goal.invariant-loop-index
invariant-loop-index g l = record {
  parts : l.self ≡ (hub_run l.fn.self (take l.index l.events)).parts;
  sent : g.S.Sink.took l.fn.sink l.sink (hub_run l.fn.self (take l.index l.events)).sent;
  known : All (IsNamed l.fn.self) (take l.index l.events);
  same : SameLines l.fn.self l.self;
  room : All IsGiven (take l.index l.events) ⊎ (longest_frame ≤ vec_capacity l.out);
  orders : AreTaken l.fn.self (take l.index l.events);
  counts : g.S.Sink.count l.fn.sink ≤ g.S.Sink.count l.sink;
}
