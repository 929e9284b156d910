use Rattle.std.proofs.Common.{◌≡◌, ◌≤◌}
use Rattle.njh_replay.proofs.RunPieces.{IsRunSoFar}
use Rattle.njh_replay.proofs.replaying.print_run.Given as goal

abbrev pub invariant-loop-index : goal.invariant-loop-index
invariant-loop-index g l = record {
  in_range : l.from ≤ l.index;
  so_far : IsRunSoFar l.fn.printer.names.now l.customers l.fn.hub l.hub l.events l.from l.index
      (g.W.Write.contents l.fn.printer.out.now) (g.W.Write.contents l.printer.out.now);
  names : l.printer.names.now ≡ l.fn.printer.names.now;
  same_reference : l.printer.out.ghost_name ≡ l.fn.printer.out.ghost_name;
}
