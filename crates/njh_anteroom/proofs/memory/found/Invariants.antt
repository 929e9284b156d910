use Rattle.std.proofs.Common.{◌≡◌, drop}
use Rattle.njh_anteroom.specs.Remembered.{remembered_of}
use Rattle.njh_anteroom.proofs.memory.found.Given as goal

abbrev pub invariant-loop-remembered : goal.invariant-loop-remembered
invariant-loop-remembered l = remembered_of l.number (drop l.remembered-index l.all) ≡ remembered_of l.number l.all
