use Rattle.std.proofs.Common.{take}
use Rattle.njh_sites.specs.Opened.{IsApart}
use Rattle.njh_sites.proofs.opening.repeated.Given as goal

abbrev pub invariant-loop-place : goal.invariant-loop-place
invariant-loop-place l = IsApart (take l.place l.endpoints)
