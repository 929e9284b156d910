use Rattle.std.proofs.Common.{◌≡◌, slice_set, take}
use Rattle.njh_spool.specs.Spools.{spool_at}
use Rattle.njh_spool.specs.code.Growing.{with_more}
use Rattle.njh_spool.proofs.restoring.append_all.Given as goal

-- the records so far are in the file
abbrev pub invariant-loop-n : goal.invariant-loop-n
invariant-loop-n g l =
    l.spool ≡ slice_set l.initial.spool l.customer
    (with_more l.id (take l.n (g.F.FileRecords.records l.file)) (spool_at l.customer l.initial.spool))
