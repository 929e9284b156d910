use Rattle.std.proofs.Common.{take}
use Rattle.std.specs.Io.KnownBytes.{Appends}
use Rattle.njh_replay.specs.Printed.{files_from}
use Rattle.njh_replay.proofs.files.print_files.Given as goal

abbrev pub invariant-loop-customer : goal.invariant-loop-customer
invariant-loop-customer g l = Appends (g.W.Write.contents l.fn.out) (g.W.Write.contents l.out)
    (files_from 0 (take l.customer l.customers) l.hub)
