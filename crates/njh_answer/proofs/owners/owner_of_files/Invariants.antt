use Rattle.std.proofs.Common.{◌≡◌, take}
use Rattle.njh_hub.specs.WholeHub.{part}
use Rattle.njh_answer.specs.Owners.{owner_of_files}
use Rattle.njh_answer.proofs.owners.owner_of_files.Given as goal

abbrev pub invariant-loop-index : goal.invariant-loop-index
invariant-loop-index l =
    l.owner ≡ owner_of_files l.name (take l.index (part l.customer l.hub).customer.spool.whole)
