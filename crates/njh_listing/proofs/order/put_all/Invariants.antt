use Rattle.std.proofs.Common.{◌≡◌, ◌++◌, map}
use Rattle.njh_spoolfile.specs.Kept.{entry_of}
use Rattle.njh_listing.specs.Listed.{files_up_to}
use Rattle.njh_listing.specs.code.Lent.{entries_of}
use Rattle.njh_listing.proofs.order.put_all.Given as goal

abbrev pub invariant-loop-at : goal.invariant-loop-at
invariant-loop-at l = entries_of l.list.items ≡ entries_of l.fn.list.items ++ files_up_to l.at (map entry_of l.files)
