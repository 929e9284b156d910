use Rattle.std.proofs.Common.{◌≡◌, ◌++◌, map, take}
use Rattle.njh_spoolfile.specs.Kept.{entry_of}
use Rattle.njh_listing.specs.Listed.{files_of}
use Rattle.njh_listing.specs.code.Lent.{entries_of}
use Rattle.njh_listing.proofs.order.put_customer.Given as goal

abbrev pub invariant-loop-stored : goal.invariant-loop-stored
invariant-loop-stored l = entries_of l.list.items ≡ entries_of l.fn.list.items
    ++ files_of l.customer (map entry_of (take l.stored-index l.files))
