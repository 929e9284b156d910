use Rattle.std.proofs.Common.{◌≡◌, ◌++◌, ◌-◌, map}
use Rattle.njh_spoolfile.specs.Kept.{contents_of}
use Rattle.njh_spoolfile.specs.Packed.{placed_from, unpacked, unpacked_up_to}
use Rattle.njh_spoolfile.proofs.packing.unpack.Given as goal

-- what is added, and what the bytes that are left have, are the records of the row
abbrev pub invariant-loop : goal.invariant-loop
invariant-loop l =
    map contents_of l.into.items ++ placed_from l.place (unpacked_up_to (l.end - l.counter) l.rest)
    ≡ map contents_of l.fn.into.items ++ placed_from l.fn.row.place (unpacked l.fn.row.bytes.items)
