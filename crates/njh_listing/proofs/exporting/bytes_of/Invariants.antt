use Rattle.std.proofs.Common.{◌≡◌, take}
use Rattle.std.specs.List.{flat_map}
use Rattle.njh_listing.proofs.exporting.bytes_of.Given as goal

abbrev pub invariant-loop-stored : goal.invariant-loop-stored
invariant-loop-stored l = l.text.items ≡ flat_map (λ s. s.bytes.items) (take l.stored-index l.records)
