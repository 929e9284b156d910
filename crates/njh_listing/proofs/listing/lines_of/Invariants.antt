use Rattle.std.proofs.Common.{◌≡◌, take}
use Rattle.std.specs.List.{flat_map}
use Rattle.njh_spoolfile.specs.Kept.{file_of}
use Rattle.njh_listing.specs.Listed.{file_line}
use Rattle.njh_listing.proofs.listing.lines_of.Given as goal

abbrev pub invariant-loop-stored : goal.invariant-loop-stored
invariant-loop-stored l = l.text.items ≡ flat_map (λ s. file_line (file_of s.now.file)) (take l.stored-index l.list)
