use Rattle.std.proofs.Common.{◌≡◌, take}
use Rattle.std.specs.List.{flat_map}
use Rattle.njh_spoolfile.specs.Kept.{contents_of}
use Rattle.njh_spoolfile.specs.Sent.{as_stored}
use Rattle.njh_listing.specs.Exported.{record_line}
use Rattle.njh_listing.proofs.exporting.lines_of.Given as goal

abbrev pub invariant-loop-stored : goal.invariant-loop-stored
invariant-loop-stored l =
    l.text.items ≡ flat_map (λ s. record_line (as_stored (contents_of s))) (take l.stored-index l.records)
