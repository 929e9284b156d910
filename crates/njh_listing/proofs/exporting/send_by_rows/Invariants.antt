use Rattle.std.proofs.Common.{◌≡◌, drop, map}
use Rattle.njh_spoolfile.specs.{Kept.{contents_of, entry_of}, Sent.as_stored}
use Rattle.njh_listing.specs.Exported.{records_by_rows}
use Rattle.njh_listing.proofs.exporting.send_by_rows.Given as goal

-- none of the rows that were gone by has the key
abbrev pub invariant-loop-stored : goal.invariant-loop-stored
invariant-loop-stored l =
    let all = map as_stored (map contents_of l.fn.records.items) in
    (l.records ≡ l.fn.records)
    × (records_by_rows l.key (map entry_of (drop l.stored-index l.files)) all
    ≡ records_by_rows l.key (map entry_of l.files) all)
