use Rattle.std.proofs.Common.{map, sym, ap, ◌∙◌, Bool}
use Rattle.njh_spoolfile.specs.{Kept.contents_of, Sent.as_stored}
use Rattle.njh_listing.specs.Exported.{export_text, record_bytes, record_line}
use Rattle.njh_listing.proofs.MapLaws.{flat_map_mapped, ok_other}
use Rattle.njh_listing.proofs.exporting.export_text.Goals as goal

pub returns-then-raw : goal.returns-then-raw
returns-then-raw c =
    let rows = map contents_of c.args.records.now in
    let all = map as_stored rows in
    ok_other (λ v. v.items) c.bytes_of.result _ _
    (flat_map_mapped (λ r. record_bytes (as_stored r)) contents_of c.args.records.now
    ∙ flat_map_mapped record_bytes as_stored rows
    ∙ ap (λ (b : Bool). export_text b all) (sym c.if-raw.true)) c.bytes_of.ensures

pub returns-else-raw : goal.returns-else-raw
returns-else-raw c =
    let rows = map contents_of c.args.records.now in
    let all = map as_stored rows in
    ok_other (λ v. v.items) c.lines_of.result _ _
    (flat_map_mapped (λ r. record_line (as_stored r)) contents_of c.args.records.now
    ∙ flat_map_mapped record_line as_stored rows
    ∙ ap (λ (b : Bool). export_text b all) (sym c.if-raw.false)) c.lines_of.ensures
