use Rattle.std.proofs.{Common.{◌≡◌, ◌<◌, ◌++◌, List, length, map, Some, ap, sym, ◌∙◌, arith}, lemmas.List.length-map}
use Rattle.{std.specs.Prelude.slice_get, njh_record.specs.Stored.Stored, njh_spoolfile.specs.Kept.contents_of}
use Rattle.{njh_spoolfile.specs.Sent.as_stored, njh_keeper.proofs.FileLaws.got}
use Rattle.njh_keeper.proofs.records.FileContentsFileRecords.copy_to.Goals as goal

pub returns : goal.returns
returns c =
    let items = c.self.inside.records.items in
    let r = c.index-record.result.now in
    let bytes : c.put_bytes.new.out.items ≡ r.bytes.items =
    c.put_bytes.ensures ∙ (λ i. c.clear.ensures i ++ c.as_slice.ensures.value i) in
    let there : c.args.n < length items =
    omega (
      arith,
      c.requires,
      ap (λ (xs : List Stored). length xs) c.self.view_is,
      length-map (map contents_of items) as_stored,
      length-map items contents_of,
    ) in
    ap (λ (xs : List Stored). slice_get xs c.args.n) (sym c.self.view_is)
    ∙ got items c.args.n r there c.index-record.ensures ∙ (λ i. Some (record { srcb = r.srcb; bytes = sym bytes i }))
