-- Records of a file are gathered for a row, and rows are written.
use Rattle.njh_keeper.proofs.Words
use Words.{◌≡◌, ℕ, ◌+◌, ◌-◌, ◌≤◌, ◌^◌, ◌<◌, List, [], ◌∷◌, ◌++◌, length, take, drop, map, refl}
use Words.{sym, ap, subst, ◌∙◌, arith, length-drop, length-map, length-take-le, map-append, take-append-drop, take-take}
use Words.{take_more, State, Stored, Record, SpoolContents, with_record, Changes, Leads, HasRecords}
use Words.{WritesUnder, SpoolWriter}
use Rattle.{std.proofs.lemmas.List.{drop-drop, drop-take, get_or-drop}, njh_spoolfile.proofs.PackedLaws.packed_more}
use Rattle.njh_spoolfile.proofs.PackedLaws.{unpacked_packed}
use Rattle.njh_spoolfile.specs.Packed.{packed, packed_one, unpacked_row}
use Rattle.njh_keeper.proofs.FrameLaws.{writes_nothing, writes_record, writes_then}
use Rattle.njh_keeper.proofs.LeadingLaws.{leads_by, leads_nothing, leads_then, leads_weaker}
use Rattle.njh_keeper.proofs.{ReachLaws.only_waits, RecordLaws.records_come_last}
use Rattle.njh_keeper.specs.code.Gathering.{Continues, Gathers, GoesForward, IsRecordAt, gathered}
use Rattle.njh_keeper.specs.{code.Mirrored.as_packed, declared.next_row.NextRow.NextRow}

take_both : (p n : ℕ) (xs : List Stored) → take (p + n) xs ≡ take p xs ++ take n (drop p xs)
take_both p n xs =
    sym (take-append-drop p (take (p + n) xs)) ∙ (λ i. take-take p (p + n) xs (omega arith) i ++ drop-take p n xs i)

some_unpacked : (rs : List (ℕ × List ℕ)) → 0 < length rs → unpacked_row 256 (packed rs) ≡ rs
some_unpacked [] some = absurd (omega (arith, some))
some_unpacked (r ∷ rs) some = unpacked_packed r rs

-- ---- what a row has

-- none so far
pub none_gathered : (all : List Stored) (row : NextRow) → row.count ≡ 0 → row.pack ≡ [] → Gathers all row
none_gathered all row none empty =
    let rest = drop row.place all in
    record {
      there = omega (arith, none);
      bytes = empty ∙ ap (λ n. packed (map as_packed (take n rest))) (sym none);
    }

module _ (all : List Stored) (row : NextRow) (g : Gathers all row) where
  -- one more
  pub one_more_gathered : (r : Stored) → IsRecordAt all (row.place + row.count) r
      → Gathers all (record row { count = row.count + 1; pack = row.pack ++ packed_one (as_packed r) })
  one_more_gathered r at =
      let rest = drop row.place all in
      let so_far = map as_packed (take row.count rest) in
      let there : row.count < length rest = omega (arith, at.0, length-drop row.place all) in
      let more : map as_packed (take (row.count + 1) rest) ≡ so_far ++ as_packed r ∷ [] =
      ap (map as_packed) (take_more rest row.count r there
      ∙ ap (λ x. take row.count rest ++ x ∷ []) (get_or-drop row.place all row.count r ∙ sym at.1))
      ∙ map-append as_packed (take row.count rest) (r ∷ []) in
      record {
        there = omega (arith, at.0);
        bytes = ap (λ bs. bs ++ packed_one (as_packed r)) g.bytes ∙ sym (packed_more so_far (as_packed r))
            ∙ ap packed (sym more);
      }

  abbrev as_row : Record
  as_row = record { key = row.key; place = row.place; srcb = 256; bytes = row.pack }

  -- it is written behind those that stand there
  row_is_written : row.place < 2 ^ 23 → 0 < row.count → (s : SpoolContents)
      → Continues row.key all row.place (row.place + row.count) s (with_record as_row s)
  row_is_written low some s file behind h has =
      let rs = gathered all row in
      let left = ap (λ (xs : List Stored). length xs) behind in
      let here : row.place ≡ length (take row.place file) =
      sym (length-take-le row.place file (omega (
        arith,
        g.there,
        some,
        left,
        length-drop row.place file,
        length-drop row.place all,
      ))) in
      let long : length rs ≡ row.count =
      length-take-le row.count (drop row.place all) (omega (arith, g.there, length-drop row.place all)) in
      let are : unpacked_row 256 row.pack ≡ map as_packed rs =
      ap (unpacked_row 256) g.bytes
      ∙ some_unpacked (map as_packed rs) (omega (arith, some, long, length-map rs as_packed)) in (
        writes_record row.key as_row s h low refl,
        subst (λ xs. HasRecords row.key xs (with_record as_row s))
            (sym (take_both row.place row.count file
            ∙ ap (λ xs. take row.place file ++ take row.count xs) behind))
            (records_come_last row.key (take row.place file) as_row s h has refl rs here are),
      )

  pub row_leads : row.place < 2 ^ 23 → 0 < row.count → {old new : State} → Changes (with_record as_row) old new
      → Leads (Continues row.key all row.place (row.place + row.count)) old new
  row_leads low some made =
      leads_weaker (leads_by made) (λ s t is file behind h has.
      subst (λ v. WritesUnder row.key s v × HasRecords row.key (take (row.place + row.count) file) v) (sym is)
      (row_is_written low some s file behind h has))

-- ---- rows one after the other

module _ (key : ℕ) (all : List Stored) where
  pub no_row_leads : (first next : ℕ) → first ≡ next → {at : State} → Leads (Continues key all first next) at at
  no_row_leads first next same =
      leads_nothing (λ s file behind h has.
      (writes_nothing key s h, subst (λ n. HasRecords key (take n file) s) same has))

  pub rows_lead : (first mid next : ℕ) {a b c : State} → first ≤ mid → Leads (Continues key all first mid) a b
      → Leads (Continues key all mid next) b c → Leads (Continues key all first next) a c
  rows_lead first mid next further one more =
      leads_then one more (λ s t u before after file behind h has.
      let two = before file behind h has in
      let left : first + (mid - first) ≡ mid = omega (arith, further) in
      let still : drop mid file ≡ drop mid all =
      ap (λ n. drop n file) (sym left) ∙ sym (drop-drop (mid - first) first file)
      ∙ ap (drop (mid - first)) behind ∙ drop-drop (mid - first) first all ∙ ap (λ n. drop n all) left in
      let three = after file still two.0.ordered two.1 in
      (writes_then key s t u two.0 three.0, three.1))

-- ---- what the writer counts

module _ {S : Type 0} where
  pub stays_there : (row : NextRow) (w : SpoolWriter S) → GoesForward row row w w
  stays_there row w = record { key = refl; place = omega arith; counted = omega arith; others = refl }

  pub goes_then : (a b c : NextRow) (u v w : SpoolWriter S) → GoesForward a b u v → GoesForward b c v w
      → GoesForward a c u w
  goes_then a b c u v w one more = record {
    key = more.key ∙ one.key;
    place = omega (arith, one.place, more.place);
    counted = omega (arith, one.counted, more.counted, one.place, more.place);
    others = only_waits u v w w.waiting one.others more.others;
  }
