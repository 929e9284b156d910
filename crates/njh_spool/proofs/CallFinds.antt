-- What a call on a customer's file finds, and what room the customer has.
use Rattle.std.proofs.Common.{◌≡◌, ℕ, ◌+◌, ◌-◌, ◌*◌, ◌/◌, ◌<◌, ◌≤◌, true, false, List, [], ◌∷◌, ◌++◌, length}
use Rattle.std.specs.Prelude.{slice_get, IsSomeAnd}
use Rattle.std.specs.Option.{ForSome}
use Rattle.njh_spool.specs.declared.file_slot.RecordPlace.{RecordPlace}
use Rattle.njh_spool.proofs.PlaceLaws.{within_some}
use Rattle.std.proofs.Common.{length-append, take, set, sum_by, Some, None, refl, sym, ap, ◌∙◌, arith}
use Rattle.std.proofs.lemmas.List.Sums.{sum_by-set, sum_by-cons}
use Rattle.njh_record.specs.Stored.{Stored}
use Rattle.njh_spool.specs.declared.SpoolFault.TheVariants.{QuotaFull, NoSuchFile}
use Rattle.njh_spool.specs.declared.file_slot.Stage.{Stage}
use Rattle.njh_spool.specs.declared.file_slot.Stage.TheVariants.{Free, Partial, Whole}
use Rattle.njh_spool.specs.declared.file_slot.FileSlot.{FileSlot}
use Rattle.njh_spool.specs.declared.customer_files.CustomerFiles.{CustomerFiles}
use Rattle.njh_spool.specs.code.Chains.{Chain, empty_chain, chain_at, with_chain, blocks_of, blocks_used}
use Rattle.njh_spool.specs.CustomerSpool.{CustomerSpool, WholeFile, cost, used_blocks, stored_size, partial_numbered}
use Rattle.njh_spool.specs.CustomerSpool.{whole_numbered, without_partial, with_finished, without_whole, on_file}
use Rattle.njh_spool.specs.Spools.{spool_at, append_fault, records_numbered}
use Rattle.njh_spool.specs.code.Packing.{packed_record, unpacked_records}
use Rattle.njh_spool.specs.code.Slots.{Content, contents, slot_of, chain_of, is_free, is_partial, is_whole_stage}
use Rattle.njh_spool.specs.code.Slots.{whole_file, partial_file, IsPlace, spools_of}
use Rattle.njh_spool.proofs.CostLaws.{cost_push}
use Rattle.njh_spool.proofs.IndexLaws.{at_is, small_used}
use Rattle.njh_spool.proofs.Calls.{Call}
use Rattle.njh_spool.proofs.Calls as calls
use Rattle.njh_spool.proofs.KeptLaws.{own_of, HasOwn, stays, used_all}
use Rattle.njh_spool.proofs.FileLaws.{size_is}
use Rattle.njh_spool.proofs.ReadLaws.{has_file, has_no_file, partial_stage as stage_of}
use Rattle.njh_spool.proofs.ReadLaws.{whole_not_partial as not_partial_of}
use Rattle.njh_spool.proofs.PackingLaws.{length-packed_record, length-unpacked}
use Rattle.njh_spool.proofs.PartialLaws as partial
use Rattle.njh_spool.proofs.WholeLaws as whole

-- where a call finds no partial file
pub record FindsNoPartial (spools : List CustomerSpool) (c n : ℕ) : Type 0 where
  pub none : partial_numbered n (spool_at c spools) ≡ None
  pub appends : (r : Stored) → append_fault n r (spool_at c spools) ≡ Some NoSuchFile
  pub abandons : spools ≡ set spools c (without_partial n (spool_at c spools))
  pub finishes : spools ≡ set spools c (with_finished n (spool_at c spools))

-- where it finds no whole one
pub record FindsNoWhole (spools : List CustomerSpool) (c n : ℕ) : Type 0 where
  pub none : whole_numbered n (spool_at c spools) ≡ None
  pub removes : spools ≡ set spools c (without_whole n (spool_at c spools))
  pub changes : (change : WholeFile → WholeFile) → spools ≡ set spools c (on_file n change (spool_at c spools))

pub not_free-partial : (stage : Stage) → is_partial stage ≡ true → is_free stage ≡ false
not_free-partial Free e = cc
not_free-partial Partial e = refl
not_free-partial (Whole state) e = refl

pub not_free-whole : (stage : Stage) → is_whole_stage stage ≡ true → is_free stage ≡ false
not_free-whole Free e = cc
not_free-whole Partial e = refl
not_free-whole (Whole state) e = refl

few_records : (records : List Stored) → length records ≤ stored_size records
few_records [] = omega arith
few_records (r ∷ records) =
    omega (arith, few_records records, sum_by-cons (λ (x : Stored). 3 + length x.bytes) r records)

module _ (here : Call) where
  open here use {customer as c, number as n, kept, spool.{store, slots, customers.{items as customers}}}

  pub has : HasOwn store slots customers c
  has = calls.has here

  -- the customer has a slot for each number
  pub row_fits : 1024 * c + 1024 ≤ length slots
  row_fits = omega (arith, has.slot_within 1023 (omega arith))

  abbrev spools : List CustomerSpool
  spools = spools_of customers (contents slots store.chains)

  abbrev own : CustomerFiles
  own = own_of customers c

  abbrev files : ℕ → Content
  files = contents slots store.chains c

  abbrev slot : FileSlot
  slot = slot_of slots c n

  abbrev chain : Chain
  chain = chain_of store.chains c n

  pub blocks_are : blocks_of chain.bytes ≡ cost (files n).records
  blocks_are = ap (λ (size : ℕ). (size + 251) / 252) (size_is slot chain (kept.files c n))

  pub finds_no_partial : is_partial slot.stage ≡ false → FindsNoPartial spools c n
  finds_no_partial other =
      let no = partial.has_no_partial own files n has.own other in
      record {
        none = ap (partial_numbered n) has.part ∙ no.none;
        appends = λ r. ap (append_fault n r) has.part ∙ no.appends r;
        abandons = stays customers (contents slots store.chains) c (without_partial n (spool_at c spools))
            (has.part ∙ sym no.abandons
            ∙ ap (without_partial n) (sym has.part));
        finishes = stays customers (contents slots store.chains) c (with_finished n (spool_at c spools))
            (has.part ∙ sym no.finishes
            ∙ ap (with_finished n) (sym has.part));
      }

  pub finds_no_whole : is_whole_stage slot.stage ≡ false → FindsNoWhole spools c n
  finds_no_whole other =
      let no = whole.has_no_whole own files n has.own other in
      record {
        none = ap (whole_numbered n) has.part ∙ no.none;
        removes =
            stays customers (contents slots store.chains) c (without_whole n (spool_at c spools))
            (has.part ∙ sym no.removes
            ∙ ap (without_whole n) (sym has.part));
        changes = λ change. stays customers (contents slots store.chains) c (on_file n change (spool_at c spools))
            (has.part ∙ sym (no.changes change) ∙ ap (on_file n change) (sym has.part));
      }

  pub chain_is : n < 1024 → chain_at (1024 * c + n) store ≡ chain
  chain_is small = sym (at_is store.chains empty_chain c n small)

  -- what a call finds
  pub finds_partial : is_partial slot.stage ≡ true
      → partial_numbered n (spool_at c spools) ≡ Some (partial_file files n)
  finds_partial there = ap (partial_numbered n) has.part
      ∙ partial.partial_is own files n has.own (stage_of slot.stage there)

  pub finds_whole : is_whole_stage slot.stage ≡ true → whole_numbered n (spool_at c spools) ≡ Some (whole_file files n)
  finds_whole there = ap (whole_numbered n) has.part
      ∙ whole.whole_is own files n has.own there (not_partial_of slot.stage there)

  -- the record that a call on a whole file names
  pub record_fits : (value : List CustomerSpool) (k place : ℕ) → spools ≡ value → is_whole_stage slot.stage ≡ true →
      ForSome (whole_numbered n (spool_at c value)) (λ f.
      IsSomeAnd (slice_get f.records k) (λ r. place + 8 ≤ length r.bytes)) →
      IsSomeAnd (slice_get (files n).records k) (λ r. place + 8 ≤ length r.bytes)
  record_fits value k place view there fits =
      fits (whole_file files n) (ap (λ (all : List CustomerSpool). whole_numbered n (spool_at c all)) (sym view)
      ∙ finds_whole there)

  pub record_within : (k : ℕ) (P : Stored → Type 0) → IsSomeAnd (slice_get (files n).records k) P → k < slot.count
  record_within k P fits = omega (arith, within_some (files n).records k P fits, length-unpacked slot.count chain.bytes)

  -- where it begins, found in the code's slot and chain
  pub record_begins : (slot' : FileSlot) (chain' : Chain) (from : RecordPlace) (k : ℕ) → slot' ≡ slot → chain' ≡ chain →
      IsPlace (unpacked_records slot'.count chain'.bytes) chain'.keys from → from.record_index ≡ k →
      from.place ≡ stored_size (take k (files n).records)
  record_begins slot' chain' from k same_slot same_chain at index =
      at.place
      ∙ ap (λ (x : FileSlot). stored_size (take from.record_index (unpacked_records x.count chain'.bytes))) same_slot
      ∙ ap (λ (x : Chain). stored_size (take from.record_index (unpacked_records slot.count x.bytes))) same_chain
      ∙ ap (λ (m : ℕ). stored_size (take m (files n).records)) index

  pub finds_records : is_free slot.stage ≡ false → records_numbered n (spool_at c spools) ≡ Some (files n).records
  finds_records used' = ap (records_numbered n) has.part ∙ (has_file own files n has.own used').records

  pub finds_no_records : is_free slot.stage ≡ true → records_numbered n (spool_at c spools) ≡ None
  finds_no_records free = ap (records_numbered n) has.part ∙ (has_no_file own files n has.own free).records

  pub small_partial : is_partial slot.stage ≡ true → n < 1024
  small_partial there = small_used slots c n (not_free-partial slot.stage there)

  pub small_whole : is_whole_stage slot.stage ≡ true → n < 1024
  small_whole there = small_used slots c n (not_free-whole slot.stage there)

  pub enough_partial : is_partial slot.stage ≡ true → cost (files n).records ≤ own.used
  enough_partial there = partial.covered own files n has.own (stage_of slot.stage there)

  pub whole_few : is_partial slot.stage ≡ true → length own.whole < 1024
  whole_few there =
      omega (arith, partial.few_whole own files n has.own (stage_of slot.stage there), has.own.sound.files_limit)

  pub enough_whole : is_whole_stage slot.stage ≡ true → cost (files n).records ≤ own.used
  enough_whole there = whole.covered own files n has.own there (not_partial_of slot.stage there)

  longer_is : (r : Stored) → blocks_of (chain.bytes ++ packed_record r) ≡ cost ((files n).records ++ r ∷ [])
  longer_is r =
      let size : length (chain.bytes ++ packed_record r) ≡ stored_size (files n).records + (3 + length r.bytes) =
      omega (
        arith,
        length-append chain.bytes (packed_record r),
        length-packed_record r,
        size_is slot chain (kept.files c n),
      ) in
      ap (λ (k : ℕ). (k + 251) / 252) size ∙ sym (cost_push (files n).records r)

  pub append_full : (r : Stored) → is_partial slot.stage ≡ true
      → own.quota < own.used - blocks_of chain.bytes + blocks_of
      (chain.bytes ++ packed_record r) → append_fault n r (spool_at c spools) ≡ Some QuotaFull
  append_full r there over =
      ap (append_fault n r) has.part ∙ partial.append_fault-full own files n has.own (stage_of slot.stage there) r
      (omega (arith, blocks_are, longer_is r))

  pub append_fits : (r : Stored) → is_partial slot.stage ≡ true → own.used - blocks_of chain.bytes + blocks_of
      (chain.bytes ++ packed_record r) ≤ own.quota → append_fault n r (spool_at c spools) ≡ None
  append_fits r there fits =
      ap (append_fault n r) has.part ∙ partial.append_fault-none own files n has.own (stage_of slot.stage there) r
      (omega (arith, blocks_are, longer_is r))

  -- the store has room for what the quota leaves
  pub room : (r : Stored) (keys : List ℕ) → is_partial slot.stage ≡ true → n < 1024 → own.used - blocks_of chain.bytes +
      blocks_of (chain.bytes ++ packed_record r) ≤ own.quota →
      ((blocks : ℕ) → used_blocks (spool_at c spools) + blocks ≤ (spool_at c spools).quota → sum_by used_blocks spools +
      blocks ≤ store.capacity) →
      blocks_used (with_chain (1024 * c + n) (record { keys = keys; bytes = chain.bytes ++ packed_record r }) store) ≤
      store.capacity
  room r keys there small fits leaves =
      let more = blocks_of (chain.bytes ++ packed_record r) - blocks_of chain.bytes in
      let enough = partial.covered own files n has.own (stage_of slot.stage there) in
      let used_is = ap used_blocks has.part in
      let quota_is = ap (λ (s : CustomerSpool). s.quota) has.part in
      let grows : blocks_of chain.bytes ≤ blocks_of (chain.bytes ++ packed_record r) =
      omega (arith, length-append chain.bytes (packed_record r)) in
      let left = leaves more (omega (arith, grows, fits, used_is, quota_is, has.own.counted, enough, blocks_are)) in
      let sums = sum_by-set (λ (x : Chain). blocks_of x.bytes) store.chains (1024 * c + n)
      (record { keys = keys; bytes = chain.bytes ++ packed_record r }) empty_chain (has.chain_within n small) in
      let here = ap (λ (x : Chain). blocks_of x.bytes) (chain_is small) in
      omega (arith, grows, sums, here, left, used_all store slots customers kept)

  pub count_small : slot.count ≤ 252 * 65535
  count_small =
      omega (
        arith,
        length-unpacked slot.count chain.bytes,
        few_records (files n).records,
        size_is slot chain (kept.files c n),
        (kept.files c n).small,
      )
