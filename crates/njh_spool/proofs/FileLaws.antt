-- A file's records in its chain: what a call on the chain makes of them.
use Rattle.std.proofs.Common.{◌≡◌, ℕ, zero, suc, ◌+◌, ◌*◌, ◌<◌, ◌≤◌, true, false, List, [], ◌∷◌, ◌++◌, length, take}
use Rattle.std.proofs.Common.{get_or, Some, refl, sym, ap, subst, ◌∙◌, arith, length-append}
use Rattle.std.specs.Prelude.{All, slice_get}
use Rattle.std.specs.List.{AllByRecursion}
use Rattle.std.proofs.lemmas.List.{take-append-le, append-nil}
use Rattle.std.proofs.lemmas.List.Elements.{All-head, All-tail}
use Rattle.njh_record.specs.Stored.{Stored}
use Rattle.njh_spool.specs.declared.file_slot.FileSlot.{FileSlot}
use Rattle.njh_spool.specs.declared.file_slot.RecordPlace.{RecordPlace}
use Rattle.njh_spool.specs.declared.file_slot.KeptPlaces.{KeptPlaces}
use Rattle.njh_spool.specs.declared.store.chain_block.ChainBlock.{ChainBlock}
use Rattle.njh_spool.specs.code.Chains.{Chain, IsBlockOf}
use Rattle.njh_spool.specs.CustomerSpool.{stored_size}
use Rattle.njh_spool.specs.code.Packing.{packed_record, packed_bytes, unpacked_records, HasByteSrcb, IsShort}
use Rattle.njh_spool.specs.code.Slots.{is_free, first_place, first_places, with_record, AreHeadersEnd, IsPlace}
use Rattle.njh_spool.specs.code.Slots.{ArePlaces, IsFile}
use Rattle.njh_spool.proofs.HeadersEndLaws.{headers_end-push}
use Rattle.njh_spool.proofs.PackingLaws.{length-packed, packed-append, length-unpacked}
use Rattle.njh_spool.proofs.PackingLaws.{unpacked-packed}

-- the records of bytes that are packed
pub records_are : (records : List Stored) (count : ℕ) (bytes : List ℕ) → All IsShort records → count ≡ length records →
    bytes ≡ packed_bytes records → unpacked_records count bytes ≡ records
records_are records count bytes short counted is =
    ap (λ (n : ℕ). unpacked_records n bytes) counted
    ∙ ap (unpacked_records (length records)) (is ∙ sym (append-nil (packed_bytes records)))
    ∙ unpacked-packed records [] short

-- a file of these records
pub file_of : (records : List Stored) (slot : FileSlot) (chain : Chain) → All IsShort records
    → AllByRecursion HasByteSrcb records → slot.count ≡ length records →
    chain.bytes ≡ packed_bytes records → (is_free slot.stage ≡ true → slot.count ≡ 0) → length chain.bytes ≤ 252 * 65535
    →
    AreHeadersEnd records slot.headers_end → ArePlaces records chain.keys slot.places → IsFile slot chain
file_of records slot chain short codes counted is free small headers_end places =
    let same = records_are records slot.count chain.bytes short counted is in
    record {
      bytes = is ∙ ap packed_bytes (sym same);
      short = subst (λ (rs : List Stored). All IsShort rs) (sym same) short;
      codes = subst (λ (rs : List Stored). AllByRecursion HasByteSrcb rs) (sym same) codes;
      free = free;
      small = small;
      headers_end = subst (λ (rs : List Stored). AreHeadersEnd rs slot.headers_end) (sym same) headers_end;
      places = subst (λ (rs : List Stored). ArePlaces rs chain.keys slot.places) (sym same) places;
    }

first_is : (records : List Stored) (keys : List ℕ) → IsPlace records keys first_place
first_is records keys = record { before = omega arith; place = refl; block = λ above. absurd (omega arith) }

pub first_are : (records : List Stored) (keys : List ℕ) (kept : KeptPlaces) → kept ≡ first_places
    → ArePlaces records keys kept
first_are records keys kept is =
    subst (λ (x : KeptPlaces). ArePlaces records keys x) (sym is)
    (record { last = first_is records keys; next = first_is records keys })

All-push : (P : Stored → Type 0) (xs : List Stored) (y : Stored) → All P xs → P y → All P (xs ++ y ∷ [])
All-push P [] y all here = λ k d within. elim k as (λ k'. k' < 1 → P (get_or (y ∷ []) k' d)) [
  | zero ↦ λ _. here
  | suc k' ↦ λ w. absurd (omega arith)
] within
All-push P (x ∷ xs) y all here =
    let rest = All-push P xs y (All-tail P x xs all) here in
    λ k d within. elim k as (λ k'. k' < suc (length (xs ++ y ∷ [])) → P (get_or (x ∷ (xs ++ y ∷ [])) k' d))
    [ zero ↦ λ _. All-head P x xs all | suc k' ↦ λ w. rest k' d (omega arith) ] within

codes-push : (xs : List Stored) (y : Stored) → AllByRecursion HasByteSrcb xs → HasByteSrcb y
    → AllByRecursion HasByteSrcb (xs ++ y ∷ [])
codes-push [] y all here = (here, tt)
codes-push (x ∷ xs) y all here = (all.0, codes-push xs y all.1 here)

-- a chain's block stays one where the chain grows
slice_get-front : (n i : ℕ) (xs : List ℕ) (key : ℕ) → slice_get (take n xs) i ≡ Some key → slice_get xs i ≡ Some key
slice_get-front zero i xs key found = cc
slice_get-front (suc n) i [] key found = found
slice_get-front (suc n) zero (x ∷ xs) key found = found
slice_get-front (suc n) (suc i) (x ∷ xs) key found = slice_get-front n i xs key found

pub block-grown : (keys keys' : List ℕ) (block : ChainBlock) → take (length keys) keys' ≡ keys → IsBlockOf keys block
    → IsBlockOf keys' block
block-grown keys keys' block front is = λ above. slice_get-front (length keys) block.index keys' block.key
    (ap (λ (ks : List ℕ). slice_get ks block.index) front ∙ is above)

-- a place stays one where a record more is put last
place-grown : (records : List Stored) (r : Stored) (keys keys' : List ℕ) (at : RecordPlace)
    → take (length keys) keys' ≡ keys →
    IsPlace records keys at → IsPlace (records ++ r ∷ []) keys' at
place-grown records r keys keys' at front is =
    record {
      before = omega (arith, is.before, length-append records (r ∷ []));
      place = is.place ∙ ap stored_size (sym (take-append-le at.record_index records (r ∷ []) is.before));
      block = block-grown keys keys' at.block front is.block;
    }

-- one record more
module _ (slot : FileSlot) (chain : Chain) (keys : List ℕ) (r : Stored) (file : IsFile slot chain) (short : IsShort r)
    (code : HasByteSrcb r) (front : take (length chain.keys) keys ≡ chain.keys) where
  abbrev records : List Stored
  records = unpacked_records slot.count chain.bytes

  abbrev longer : List Stored
  longer = records ++ r ∷ []

  abbrev chain' : Chain
  chain' = record { keys = keys; bytes = chain.bytes ++ packed_record r }

  abbrev slot' : FileSlot
  slot' = with_record r.srcb slot

  bytes_are : chain.bytes ++ packed_record r ≡ packed_bytes longer
  bytes_are = ap (λ (xs : List ℕ). xs ++ packed_record r) file.bytes ∙ ap (λ (xs : List ℕ). packed_bytes records ++ xs)
      (sym (append-nil (packed_record r))) ∙ sym (packed-append records (r ∷ []))

  counted : slot.count + 1 ≡ length longer
  counted = omega (arith, length-append records (r ∷ []), length-unpacked slot.count chain.bytes)

  all_short : All IsShort longer
  all_short = All-push IsShort records r file.short short

  pub appended-records : unpacked_records (slot.count + 1) (chain.bytes ++ packed_record r) ≡ longer
  appended-records = records_are longer (slot.count + 1) (chain.bytes ++ packed_record r) all_short counted bytes_are

  pub appended-file : is_free slot.stage ≡ false → length (chain.bytes ++ packed_record r) ≤ 252 * 65535
      → IsFile slot' chain'
  appended-file used small =
      file_of longer slot' chain' all_short (codes-push records r file.codes code) counted bytes_are
      (λ free. absurd (let clash : false ≡ true = sym used ∙ free in cc)) small
      (headers_end-push records r slot.headers_end slot.count file.headers_end
      (sym (length-unpacked slot.count chain.bytes))) (record {
        last = place-grown records r chain.keys keys slot.places.last front file.places.last;
        next = place-grown records r chain.keys keys slot.places.next front file.places.next;
      })

pub size_is : (slot : FileSlot) (chain : Chain) → IsFile slot chain
    → length chain.bytes ≡ stored_size (unpacked_records slot.count chain.bytes)
size_is slot chain file = ap length file.bytes ∙ length-packed (unpacked_records slot.count chain.bytes)
