-- Bytes written over those of a record.
use Rattle.std.proofs.Common.{◌≡◌, ℕ, zero, suc, ◌+◌, ◌<◌, ◌≤◌, List, [], ◌∷◌, ◌++◌, length, get_or, take, drop, refl}
use Rattle.std.proofs.Common.{sym, ap, ◌∙◌, arith, append_assoc}
use Rattle.std.specs.Prelude.{All, slice_get, IsSomeAnd}
use Rattle.std.specs.List.{AllByRecursion}
use Rattle.std.proofs.lemmas.List.{take-append-le, drop-append-le}
use Rattle.std.proofs.lemmas.List.Elements.{All-head, All-tail}
use Rattle.std.proofs.lemmas.List.Sums.{sum_by-cons}
use Rattle.njh_record.specs.Bytes.{with_field, two_bytes}
use Rattle.njh_record.specs.Stored.{Stored}
use Rattle.njh_spool.specs.declared.file_slot.RecordPlace.{RecordPlace}
use Rattle.njh_spool.specs.CustomerSpool.{stored_size, at_index, rewritten_record}
use Rattle.njh_spool.specs.code.Packing.{packed_record, packed_bytes, HasByteSrcb, IsShort}
use Rattle.njh_spool.specs.code.Slots.{IsPlace}
use Rattle.njh_spool.proofs.CostLaws.{length-with_field}
use Rattle.njh_spool.proofs.PackingLaws.{length-packed_record}

with_field-behind : (front bytes new : List ℕ) (place : ℕ)
    → with_field (length front + place) new (front ++ bytes) ≡ front
    ++ with_field place new bytes
with_field-behind [] bytes new place =
    ap (λ (n : ℕ). with_field n new bytes) (let e : 0 + place ≡ place = omega arith in e)
with_field-behind (x ∷ front) bytes new place =
    let start : suc (length front) + place ≡ suc (length front + place) = omega arith in
    let end : suc (length front + place) + length new ≡ suc (length front + place + length new) = omega arith in
    ap (λ (n : ℕ). with_field n new (x ∷ (front ++ bytes))) start
    ∙ ap (λ (n : ℕ). (x ∷ take (length front + place) (front ++ bytes)) ++ new ++ drop n (x ∷ (front ++ bytes))) end
    ∙ ap (λ (ys : List ℕ). x ∷ ys) (with_field-behind front bytes new place)

with_field-front : (bytes rest new : List ℕ) (place : ℕ) → place + length new ≤ length bytes →
    with_field place new (bytes ++ rest) ≡ with_field place new bytes ++ rest
with_field-front bytes rest new place fits =
    let before : take place (bytes ++ rest) ≡ take place bytes = take-append-le place bytes rest (omega arith) in
    let after : drop (place + length new) (bytes ++ rest) ≡ drop (place + length new) bytes ++ rest =
    drop-append-le (place + length new) bytes rest fits in
    ap (λ (xs : List ℕ). xs ++ new ++ drop (place + length new) (bytes ++ rest)) before
    ∙ ap (λ (xs : List ℕ). take place bytes ++ new ++ xs) after
    ∙ sym (append_assoc (take place bytes ++ new) (drop (place + length new) bytes) rest)

packed_rewritten : (r : Stored) (new : List ℕ) (place : ℕ) → place + length new ≤ length r.bytes →
    packed_record (rewritten_record place new r) ≡ with_field (3 + place) new (packed_record r)
packed_rewritten r new place fits =
    let front = r.srcb ∷ two_bytes (length r.bytes) in
    ap (λ (n : ℕ). (r.srcb ∷ two_bytes n) ++ with_field place new r.bytes) (length-with_field place new r.bytes fits)
    ∙ sym (with_field-behind front r.bytes new place)

pub packed-at_index : (k place : ℕ) (new : List ℕ) (records : List Stored) → k < length records →
    IsSomeAnd (slice_get records k) (λ r. place + length new ≤ length r.bytes) →
    with_field (stored_size (take k records) + 3 + place) new (packed_bytes records) ≡ packed_bytes
    (at_index k (rewritten_record place new) records)
packed-at_index k place new [] within fits = absurd (omega arith)
packed-at_index zero place new (r ∷ records) within fits =
    let start : stored_size [] + 3 + place ≡ 3 + place = omega arith in
    ap (λ (n : ℕ). with_field n new (packed_record r ++ packed_bytes records)) start
    ∙ with_field-front (packed_record r) (packed_bytes records) new (3 + place)
    (omega (arith, length-packed_record r, fits))
    ∙ ap (λ (xs : List ℕ). xs ++ packed_bytes records) (sym (packed_rewritten r new place fits))
packed-at_index (suc k) place new (r ∷ records) within fits =
    let before = sum_by-cons (λ (x : Stored). 3 + length x.bytes) r (take k records) in
    let start : stored_size (take (suc k) (r ∷ records)) + 3 + place ≡ length (packed_record r) +
    (stored_size (take k records) + 3 + place) = omega (arith, length-packed_record r, before) in
    ap (λ (n : ℕ). with_field n new (packed_record r ++ packed_bytes records)) start
    ∙ with_field-behind (packed_record r) (packed_bytes records) new (stored_size (take k records) + 3 + place)
    ∙ ap (λ (xs : List ℕ). packed_record r ++ xs) (packed-at_index k place new records (omega arith) fits)

All-cons : (P : Stored → Type 0) (x : Stored) (xs : List Stored) → P x → All P xs → All P (x ∷ xs)
All-cons P x xs here rest =
    λ k d within. elim k as (λ k'. k' < suc (length xs) → P (get_or (x ∷ xs) k' d)) [
      | zero ↦ λ _. here
      | suc k' ↦ λ w. rest k' d
          (omega arith)
    ] within

pub short-at_index : (k place : ℕ) (new : List ℕ) (records : List Stored) → IsSomeAnd (slice_get records k)
    (λ r. place + length new ≤ length r.bytes) → All IsShort records
    → All IsShort (at_index k (rewritten_record place new) records)
short-at_index k place new [] fits short = short
short-at_index zero place new (r ∷ records) fits short =
    let head : IsShort (rewritten_record place new r) = omega (
      arith,
      length-with_field place new r.bytes fits,
      All-head IsShort
          r records short,
    ) in
    All-cons IsShort (rewritten_record place new r) records head (All-tail IsShort r records short)
short-at_index (suc k) place new (r ∷ records) fits short =
    All-cons IsShort r (at_index k (rewritten_record place new) records) (All-head IsShort r records short)
    (short-at_index k place new records fits (All-tail IsShort r records short))

pub codes-at_index : (k place : ℕ) (new : List ℕ) (records : List Stored) → AllByRecursion HasByteSrcb records
    → AllByRecursion HasByteSrcb (at_index k (rewritten_record place new) records)
codes-at_index k place new [] codes = tt
codes-at_index zero place new (r ∷ records) codes = (codes.0, codes.1)
codes-at_index (suc k) place new (r ∷ records) codes = (codes.0, codes-at_index k place new records codes.1)

pub length-at_index : (k : ℕ) (f : Stored → Stored) (records : List Stored)
    → length (at_index k f records) ≡ length records
length-at_index k f [] = refl
length-at_index zero f (r ∷ records) = refl
length-at_index (suc k) f (r ∷ records) = ap suc (length-at_index k f records)

-- the places of all records are as they were
places-at_index : (j k place : ℕ) (new : List ℕ) (records : List Stored) → IsSomeAnd (slice_get records k)
    (λ r. place + length new ≤ length r.bytes)
    → stored_size (take j (at_index k (rewritten_record place new) records)) ≡
    stored_size (take j records)
places-at_index j k place new [] fits = refl
places-at_index zero k place new (r ∷ records) fits = refl
places-at_index (suc j) zero place new (r ∷ records) fits =
    omega (
      arith,
      sum_by-cons (λ (x : Stored). 3 + length x.bytes) (rewritten_record place new r) (take j records),
      sum_by-cons
          (λ (x : Stored). 3 + length x.bytes) r (take j records),
      length-with_field place new r.bytes fits,
    )
places-at_index (suc j) (suc k) place new (r ∷ records) fits =
    omega (
      arith,
      sum_by-cons (λ (x : Stored). 3 + length x.bytes) r (take j (at_index k (rewritten_record place new) records)),
      sum_by-cons (λ (x : Stored). 3 + length x.bytes) r (take j records),
      places-at_index j k place new records fits,
    )

-- a place that is kept stays one
pub place-rewritten : (k place : ℕ) (new : List ℕ) (records : List Stored) (keys : List ℕ) (at : RecordPlace) →
    IsSomeAnd (slice_get records k) (λ r. place + length new ≤ length r.bytes) → IsPlace records keys at →
    IsPlace (at_index k (rewritten_record place new) records) keys at
place-rewritten k place new records keys at fits is =
    record {
      before = omega (arith, is.before, length-at_index k (rewritten_record place new) records);
      place = is.place ∙ sym (places-at_index at.record_index k place new records fits);
      block = is.block;
    }
