-- Where a file's records lie in its bytes.
use Rattle.std.proofs.Common.{◌≡◌, ℕ, zero, suc, ◌+◌, ◌<◌, ◌≤◌, List, [], ◌∷◌, ◌++◌, length, take, Some, refl, sym, ap}
use Rattle.std.proofs.Common.{subst, ◌∙◌, arith, length-append}
use Rattle.std.specs.Prelude.{All, slice_get}
use Rattle.std.proofs.lemmas.List.{take_at}
use Rattle.std.proofs.lemmas.List.Elements.{All-head, All-tail}
use Rattle.std.proofs.lemmas.List.Sums.{sum_by-cons}
use Rattle.njh_record.specs.Bytes.{field, two_bytes}
use Rattle.njh_record.specs.Stored.{Stored}
use Rattle.njh_spool.specs.declared.file_slot.FileSlot.{FileSlot}
use Rattle.njh_spool.specs.code.Chains.{Chain, IsBlockOf}
use Rattle.njh_spool.specs.CustomerSpool.{stored_size}
use Rattle.njh_spool.specs.code.Packing.{packed_record, packed_bytes, unpacked_records, IsShort}
use Rattle.njh_spool.specs.declared.file_slot.RecordPlace.{RecordPlace}
use Rattle.njh_spool.specs.declared.store.chain_block.ChainBlock.{ChainBlock}
use Rattle.njh_spool.specs.code.Slots.{IsPlace, IsFile}
use Rattle.njh_spool.proofs.PackingLaws.{length-packed_record, length-unpacked}

-- where a record lies
pub record LiesAt (bytes : List ℕ) (place : ℕ) (r : Stored) : Type 0 where
  pub within : place + (3 + length r.bytes) ≤ length bytes
  pub head : field place 3 bytes ≡ r.srcb ∷ two_bytes (length r.bytes)
  pub rest : field (place + 3) (length r.bytes) bytes ≡ r.bytes

field-behind : (front bytes : List ℕ) (place size : ℕ)
    → field (length front + place) size (front ++ bytes) ≡ field place size bytes
field-behind [] bytes place size = ap (λ (n : ℕ). field n size bytes) (let e : 0 + place ≡ place = omega arith in e)
field-behind (x ∷ front) bytes place size = ap (λ (n : ℕ). field n size (x ∷ (front ++ bytes)))
    (let e : suc (length front) + place ≡ suc (length front + place) = omega arith in e)
    ∙ field-behind front bytes place size

lies_first : (r : Stored) (rest : List ℕ) → LiesAt (packed_record r ++ rest) 0 r
lies_first r rest =
    record {
      within = omega (arith, length-append (packed_record r) rest, length-packed_record r);
      head = refl;
      rest = take_at r.bytes rest (length r.bytes) refl;
    }

lies_behind : (front bytes : List ℕ) (place : ℕ) (r : Stored) → LiesAt bytes place r
    → LiesAt (front ++ bytes) (length front + place) r
lies_behind front bytes place r lies =
    record {
      within = omega (arith, lies.within, length-append front bytes);
      head = field-behind front bytes place 3 ∙ lies.head;
      rest = ap (λ (n : ℕ). field n (length r.bytes) (front ++ bytes))
          (let e : length front + place + 3 ≡ length front +
          (place + 3) = omega arith in e) ∙ field-behind front bytes (place + 3) (length r.bytes) ∙ lies.rest;
    }

-- the k-th record lies behind those before it
pub record IsAt (records : List Stored) (k : ℕ) (r : Stored) : Type 0 where
  pub found : slice_get records k ≡ Some r
  pub lies : LiesAt (packed_bytes records) (stored_size (take k records)) r
  pub next : stored_size (take (suc k) records) ≡ stored_size (take k records) + (3 + length r.bytes)
  pub short : IsShort r

pub record_there : (records : List Stored) (k : ℕ) → k < length records → All IsShort records → (r : Stored)
    × IsAt records k r
record_there [] k within short = absurd (omega arith)
record_there (r ∷ records) zero within short = (
  r,
  record {
    found = refl;
    lies = lies_first r (packed_bytes records);
    next = refl;
    short =
        All-head IsShort r records short;
  },
)
record_there (r ∷ records) (suc k) within short =
    let rest = record_there records k (omega arith) (All-tail IsShort r records short) in
    let before = sum_by-cons (λ (x : Stored). 3 + length x.bytes) r (take k records) in
    let after = sum_by-cons (λ (x : Stored). 3 + length x.bytes) r (take (suc k) records) in
    let place : length (packed_record r) + stored_size (take k records) ≡ stored_size (take (suc k) (r ∷ records)) =
    omega (arith, length-packed_record r, before) in (
      rest.0,
      record {
        found = rest.1.found;
        lies = subst (λ (n : ℕ). LiesAt (packed_bytes (r ∷ records)) n rest.0) place
            (lies_behind (packed_record r) (packed_bytes records)
            (stored_size (take k records)) rest.0 rest.1.lies);
        next = omega (arith, rest.1.next, before, after);
        short = rest.1.short;
      },
    )

-- the same in a file
pub in_file : (slot : FileSlot) (chain : Chain) (k : ℕ) → IsFile slot chain → k < slot.count →
    (r : Stored) × IsAt (unpacked_records slot.count chain.bytes) k r × LiesAt chain.bytes
    (stored_size (take k (unpacked_records slot.count chain.bytes))) r
in_file slot chain k file within =
    let there =
    record_there (unpacked_records slot.count chain.bytes) k (omega (arith, length-unpacked slot.count chain.bytes))
    file.short in (
      there.0,
      there.1,
      subst (λ (bytes : List ℕ). LiesAt bytes (stored_size (take k (unpacked_records slot.count chain.bytes))) there.0)
          (sym file.bytes) there.1.lies,
    )

-- where the record after one begins
pub next_place : (slot : FileSlot) (chain : Chain) (from : RecordPlace) (r : Stored) (size : ℕ) (block : ChainBlock) →
    IsPlace (unpacked_records slot.count chain.bytes) chain.keys from
    → IsAt (unpacked_records slot.count chain.bytes) from.record_index r →
    from.record_index < slot.count → length r.bytes ≡ size → IsBlockOf chain.keys block
    → IsPlace (unpacked_records slot.count chain.bytes)
    chain.keys (record { record_index = from.record_index + 1; place = from.place + 3 + size; block = block })
next_place slot chain from r size block place here more length_is is_block =
    let next : from.record_index + 1 ≡ suc from.record_index = omega arith in
    let total : from.place + 3 + size ≡ stored_size (take (suc from.record_index)
    (unpacked_records slot.count chain.bytes)) =
    omega (arith, place.place, here.next) in
    record {
      before = omega (arith, length-unpacked slot.count chain.bytes);
      place = total ∙ ap (λ (n : ℕ). stored_size (take n (unpacked_records slot.count chain.bytes))) (sym next);
      block = is_block;
    }
