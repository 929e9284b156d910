-- What a reader has left, step by step.
use Rattle.std.proofs.Common.{◌≡◌, ℕ, zero, suc, ◌+◌, ◌≤◌, List, [], ◌∷◌, drop, Option, None, Some, refl, ap, ◌∙◌}
use Rattle.std.proofs.Common.{arith}
use Rattle.std.specs.Prelude.{All, slice_get}
use Rattle.std.specs.List.{AllByRecursion}
use Rattle.std.specs.Option.{option_map}
use Rattle.std.proofs.lemmas.List.{drop_more, drop_all}
use Rattle.std.proofs.lemmas.List.Elements.{All-head, All-tail}
use Rattle.std.proofs.lemmas.Option.{slice_get_within, get_or_from_slice_get}
use Rattle.njh_record.specs.Stored.{Stored}
use Rattle.njh_spool.specs.declared.file_slot.FileSlot.{FileSlot}
use Rattle.njh_spool.specs.declared.file_slot.RecordPlace.{RecordPlace}
use Rattle.njh_spool.specs.Spools.{IsStorable}
use Rattle.njh_spool.specs.code.Chains.{Chain}
use Rattle.njh_spool.specs.code.Packing.{unpacked_records, HasByteSrcb, IsShort}
use Rattle.njh_spool.specs.code.RecordReader.{records_from}
use Rattle.njh_spool.proofs.PackingLaws.{length-unpacked}

pub none_left : (slot : FileSlot) (chain : Chain) (from : RecordPlace) → slot.count ≤ from.record_index
    → records_from slot chain from ≡ []
none_left slot chain from over =
    drop_all from.record_index (unpacked_records slot.count chain.bytes)
    (omega (arith, length-unpacked slot.count chain.bytes))

pub one_less : (slot : FileSlot) (chain : Chain) (from next : RecordPlace) (r : Stored) →
    slice_get (unpacked_records slot.count chain.bytes) from.record_index ≡ Some r
    → next.record_index ≡ from.record_index + 1 →
    records_from slot chain from ≡ r ∷ records_from slot chain next
one_less slot chain from next r found after =
    let records = unpacked_records slot.count chain.bytes in
    rw after (drop_more records from.record_index r (slice_get_within records from.record_index r found)
    ∙ ap (λ (x : Stored). x ∷ drop (from.record_index + 1) records)
    (get_or_from_slice_get records from.record_index r r found))

mapped : (found : Option Stored) (srcb : ℕ) → option_map (λ r. r.srcb) found ≡ Some srcb
    → (r : Stored) × (found ≡ Some r) × (r.srcb ≡ srcb)
mapped None srcb is = cc
mapped (Some r) srcb is = (r, refl, cc)

-- a record of which the SRCB alone is read
pub one_passed : (slot : FileSlot) (chain : Chain) (from next : RecordPlace) (srcb : ℕ) →
    option_map (λ r. r.srcb) (slice_get (unpacked_records slot.count chain.bytes) from.record_index) ≡ Some srcb
    → next.record_index ≡ from.record_index + 1
    → (r : Stored) × (r.srcb ≡ srcb)
    × (slice_get (unpacked_records slot.count chain.bytes) from.record_index ≡ Some r)
    × (records_from slot chain from ≡ r ∷ records_from slot chain next)
one_passed slot chain from next srcb found after =
    let r = mapped (slice_get (unpacked_records slot.count chain.bytes) from.record_index) srcb found in
    (r.0, r.2, r.1, one_less slot chain from next r.0 r.1 after)

-- those that are left can be stored
pub storable_from : (k : ℕ) (records : List Stored) → All IsShort records → AllByRecursion HasByteSrcb records
    → AllByRecursion IsStorable (drop k records)
storable_from zero [] short codes = tt
storable_from (suc k) [] short codes = tt
storable_from zero (r ∷ records) short codes =
    ((codes.0, All-head IsShort r records short), storable_from zero records (All-tail IsShort r records short) codes.1)
storable_from (suc k) (r ∷ records) short codes = storable_from k records (All-tail IsShort r records short) codes.1
