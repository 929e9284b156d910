-- What the records are that lie in a run of bytes.
use Rattle.std.proofs.Common.{◌≡◌, ℕ, zero, suc, ◌+◌, ◌*◌, ◌/◌, ◌%◌, ◌≤◌, List, [], ◌∷◌, ◌++◌, length, take, drop, refl}
use Rattle.std.proofs.Common.{ap, ◌∙◌, arith, length-append, append_assoc}
use Rattle.std.specs.Prelude.{All}
use Rattle.std.proofs.lemmas.List.{take_at, drop_at}
use Rattle.std.proofs.lemmas.List.Elements.{All-head, All-tail}
use Rattle.std.proofs.lemmas.List.Sums.{sum_by-cons}
use Rattle.njh_record.specs.Bytes.{field, number_at}
use Rattle.njh_record.specs.Stored.{Stored}
use Rattle.njh_spool.specs.CustomerSpool.{stored_size}
use Rattle.njh_spool.specs.code.Packing.{packed_record, packed_bytes, first_record, unpacked_records, IsShort}

pub length-packed_record : (r : Stored) → length (packed_record r) ≡ 3 + length r.bytes
length-packed_record r = omega arith

pub length-packed : (records : List Stored) → length (packed_bytes records) ≡ stored_size records
length-packed [] = refl
length-packed (r ∷ records) =
    omega (
      arith,
      length-append (packed_record r) (packed_bytes records),
      length-packed records,
      sum_by-cons
          (λ (x : Stored). 3 + length x.bytes) r records,
    )

pub packed-append : (records others : List Stored) → packed_bytes (records ++ others) ≡ packed_bytes records
    ++ packed_bytes others
packed-append [] others = refl
packed-append (r ∷ records) others = rw (packed-append records others, append_assoc) refl

pub length-unpacked : (n : ℕ) (bytes : List ℕ) → length (unpacked_records n bytes) ≡ n
length-unpacked zero bytes = refl
length-unpacked (suc n) bytes = ap suc (length-unpacked n (drop (3 + number_at 1 bytes) bytes))

two_bytes-back : (n : ℕ) → n ≤ 256 → 256 * (n / 256 % 256) + n % 256 ≡ n
two_bytes-back n short = omega arith

-- the record at the front of bytes that begin with one
pub first_is : (r : Stored) (rest : List ℕ) → IsShort r → number_at 1 (packed_record r ++ rest) ≡ length r.bytes
first_is r rest short = two_bytes-back (length r.bytes) short

pub first_record_is : (r : Stored) (rest : List ℕ) → IsShort r → first_record (packed_record r ++ rest) ≡ r
first_record_is r rest short =
    let size = first_is r rest short in
    let bytes : field 3 (number_at 1 (packed_record r ++ rest)) (packed_record r ++ rest) ≡ r.bytes =
    ap (λ (n : ℕ). take n (r.bytes ++ rest)) size ∙ take_at r.bytes rest (length r.bytes) refl in
    ap (λ (xs : List ℕ). record r { bytes = xs }) bytes

pub rest_is : (r : Stored) (rest : List ℕ) → IsShort r
    → drop (3 + number_at 1 (packed_record r ++ rest)) (packed_record r ++ rest) ≡ rest
rest_is r rest short =
    let size : 3 + number_at 1 (packed_record r ++ rest) ≡ length (packed_record r) =
    omega (arith, first_is r rest short) in
    ap (λ (n : ℕ). drop n (packed_record r ++ rest)) size
    ∙ drop_at (packed_record r) rest (length (packed_record r)) refl

-- what is packed is unpacked again, whatever follows
pub unpacked-packed : (records : List Stored) (rest : List ℕ) → All IsShort records → unpacked_records (length records)
    (packed_bytes records ++ rest) ≡ records
unpacked-packed [] rest short = refl
unpacked-packed (r ∷ records) rest short =
    let head = All-head IsShort r records short in
    let whole = append_assoc (packed_record r) (packed_bytes records) rest in
    let first = first_record_is r (packed_bytes records ++ rest) head in
    let after = rest_is r (packed_bytes records ++ rest) head in
    let others = unpacked-packed records rest (All-tail IsShort r records short) in
    ap (λ (xs : List ℕ). unpacked_records (suc (length records)) xs) whole
    ∙ ap (λ (x : Stored). x ∷ unpacked_records (length records)
    (drop (3 + number_at 1 (packed_record r ++ (packed_bytes records ++ rest)))
    (packed_record r ++ (packed_bytes records ++ rest)))) first
    ∙ ap (λ (xs : List ℕ). r ∷ unpacked_records (length records) xs) after
    ∙ ap (λ (xs : List Stored). r ∷ xs) others
