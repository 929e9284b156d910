-- Blocks and the bytes that they hold.
use Rattle.std.proofs.Common.{◌≡◌, ℕ, zero, suc, ◌+◌, ◌/◌, ◌≤◌, List, [], ◌∷◌, ◌++◌, length, take, drop, refl, ap}
use Rattle.std.proofs.Common.{arith, length-append, length-take, length-drop}
use Rattle.std.specs.Prelude.{slice_get, IsSomeAnd}
use Rattle.std.proofs.lemmas.List.Sums.{sum_by_push, sum_by-cons}
use Rattle.njh_record.specs.Bytes.{with_field}
use Rattle.njh_record.specs.Stored.{Stored}
use Rattle.njh_spool.specs.CustomerSpool.{stored_size, cost, at_index, rewritten_record}

-- one record more
pub cost_push : (records : List Stored) (r : Stored)
    → cost (records ++ r ∷ []) ≡ (stored_size records + (3 + length r.bytes) + 251) / 252
cost_push records r = ap (λ (n : ℕ). (n + 251) / 252) (sum_by_push (λ (x : Stored). 3 + length x.bytes) records r)

-- bytes written over others leave the length
pub length-with_field : (place : ℕ) (new bytes : List ℕ) → place + length new ≤ length bytes →
    length (with_field place new bytes) ≡ length bytes
length-with_field place new bytes fits =
    omega (
      arith,
      length-append (take place bytes ++ new) (drop (place + length new) bytes),
      length-append (take place bytes)
          new,
      length-take place bytes,
      length-drop (place + length new) bytes,
    )

pub stored_size-rewritten : (k place : ℕ) (new : List ℕ) (records : List Stored) → IsSomeAnd (slice_get records k)
    (λ r. place + length new ≤ length r.bytes)
    → stored_size (at_index k (rewritten_record place new) records) ≡ stored_size records
stored_size-rewritten k place new [] within = refl
stored_size-rewritten zero place new (r ∷ records) within =
    omega (
      arith,
      sum_by-cons (λ (x : Stored). 3 + length x.bytes) (rewritten_record place new r) records,
      sum_by-cons
          (λ (x : Stored). 3 + length x.bytes) r records,
      length-with_field place new r.bytes within,
    )
stored_size-rewritten (suc k) place new (r ∷ records) within =
    omega (
      arith,
      sum_by-cons (λ (x : Stored). 3 + length x.bytes) r (at_index k (rewritten_record place new) records),
      sum_by-cons (λ (x : Stored). 3 + length x.bytes) r records,
      stored_size-rewritten k place new records within,
    )

pub cost-rewritten : (k place : ℕ) (new : List ℕ) (records : List Stored) → IsSomeAnd (slice_get records k)
    (λ r. place + length new ≤ length r.bytes) → cost (at_index k (rewritten_record place new) records) ≡ cost records
cost-rewritten k place new records within =
    ap (λ (n : ℕ). (n + 251) / 252) (stored_size-rewritten k place new records within)
