-- How far the records of a file reach that have headers: none, one more, one rewritten.
use Rattle.std.proofs.Common.{◌≡◌, ℕ, zero, suc, ◌+◌, ◌<◌, ◌≤◌, Bool, true, false, cond, ◌||◌, ◌⊎◌, List, [], ◌∷◌, ◌++◌}
use Rattle.std.proofs.Common.{length, drop, refl, sym, ap, ◌∙◌, inl, inr, arith, length-append}
use Rattle.std.specs.Prelude.{nat_lt}
use Rattle.std.specs.List.{list_any}
use Rattle.std.proofs.lemmas.Bool.{cases_lt, lt-ltb, le-ltb, ltb-false}
use Rattle.std.proofs.lemmas.List.{drop_all, drop-append-le}
use Rattle.std.proofs.lemmas.List.Folds.{list_any-append}
use Rattle.njh_record.specs.Stored.{Stored}
use Rattle.njh_spool.specs.CustomerSpool.{at_index, rewritten_record}
use Rattle.njh_spool.specs.Headers.{is_header, is_header_srcb}
use Rattle.njh_spool.specs.code.Slots.{AreHeadersEnd}

pub header_srcb : (srcb : ℕ) → (srcb ≡ 0xc0) ⊎ (srcb ≡ 0xe0) → is_header_srcb srcb ≡ true
header_srcb srcb (inl job) = ap is_header_srcb job
header_srcb srcb (inr data_set) = ap is_header_srcb data_set

any_behind : (k : ℕ) (records : List Stored) → length records ≤ k → list_any is_header (drop k records) ≡ false
any_behind k records far = ap (list_any is_header) (drop_all k records far)

pub no_headers : (n : ℕ) → n ≡ 0 → AreHeadersEnd [] n
no_headers n none = λ k. any_behind k [] (omega arith) ∙ sym (le-ltb k n (omega (arith, none)))

-- no more of them than records
few : (records : List Stored) (n : ℕ) → AreHeadersEnd records n → n ≤ length records
few records n reach =
    ltb-false (length records) n (sym (reach (length records)) ∙ any_behind (length records) records (omega arith))

any-push : (k : ℕ) (records : List Stored) (r : Stored) → k ≤ length records →
    list_any is_header (drop k (records ++ r ∷ [])) ≡ (list_any is_header (drop k records) || (is_header r || false))
any-push k records r within =
    ap (list_any is_header) (drop-append-le k records (r ∷ []) within)
    ∙ list_any-append is_header (drop k records) (r ∷ [])

or_last : (front : Bool) → (front || (true || false)) ≡ true
or_last true = refl
or_last false = refl

or_none : (front : Bool) → (front || (false || false)) ≡ front
or_none true = refl
or_none false = refl

-- one record more
pub headers_end-push : (records : List Stored) (r : Stored) (n count : ℕ) → AreHeadersEnd records n
    → count ≡ length records → AreHeadersEnd (records ++ r ∷ []) (cond (is_header r) (count + 1) n)
headers_end-push records r n count reach counted =
    λ k. elim (cases_lt (length records) k) [
      | inl behind ↦ any_behind k (records ++ r ∷ []) (omega (arith, length-append records (r ∷ [])))
          ∙ sym (at_end k (is_header r) behind)
      | inr within ↦ any-push k records r within ∙ at_front k (is_header r) within
    ]
  where
    at_end : (k : ℕ) (b : Bool) → length records < k → nat_lt k (cond b (count + 1) n) ≡ false
    at_end k true behind = le-ltb k (count + 1) (omega (arith, counted))
    at_end k false behind = le-ltb k n (omega (arith, few records n reach))

    at_front : (k : ℕ) (b : Bool) → k ≤ length records
        → (list_any is_header (drop k records) || (b || false)) ≡ nat_lt k (cond b (count + 1) n)
    at_front k true within =
        or_last (list_any is_header (drop k records)) ∙ sym (lt-ltb k (count + 1) (omega (arith, counted)))
    at_front k false within = or_none (list_any is_header (drop k records)) ∙ reach k

-- a record's other bytes make no header of it
any-rewritten : (j k place : ℕ) (new : List ℕ) (records : List Stored) →
    list_any is_header (drop j (at_index k (rewritten_record place new) records))
    ≡ list_any is_header (drop j records)
any-rewritten j k place new [] = refl
any-rewritten zero zero place new (r ∷ records) = refl
any-rewritten zero (suc k) place new (r ∷ records) =
    ap (λ (b : Bool). is_header r || b) (any-rewritten zero k place new records)
any-rewritten (suc j) zero place new (r ∷ records) = refl
any-rewritten (suc j) (suc k) place new (r ∷ records) = any-rewritten j k place new records

pub headers_end-rewritten : (k place : ℕ) (new : List ℕ) (records : List Stored) (n : ℕ) → AreHeadersEnd records n
    → AreHeadersEnd (at_index k (rewritten_record place new) records) n
headers_end-rewritten k place new records n reach = λ j. any-rewritten j k place new records ∙ reach j
