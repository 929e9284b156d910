-- A file's records, one by one to another node.
use Rattle.std.proofs.Common.{◌≡◌, ◌<◌, ℕ, zero, suc, List, [], ◌∷◌, ◌++◌, length, take, drop, set, Option, Some, None}
use Rattle.std.proofs.Common.{slice_get, refl, sym, ap, ◌∙◌, not-suc-le-zero, le_of_suc-le-suc}
use Rattle.std.proofs.lemmas.List.{set-get_or}
use Rattle.njh_record.specs.Stored.{Stored}
use Rattle.njh_record.specs.declared.Kind.{Kind}
use Rattle.njh_spool.specs.CustomerSpool.{at_index, rewritten_record}
use Rattle.njh_header.specs.Redirecting.{destination_place, records_to_node, redirected_record}
use Rattle.njh_command.specs.Files.{no_record, stored_at, with_redirected}
use Rattle.njh_command.proofs.UpTo.{redirected_up_to, srcb_before}

-- the record that was read
pub record_is : (records : List Stored) (n : ℕ) (r : Stored) → slice_get records n ≡ Some r → stored_at n records ≡ r
record_is [] n r e = absurd (cc e)
record_is (x ∷ xs) zero r e = some_is e
  where
    or_none : Option Stored → Stored
    or_none o = elim o [ Some f ↦ f | None ↦ no_record ]

    some_is : Some x ≡ Some r → x ≡ r
    some_is same = ap or_none same
record_is (x ∷ xs) (suc n) r e = record_is xs n r e

pub at_index_is : (n : ℕ) (f : Stored → Stored) (records : List Stored)
    → at_index n f records ≡ set records n (f (stored_at n records))
at_index_is zero f [] = refl
at_index_is (suc n) f [] = refl
at_index_is zero f (r ∷ rs) = refl
at_index_is (suc n) f (r ∷ rs) = ap (λ rest. r ∷ rest) (at_index_is n f rs)

-- it is rewritten where it names a node
pub redirected_here :
    (kind : Kind) (before : Option ℕ) (node : List ℕ) (n place : ℕ) (records : List Stored) (r : Stored)
    → slice_get records n ≡ Some r
    → destination_place kind before r ≡ Some place
    → at_index n (rewritten_record place node) records ≡ with_redirected kind before node n records
redirected_here kind before node n place records r read named =
    at_index_is n (rewritten_record place node) records
    ∙ ap (λ o. set records n (redirected_record node o (stored_at n records)))
    (sym (ap (destination_place kind before) (record_is records n r read) ∙ named))

-- and stays where it names none
pub redirected_nowhere :
    (kind : Kind) (before : Option ℕ) (node : List ℕ) (n : ℕ) (records : List Stored) (r : Stored)
    → slice_get records n ≡ Some r
    → destination_place kind before r ≡ None → records ≡ with_redirected kind before node n records
redirected_nowhere kind before node n records r read named =
    sym (set-get_or records n no_record)
    ∙ ap (λ o. set records n (redirected_record node o (stored_at n records)))
    (sym (ap (destination_place kind before) (record_is records n r read) ∙ named))

-- ---- the walk

-- the SRCB before the n-th of these, behind one before them
abbrev before_from : Option ℕ → ℕ → List Stored → Option ℕ
before_from before zero records = before
before_from before (suc n) records = Some (stored_at n records).srcb

-- from a record on, behind one with this SRCB
more_from :
    (kind : Kind) (before : Option ℕ) (node : List ℕ) (n : ℕ) (records : List Stored) → n < length records
    → set (records_to_node kind node before (take n records) ++ drop n records) n
    (redirected_record node (destination_place kind (before_from before n records) (stored_at n records))
    (stored_at n records))
    ≡ records_to_node kind node before (take (suc n) records) ++ drop (suc n) records
more_from kind before node n [] h = absurd (not-suc-le-zero h)
more_from kind before node zero (r ∷ rs) h = refl
more_from kind before node (suc zero) (r ∷ []) h = absurd (not-suc-le-zero (le_of_suc-le-suc h))
more_from kind before node (suc zero) (r ∷ s ∷ rs) h = refl
more_from kind before node (suc (suc n)) (r ∷ rs) h =
    ap (λ rest. redirected_record node (destination_place kind before r) r ∷ rest)
    (more_from kind (Some r.srcb) node (suc n) rs
    (le_of_suc-le-suc h))

-- the n-th isn't changed yet
not_yet_from :
    (kind : Kind) (before : Option ℕ) (node : List ℕ) (n : ℕ) (records : List Stored) → n < length records
    → stored_at n (records_to_node kind node before (take n records) ++ drop n records) ≡ stored_at n records
not_yet_from kind before node n [] h = absurd (not-suc-le-zero h)
not_yet_from kind before node zero (r ∷ rs) h = refl
not_yet_from kind before node (suc n) (r ∷ rs) h = not_yet_from kind (Some r.srcb) node n rs (le_of_suc-le-suc h)

same_before : (n : ℕ) (records : List Stored) → before_from None n records ≡ srcb_before n records
same_before zero records = refl
same_before (suc n) records = refl

pub not_yet : (kind : Kind) (node : List ℕ) (n : ℕ) (records : List Stored) → n < length records
    → stored_at n (redirected_up_to kind node n records) ≡ stored_at n records
not_yet kind node n records h = not_yet_from kind None node n records h

pub one_more : (kind : Kind) (node : List ℕ) (n : ℕ) (records : List Stored) → n < length records
    → with_redirected kind (srcb_before n records) node n (redirected_up_to kind node n records) ≡ redirected_up_to kind
    node (suc n)
    records
one_more kind node n records h =
    ap (λ r. set (redirected_up_to kind node n records) n
    (redirected_record node (destination_place kind (srcb_before n records) r) r))
    (not_yet kind node n records h)
    ∙ ap (λ o. set (redirected_up_to kind node n records) n
    (redirected_record node (destination_place kind o (stored_at n records))
    (stored_at n records)))
    (sym (same_before n records))
    ∙ more_from kind None node n records h

pub as_long : (kind : Kind) (before : Option ℕ) (node : List ℕ) (n : ℕ) (records : List Stored)
    → length (records_to_node kind node before (take n records) ++ drop n records) ≡ length records
as_long kind before node zero records = refl
as_long kind before node (suc n) [] = refl
as_long kind before node (suc n) (r ∷ rs) = ap suc (as_long kind (Some r.srcb) node n rs)
