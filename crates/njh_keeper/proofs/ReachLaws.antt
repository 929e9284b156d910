-- The records of a hub's file are gone through, and what of them stands on a spool file.
use Rattle.njh_keeper.proofs.Words
use Words.{◌≡◌, ℕ, zero, suc, ◌+◌, ◌<◌, ◌≤◌, List, [], ◌∷◌, length, get_or, take}
use Words.{drop, slice_get, Option, Some, None, sym, ap, subst, ◌∙◌, arith}
use Words.{AllByRecursion, State, Stored, CustomerSpool}
use Words.{records_numbered, records_in, Writes, Leads, FitsHub, HasRecords}
use Words.{option_map, take_all}
use Words.{SpoolWriter, length-drop}
use Rattle.{std.proofs.lemmas.List.drop-drop, njh_keeper.proofs.FrameLaws.writes_nothing}
use Rattle.njh_keeper.proofs.LeadingLaws.{leads_nothing, leads_weaker}
use Rattle.njh_keeper.specs.code.Gathering.{Continues}

-- ---- the next record of those that are left

pub next_stands : (all : List Stored) (at : ℕ) (r : Stored) → Some r ≡ slice_get (drop at all) 0
    → (at < length all) × (r ≡ get_or all at r)
next_stands [] zero r is = absurd (cc is)
next_stands [] (suc at) r is = absurd (cc is)
next_stands (x ∷ xs) zero r is = (omega arith, cc is)
next_stands (x ∷ xs) (suc at) r is = let there = next_stands xs at r is in (omega (arith, there.0), there.1)

pub none_is_left : (all : List Stored) (at : ℕ) → None ≡ slice_get (drop at all) 0 → length all ≤ at
none_is_left [] at is = omega arith
none_is_left (x ∷ xs) zero is = absurd (cc is)
none_is_left (x ∷ xs) (suc at) is = let past = none_is_left xs at is in omega (arith, past)

pub one_fewer_left : (all : List Stored) (at : ℕ) → drop 1 (drop at all) ≡ drop (at + 1) all
one_fewer_left all at = drop-drop 1 at all

-- its bytes were read
pub bytes_read : (all : List Stored) (at srcb : ℕ) (bytes read : List ℕ) → read ≡ bytes → let r : Stored =
    record { srcb = srcb; bytes = bytes } in r ≡ get_or all at r
    → let s : Stored = record { srcb = srcb; bytes = read } in s ≡ get_or all at s
bytes_read all at srcb bytes read same is =
    subst (λ (xs : List ℕ). ◌≡◌ {A = Stored} (record { srcb = srcb; bytes = xs })
    (get_or all at (record { srcb = srcb; bytes = xs }))) (sym same) is

rest_of : (n : ℕ) (o : Option (List Stored)) (rs : List Stored) → option_map (λ records. drop n records) o ≡ Some rs
    → rs ≡ drop n (elim o [ Some records ↦ records | None ↦ [] ])
rest_of n None rs is = absurd (cc is)
rest_of n (Some xs) rs is = cc is

pub rest_is_read : (number n : ℕ) (spool : CustomerSpool) (rs : List Stored)
    → option_map (λ records. drop n records) (records_numbered number spool) ≡ Some rs
    → rs ≡ drop n (records_in number spool)
rest_is_read number n spool rs is = rest_of n (records_numbered number spool) rs is

-- a writer's memory but for what waits
pub only_waits : {S : Type 0} (a b c : SpoolWriter S) (waiting : ℕ)
    → b ≡ record a { store = b.store; waiting = b.waiting } → c ≡ record b { store = c.store; waiting = waiting }
    → c ≡ record a { store = c.store; waiting = c.waiting }
only_waits {S} a b c waiting one more =
    let with_both : SpoolWriter S → ℕ → SpoolWriter S = λ x n. record x { store = c.store; waiting = n } in
    more ∙ ap (λ x. with_both x waiting) one ∙ ap (λ n. with_both a n) (sym (ap (λ x. x.waiting) more))

-- ---- what comes behind

-- those behind the first stand there, and then all
pub rest_done : (key written : ℕ) (all : List Stored) (next : ℕ) {old new : State} → written < length all
    → length all ≤ next → Leads (Continues key all written next) old new → Leads (Writes key written all) old new
rest_done key written all next some past rows =
    leads_weaker rows (λ s t continues file behind h has.
    let two = continues file behind h has in
    let long = ap (λ (rs : List Stored). length rs) behind in
    let whole : length file ≤ next =
    omega (arith, some, past, long, length-drop written file, length-drop written all) in
    (two.0, subst (λ rs. HasRecords key rs t) (take_all next file whole) two.1))

pub nothing_left : (key written : ℕ) (all : List Stored) → length all ≤ written → {at : State}
    → Leads (Writes key written all) at at
nothing_left key written all past =
    leads_nothing (λ s file behind h has.
    let long = ap (λ (rs : List Stored). length rs) behind in
    let whole : length file ≤ written =
    omega (arith, past, long, length-drop written file, length-drop written all) in
    (writes_nothing key s h, subst (λ rs. HasRecords key rs s) (take_all written file whole) has))
