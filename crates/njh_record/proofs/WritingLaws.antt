-- The one spelling is a spelling, and how long it is.
use Rattle.std.proofs.Common.{◌≡◌, ℕ, zero, suc, ◌+◌, ◌-◌, ◌*◌, ◌<◌, ◌≤◌, ◌⊎◌, inl, inr, min, true, false, eqb, List}
use Rattle.std.proofs.Common.{[], ◌∷◌, ◌++◌, length, take, drop, replicate, refl, sym, ◌∙◌, ap, subst, append_assoc}
use Rattle.std.proofs.Common.{arith, length-append, length-take}
use Rattle.std.proofs.lemmas.Bool.{cases_lt, cases_Bool, cond_both, cond-true, cond-false, both_ways, eqb-true}
use Rattle.std.proofs.lemmas.List.{take_min, take-take, take_all, length-replicate, take-append-drop}
use Rattle.std.specs.List.{flat_map}
use Rattle.njh_record.specs.declared.End.TheVariants.{Record}
use Rattle.njh_record.specs.Spelling.{Item, blanks, repeat, literal, IsItem, item_bytes, added_bytes, Spelling}
use Rattle.njh_record.specs.Writing.{first_byte_of, run_of, is_run, begins_run, before_run, run_item, first_item}
use Rattle.njh_record.specs.Writing.{after_first, items_past, spelling_of}
use Rattle.njh_record.specs.code.Written.{SpellsFront}
use Rattle.njh_record.proofs.ReadingLaws.{Spelling-item, Spelling-end}
use Rattle.njh_record.proofs.Runs.{is_run-two, is_run-three, run_of-short, run_of-within, take-run_of, before_run-past}
use Rattle.njh_record.proofs.Runs.{stands_before}

-- ---- the item that spells a run

pub IsItem-run_item : (byte n : ℕ) → n < 32 → IsItem (run_item byte n)
IsItem-run_item byte n short = cond_both (eqb byte 0x40) (blanks n) (repeat n byte) IsItem (λ _. short) (λ _. short)

pub added-run_item : (byte n : ℕ) → added_bytes (run_item byte n) ≡ replicate n byte
added-run_item byte n =
    cond_both (eqb byte 0x40) (blanks n) (repeat n byte) (λ item. added_bytes item ≡ replicate n byte)
    (λ is. ap (replicate n) (sym (eqb-true byte 0x40 is))) (λ _. refl)

-- a run is spelled shorter than it is
pub length-run_item : (byte n : ℕ) → is_run byte n ≡ true → length (item_bytes (run_item byte n)) < n
length-run_item byte n is =
    cond_both (eqb byte 0x40) (blanks n) (repeat n byte) (λ item. length (item_bytes item) < n)
    (λ _. omega (arith, is_run-two byte n is)) (λ other. omega (arith, is_run-three byte n other is))

-- ---- the first item

pub first_item-run : (bytes : List ℕ) → begins_run bytes ≡ true
    → first_item bytes ≡ run_item (first_byte_of bytes) (run_of bytes)
unfolding first_item
first_item-run bytes is = cond-true (begins_run bytes) _ _ is

pub first_item-literal : (bytes : List ℕ) → begins_run bytes ≡ false
    → first_item bytes ≡ literal (take 63 (before_run bytes))
unfolding first_item
first_item-literal bytes is = cond-false (begins_run bytes) _ _ is

-- what is spelled first comes first
SpellsFront-run : (bytes : List ℕ) → begins_run bytes ≡ true
    → SpellsFront bytes (run_item (first_byte_of bytes) (run_of bytes))
SpellsFront-run bytes at =
    let byte = first_byte_of bytes in
    let n = run_of bytes in
    let two : 2 ≤ n = is_run-two byte n at in
    let size : length (added_bytes (run_item byte n)) ≡ n = rw (added-run_item byte n) (length-replicate n byte) in
    record {
      fits = IsItem-run_item byte n (omega (arith, run_of-short bytes));
      some = omega arith;
      within = omega (arith, run_of-within bytes);
      front = rw (size, added-run_item byte n, ← take-run_of bytes) (take-append-drop n bytes);
    }

SpellsFront-literal : (byte : ℕ) (bytes : List ℕ) → begins_run (byte ∷ bytes) ≡ false
    → SpellsFront (byte ∷ bytes) (literal (take 63 (before_run (byte ∷ bytes))))
SpellsFront-literal byte bytes past =
    let before = before_run (byte ∷ bytes) in
    let cons : before ≡ byte ∷ before_run bytes = before_run-past byte bytes past in
    let n = length (take 63 before) in
    let size : n ≡ min 63 (length before) = length-take 63 before in
    let some : 0 < length before = omega (arith, ap length cons) in
    let same : take n (byte ∷ bytes) ≡ take 63 before =
    rw (← take-take n (length before) (byte ∷ bytes) (omega arith), (stands_before (byte ∷ bytes)).front, size)
    (take_min 63 before) in
    record {
      fits = omega (arith, size);
      some = omega (arith, size, some);
      within = omega (arith, ap length same, length-take n (byte ∷ bytes));
      front = ap (λ (b : List ℕ). b ++ drop n (byte ∷ bytes)) (sym same) ∙ take-append-drop n (byte ∷ bytes);
    }

pub SpellsFront-first_item : (byte : ℕ) (bytes : List ℕ) → SpellsFront (byte ∷ bytes) (first_item (byte ∷ bytes))
SpellsFront-first_item byte bytes =
    elim (cases_Bool (begins_run (byte ∷ bytes))) [
      | inl at ↦ rw (first_item-run (byte ∷ bytes) at) (SpellsFront-run (byte ∷ bytes) at)
      | inr past ↦ rw (first_item-literal (byte ∷ bytes) past) (SpellsFront-literal byte bytes past)
    ]

pub SpellsFront-of : (bytes : List ℕ) (item : Item) → 0 < length bytes → item ≡ first_item bytes
    → SpellsFront bytes item
SpellsFront-of [] item some is = absurd (omega arith)
SpellsFront-of (byte ∷ bytes) item some is = rw is (SpellsFront-first_item byte bytes)

-- ---- the items in order

items_past-drop : (n : ℕ) (bytes : List ℕ) → items_past n bytes ≡ items_past 0 (drop n bytes)
unfolding items_past
items_past-drop zero bytes = refl
items_past-drop (suc n) [] = refl
items_past-drop (suc n) (byte ∷ bytes) = items_past-drop n bytes

items_past-nil : items_past 0 [] ≡ []
unfolding items_past
items_past-nil = refl

items_past-cons : (byte : ℕ) (bytes : List ℕ)
    → items_past 0 (byte ∷ bytes) ≡ first_item (byte ∷ bytes) ∷ items_past 0 (after_first (byte ∷ bytes))
unfolding items_past
items_past-cons byte bytes =
    let n = length (added_bytes (first_item (byte ∷ bytes))) in
    let some = (SpellsFront-first_item byte bytes).some in
    let is : suc (n - 1) ≡ n = omega arith in
    ap (λ (items : List Item). first_item (byte ∷ bytes) ∷ items)
    (items_past-drop (n - 1) bytes ∙ ap (λ (m : ℕ). items_past 0 (drop m (byte ∷ bytes))) is)

pub spelling_of-nil : spelling_of [] ≡ 0 ∷ []
unfolding spelling_of
spelling_of-nil = ap (λ (items : List Item). flat_map item_bytes items ++ 0 ∷ []) items_past-nil

pub spelling_of-cons : (byte : ℕ) (bytes : List ℕ)
    → spelling_of (byte ∷ bytes) ≡ item_bytes (first_item (byte ∷ bytes)) ++ spelling_of (after_first (byte ∷ bytes))
unfolding spelling_of
spelling_of-cons byte bytes =
    rw (items_past-cons byte bytes, append_assoc) refl

-- an item leaves less
length-after_first : (byte : ℕ) (bytes : List ℕ)
    → length (added_bytes (first_item (byte ∷ bytes))) + length (after_first (byte ∷ bytes)) ≡ length (byte ∷ bytes)
length-after_first byte bytes =
    let item = first_item (byte ∷ bytes) in
    sym (length-append (added_bytes item) (after_first (byte ∷ bytes)))
    ∙ ap length (SpellsFront-first_item byte bytes).front

-- what holds of each item in front of others holds of the whole
module _ (P : List ℕ → Type 0) (none : P [])
    (step : (byte : ℕ) (bytes : List ℕ) → P (after_first (byte ∷ bytes)) → P (byte ∷ bytes)) where
  of_at_most : (k : ℕ) (bytes : List ℕ) → length bytes ≤ k → P bytes
  of_at_most k [] le = none
  of_at_most zero (byte ∷ bytes) le = absurd (omega arith)
  of_at_most (suc k) (byte ∷ bytes) le =
      let less = length-after_first byte bytes in
      step byte bytes (of_at_most k (after_first (byte ∷ bytes))
      (omega (arith, (SpellsFront-first_item byte bytes).some)))

  by_items : (bytes : List ℕ) → P bytes
  by_items bytes = of_at_most (length bytes) bytes (omega arith)

-- the one spelling spells the record
abbrev IsSpelled : List ℕ → Type 0
IsSpelled bytes = Spelling (spelling_of bytes) bytes Record

spelled-item : (byte : ℕ) (bytes : List ℕ) → IsSpelled (after_first (byte ∷ bytes)) → IsSpelled (byte ∷ bytes)
spelled-item byte bytes rest =
    let first = SpellsFront-first_item byte bytes in
    let after = after_first (byte ∷ bytes) in
    let whole = Spelling-item (first_item (byte ∷ bytes)) (spelling_of after) after Record first.fits rest in
    subst (λ (b : List ℕ). Spelling b (byte ∷ bytes) Record) (sym (spelling_of-cons byte bytes))
    (subst (λ (b : List ℕ). Spelling (item_bytes (first_item (byte ∷ bytes)) ++ spelling_of after) b Record) first.front
    whole)

pub Spelling-spelling_of : (bytes : List ℕ) → Spelling (spelling_of bytes) bytes Record
Spelling-spelling_of =
    by_items IsSpelled (subst (λ (b : List ℕ). Spelling b [] Record) (sym spelling_of-nil) (Spelling-end Record))
    spelled-item

-- ---- how long it is

length-cons : (byte : ℕ) (bytes : List ℕ) → length (spelling_of (byte ∷ bytes))
    ≡ length (item_bytes (first_item (byte ∷ bytes))) + length (spelling_of (after_first (byte ∷ bytes)))
length-cons byte bytes = rw (spelling_of-cons byte bytes, length-append) refl

abbrev BeginsRunOrEnds : List ℕ → Type 0
BeginsRunOrEnds bytes = (bytes ≡ []) ⊎ (begins_run bytes ≡ true)

-- a literal of less than 63 bytes costs a byte more than it spells, and the run after it saves one
record IsBounded (bytes : List ℕ) : Type 0 where
  some : 0 < length (spelling_of bytes)
  most : 63 * length (spelling_of bytes) ≤ 64 * length bytes + 125
  at_run : BeginsRunOrEnds bytes → 63 * length (spelling_of bytes) ≤ 64 * length bytes + 63

bounded-none : IsBounded []
bounded-none = let size = ap length spelling_of-nil in record
    { some = omega arith; most = omega arith; at_run = λ either. omega arith }

bounded-run : (byte : ℕ) (bytes : List ℕ) → begins_run (byte ∷ bytes) ≡ true → IsBounded (after_first (byte ∷ bytes))
    → IsBounded (byte ∷ bytes)
bounded-run byte bytes at rest =
    let n = run_of (byte ∷ bytes) in
    let item : first_item (byte ∷ bytes) ≡ run_item byte n = first_item-run (byte ∷ bytes) at in
    let saves : length (item_bytes (first_item (byte ∷ bytes))) < n = rw item (length-run_item byte n at) in
    let spells : length (added_bytes (first_item (byte ∷ bytes))) ≡ n =
    rw (item, added-run_item byte n) (length-replicate n byte) in
    let size = length-cons byte bytes in
    let len = length-after_first byte bytes in
    let most : 63 * length (spelling_of (byte ∷ bytes)) ≤ 64 * length (byte ∷ bytes) + 63 = omega (arith, rest.most) in
    record { some = omega (arith, rest.some); most = omega arith; at_run = λ run. most }

-- after a literal of less than 63 bytes comes a run, or nothing
behind_literal : (byte : ℕ) (bytes : List ℕ) → begins_run (byte ∷ bytes) ≡ false
    → length (before_run (byte ∷ bytes)) < 63
    → BeginsRunOrEnds (after_first (byte ∷ bytes))
behind_literal byte bytes past short =
    let before = before_run (byte ∷ bytes) in
    let whole : take 63 before ≡ before = take_all 63 before (omega arith) in
    rw (first_item-literal (byte ∷ bytes) past, whole) (stands_before (byte ∷ bytes)).ends

bounded-literal : (byte : ℕ) (bytes : List ℕ) → begins_run (byte ∷ bytes) ≡ false
    → IsBounded (after_first (byte ∷ bytes))
    → IsBounded (byte ∷ bytes)
bounded-literal byte bytes past rest =
    let before = before_run (byte ∷ bytes) in
    let item : first_item (byte ∷ bytes) ≡ literal (take 63 before) = first_item-literal (byte ∷ bytes) past in
    let some : length before ≡ suc (length (before_run bytes)) = ap length (before_run-past byte bytes past) in
    let cut : length (take 63 before) ≡ min 63 (length before) = length-take 63 before in
    let bytes_of : length (item_bytes (first_item (byte ∷ bytes))) ≡ suc (length (take 63 before)) = rw item refl in
    let spells : length (added_bytes (first_item (byte ∷ bytes))) ≡ length (take 63 before) = rw item refl in
    let size = length-cons byte bytes in
    let len = length-after_first byte bytes in
    record {
      some = omega (arith, rest.some);
      most = elim (cases_lt (length before) 63) [
        | inl short ↦ omega (arith, rest.at_run (behind_literal byte bytes past short))
        | inr full ↦ omega (arith, rest.most)
      ];
      at_run = λ either. absurd (elim either
          [ inl none ↦ (cc) | inr at ↦ both_ways (begins_run (byte ∷ bytes)) past at ]);
    }

bounded-item : (byte : ℕ) (bytes : List ℕ) → IsBounded (after_first (byte ∷ bytes)) → IsBounded (byte ∷ bytes)
bounded-item byte bytes rest =
    elim (cases_Bool (begins_run (byte ∷ bytes))) [
      | inl at ↦ bounded-run byte bytes at rest
      | inr past ↦ bounded-literal byte bytes past rest
    ]

-- at most one byte more for each 63, and the end
bounded : (bytes : List ℕ) → IsBounded bytes
bounded = by_items IsBounded bounded-none bounded-item

pub length-spelling_of : (bytes : List ℕ) → 63 * length (spelling_of bytes) ≤ 64 * length bytes + 125
length-spelling_of bytes = (bounded bytes).most

pub some-spelling_of : (bytes : List ℕ) → 0 < length (spelling_of bytes)
some-spelling_of bytes = (bounded bytes).some

pub length-spelling_of-record : (bytes : List ℕ) → length bytes ≤ 256 → length (spelling_of bytes) ≤ 262
length-spelling_of-record bytes le = omega (arith, length-spelling_of bytes)

-- ---- as the code writes it: what is written so far, and then the spelling of the rest, is the whole

pub spelling_of-step : (out rest whole : List ℕ) (item : Item) (after : List ℕ) → 0 < length rest
    → item ≡ first_item rest
    → after ≡ drop (length (added_bytes item)) rest → out ++ spelling_of rest ≡ whole
    → (out ++ item_bytes item) ++ spelling_of after ≡ whole
spelling_of-step out [] whole item after some is left so_far = absurd (omega arith)
spelling_of-step out (byte ∷ rest) whole item after some is left so_far =
    rw (left, is, append_assoc, ← spelling_of-cons byte rest) so_far

pub spelling_of-room : (out rest whole : List ℕ) (item : Item) (most : ℕ) → 0 < length rest → item ≡ first_item rest
    → length whole ≤ most → out ++ spelling_of rest ≡ whole → length out + length (item_bytes item) ≤ most
spelling_of-room out rest whole item most some is short so_far =
    let next = spelling_of-step out rest whole item (drop (length (added_bytes item)) rest) some is refl so_far in
    omega (
      arith,
      short,
      ap length next,
      length-append (out ++ item_bytes item)
          (spelling_of (drop (length (added_bytes item)) rest)),
      length-append out (item_bytes item),
    )

pub spelling_of-done : (out rest whole : List ℕ) → length rest ≡ 0 → out ++ spelling_of rest ≡ whole
    → out ++ 0 ∷ [] ≡ whole
spelling_of-done out [] whole done so_far = ap (λ (b : List ℕ). out ++ b) (sym spelling_of-nil) ∙ so_far
spelling_of-done out (byte ∷ rest) whole done so_far = absurd (omega arith)

-- the same, counted

pub length-spelling_of-step : (rest : List ℕ) (item : Item) (after : List ℕ) → 0 < length rest → item ≡ first_item rest
    → after ≡ drop (length (added_bytes item)) rest
    → length (item_bytes item) + length (spelling_of after) ≡ length (spelling_of rest)
length-spelling_of-step rest item after some is left =
    sym (length-append (item_bytes item) (spelling_of after))
    ∙ ap length (spelling_of-step [] rest (spelling_of rest) item after some is left refl)

pub length-spelling_of-done : (rest : List ℕ) → length rest ≡ 0 → length (spelling_of rest) ≡ 1
length-spelling_of-done rest done = sym (ap length (spelling_of-done [] rest (spelling_of rest) done refl))
