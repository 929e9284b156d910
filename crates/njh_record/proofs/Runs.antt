-- Runs at the front of bytes, and the bytes before them.
use Rattle.std.proofs.Common.{◌≡◌, ◌≢◌, ℕ, zero, suc, ◌+◌, ◌<◌, ◌≤◌, min, true, false, eqb, leb, List, [], ◌∷◌}
use Rattle.std.proofs.Common.{◌++◌, length, take, drop, replicate, get_or, refl, sym, ◌∙◌, ap, append_assoc, one-add}
use Rattle.std.proofs.Common.{add-one, arith, ◌⊎◌, inl, inr, length-take}
use Rattle.std.proofs.lemmas.Bool.{cases_lt, cases_Bool, cond_both, cond-true, cond-false, eqb-true, leb-true}
use Rattle.std.proofs.lemmas.Bool.{false_from_ne_true}
use Rattle.std.proofs.lemmas.List.{take-take, take_all, append-nil, take_more, drop_more, drop_all, take-append-le}
use Rattle.std.proofs.lemmas.List.{take-append-drop, drop-take, drop-drop, get_or-take, get_or-drop}
use Rattle.std.proofs.lemmas.List.Sums.{prefix_len-le-length, prefix_len_passes}
use Rattle.std.specs.List.{prefix_len}
use Rattle.njh_record.specs.Writing.{first_byte_of, run_of, is_run, begins_run, before_run}
use Rattle.njh_record.specs.code.Written.{AreApart, NoRunBefore}

-- ---- runs

pub is_run-two : (byte n : ℕ) → is_run byte n ≡ true → 2 ≤ n
is_run-two byte n = cond_both (eqb byte 0x40) (leb 2 n) (leb 3 n) (λ t. t ≡ true → 2 ≤ n) (λ blank is. leb-true 2 n is)
    (λ other is. omega (arith, leb-true 3 n is))

pub is_run-three : (byte n : ℕ) → eqb byte 0x40 ≡ false → is_run byte n ≡ true → 3 ≤ n
is_run-three byte n other is = leb-true 3 n (sym (cond-false (eqb byte 0x40) (leb 2 n) (leb 3 n) other) ∙ is)

front_is : (byte : ℕ) (bytes : List ℕ)
    → take (prefix_len (λ x. eqb x byte) bytes) bytes ≡ replicate (prefix_len (λ x. eqb x byte) bytes) byte
front_is byte [] = refl
front_is byte (x ∷ bytes) =
    let n = prefix_len (λ x. eqb x byte) bytes in
    cond_both (eqb x byte) (1 + n) 0 (λ m. take m (x ∷ bytes) ≡ replicate m byte)
    (λ same. rw one-add (ap (λ (y : ℕ). y ∷ take n bytes) (eqb-true x byte same)
    ∙ ap (λ (ys : List ℕ). byte ∷ ys) (front_is byte bytes)))
    (λ other. refl)

pub run_of-short : (bytes : List ℕ) → run_of bytes ≤ 31
run_of-short bytes = omega (
  arith,
  prefix_len-le-length (λ x. eqb x (first_byte_of bytes)) (take 31 bytes),
  length-take
      31 bytes,
)

pub run_of-within : (bytes : List ℕ) → run_of bytes ≤ length bytes
run_of-within bytes = omega (
  arith,
  prefix_len-le-length (λ x. eqb x (first_byte_of bytes)) (take 31 bytes),
  length-take
      31 bytes,
)

pub take-run_of : (bytes : List ℕ) → take (run_of bytes) bytes ≡ replicate (run_of bytes) (first_byte_of bytes)
take-run_of bytes = sym (take-take (run_of bytes) 31 bytes (run_of-short bytes))
    ∙ front_is (first_byte_of bytes) (take 31 bytes)

-- ---- the bytes before a run

pub before_run-at : (bytes : List ℕ) → begins_run bytes ≡ true → before_run bytes ≡ []
unfolding before_run
before_run-at [] is = refl
before_run-at (byte ∷ bytes) is = cond-true (begins_run (byte ∷ bytes)) [] (byte ∷ before_run bytes) is

pub before_run-past : (byte : ℕ) (bytes : List ℕ) → begins_run (byte ∷ bytes) ≡ false
    → before_run (byte ∷ bytes) ≡ byte ∷ before_run bytes
unfolding before_run
before_run-past byte bytes is = cond-false (begins_run (byte ∷ bytes)) [] (byte ∷ before_run bytes) is

pub before_run-nil : before_run [] ≡ []
unfolding before_run
before_run-nil = refl

-- ---- a literal, a byte at a time

pub NoRunBefore-more : (bytes : List ℕ) (place : ℕ) → place < length bytes → begins_run (drop place bytes) ≡ false
    → NoRunBefore bytes place → NoRunBefore bytes (place + 1)
NoRunBefore-more bytes place within past so_far =
    let byte = get_or bytes place 0 in
    let rest = drop (place + 1) bytes in
    let at : drop place bytes ≡ byte ∷ rest = drop_more bytes place 0 within in
    let more : take (place + 1) bytes ≡ take place bytes ++ byte ∷ [] = take_more bytes place 0 within in
    let past_byte : begins_run (byte ∷ rest) ≡ false = ap begins_run (sym at) ∙ past in
    rw (more, append_assoc, ← before_run-past byte rest past_byte, ← at) so_far

NoRunBefore-stops : (bytes : List ℕ) (place : ℕ) → place ≤ 63 → before_run (drop place bytes) ≡ []
    → NoRunBefore bytes place
    → take place bytes ≡ take 63 (before_run bytes)
NoRunBefore-stops bytes place short stops so_far =
    rw (so_far, stops, append-nil) (sym (take_all 63 (take place bytes) (omega (arith, length-take place bytes))))

pub NoRunBefore-at : (bytes : List ℕ) (place : ℕ) → place ≤ 63 → begins_run (drop place bytes) ≡ true
    → NoRunBefore bytes place → take place bytes ≡ take 63 (before_run bytes)
NoRunBefore-at bytes place short at so_far =
    NoRunBefore-stops bytes place short (before_run-at (drop place bytes) at) so_far

-- if the bytes that were looked at reach the longest literal or the end
pub NoRunBefore-limit : (bytes : List ℕ) (limit place : ℕ) → limit ≡ min (length bytes) 63 → limit ≤ place
    → place ≤ length bytes
    → NoRunBefore bytes place → take limit bytes ≡ take 63 (before_run bytes)
NoRunBefore-limit bytes limit place is reached within so_far =
    elim (cases_lt 63 (length bytes)) [
      | inl long ↦
          let full : 63 ≤ length (take place bytes) = omega (arith, length-take place bytes) in
          let same : limit ≡ 63 = omega arith in
          let cut = take-append-le 63 (take place bytes) (before_run (drop place bytes)) full in
          rw (so_far, cut, take-take 63 place bytes (omega arith)) (ap (λ (n : ℕ). take n bytes) same)
      | inr short ↦
          let same : limit ≡ place = omega arith in
          rw same (NoRunBefore-stops bytes place (omega arith)
          (ap before_run (drop_all place bytes (omega arith)) ∙ before_run-nil) so_far)
    ]

-- more bytes were looked at after those
pub take-more : (place more : ℕ) (bytes : List ℕ)
    → take place bytes ++ take more (drop place bytes) ≡ take (place + more) bytes
take-more place more bytes =
    let all = take (place + more) bytes in
    ap (λ (text : List ℕ). text ++ take more (drop place bytes))
    (sym (take-take place (place + more) bytes (omega arith)))
    ∙ (ap (λ (text : List ℕ). take place all ++ text) (sym (drop-take place more bytes)) ∙ take-append-drop place all)

pub NoRunBefore-then : (bytes : List ℕ) (place more : ℕ) → NoRunBefore bytes place → NoRunBefore (drop place bytes) more
    → NoRunBefore bytes (place + more)
NoRunBefore-then bytes place more front behind =
    let last = before_run (drop more (drop place bytes)) in
    front ∙ (ap (λ (text : List ℕ). take place bytes ++ text) behind
    ∙ (sym (append_assoc (take place bytes) (take more (drop place bytes)) last)
    ∙ (ap (λ (text : List ℕ). text ++ last) (take-more place more bytes)
    ∙ ap (λ (text : List ℕ). take (place + more) bytes ++ before_run text) (drop-drop more place bytes))))

-- a byte that the next doesn't equal begins no run
begins_run-apart : (bytes : List ℕ) → get_or bytes 0 0 ≢ get_or bytes 1 0 → begins_run bytes ≡ false
begins_run-apart bytes apart =
    false_from_ne_true (begins_run bytes) (λ is.
    let two : 2 ≤ run_of bytes = is_run-two (first_byte_of bytes) (run_of bytes) is in
    let same = prefix_len_passes (λ x. eqb x (first_byte_of bytes)) (take 31 bytes) 1 0 (omega arith) in
    apart (sym (sym (get_or-take 31 bytes 1 0 (omega arith))
    ∙ eqb-true (get_or (take 31 bytes) 1 0) (first_byte_of bytes) same)))

pub NoRunBefore-apart : (bytes : List ℕ) (n : ℕ) → n < length bytes → AreApart n bytes → NoRunBefore bytes n
NoRunBefore-apart bytes zero within apart = refl
NoRunBefore-apart bytes (suc n) within apart =
    let here : get_or (drop n bytes) 0 0 ≡ get_or bytes n 0 =
    get_or-drop n bytes 0 0 ∙ ap (λ k. get_or bytes k 0) (omega arith) in
    let at : get_or (drop n bytes) 0 0 ≢ get_or (drop n bytes) 1 0 = λ same.
    apart n (omega arith) (sym here ∙ (same ∙ get_or-drop n bytes 1 0)) in
    rw (← add-one n) (NoRunBefore-more bytes n (omega arith) (begins_run-apart (drop n bytes) at)
    (NoRunBefore-apart bytes n (omega arith) (λ k below. apart k (omega arith))))

-- some bytes are at the front, and after them a run or nothing
pub record StandsBefore (bytes before : List ℕ) : Type 0 where
  pub front : take (length before) bytes ≡ before
  pub ends : (drop (length before) bytes ≡ []) ⊎ (begins_run (drop (length before) bytes) ≡ true)

pub stands_before : (bytes : List ℕ) → StandsBefore bytes (before_run bytes)
stands_before [] = rw before_run-nil (record { front = refl; ends = inl refl })
stands_before (byte ∷ bytes) =
    let rest = stands_before bytes in
    elim (cases_Bool (begins_run (byte ∷ bytes))) [
      | inl at ↦ rw (before_run-at (byte ∷ bytes) at) (record { front = refl; ends = inr at })
      | inr past ↦ rw (before_run-past byte bytes past)
          (record { front = ap (λ (b : List ℕ). byte ∷ b) rest.front; ends = rest.ends })
    ]
