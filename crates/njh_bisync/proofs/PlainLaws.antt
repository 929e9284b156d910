-- Bytes other than 10, taken together.
use Rattle.std.proofs.Common.{◌≡◌, ◌≢◌, ℕ, suc, ◌+◌, ◌<◌, ◌≤◌, ◌==◌, List, [], ◌∷◌, ◌++◌, length, get_or, take, drop}
use Rattle.std.proofs.Common.{false, refl, ap, sym, ◌∙◌, arith, inl, inr, append_assoc, length-append, zero-add}
use Rattle.std.specs.Prelude.{not, flat_map, All, Option, Some, None}
use Rattle.std.specs.List.{AllWithin}
use Rattle.std.proofs.lemmas.Bool.{cases_lt, lt-ltb, le-ltb, ne_eqb, eqb-false, eqb-true}
use Rattle.std.proofs.lemmas.List.{take-append-drop, take_all, drop_more, length-take-le, length-drop, get_or-take}
use Rattle.std.proofs.lemmas.List.Sums.{fails_before_first, passes_at_first, prefix_len-le-length}
use Rattle.std.proofs.lemmas.List.Concat.{flat_map-append}
use Rattle.std.proofs.lemmas.List.Folds.{length-prefix_len}
use Rattle.njh_bisync.specs.Limits.{longest_text}
use Rattle.njh_bisync.specs.Reading.{InText}
use Rattle.njh_bisync.specs.ByteSteps.{rest_step, ahead, feed_outcome, kept_with}
use Rattle.njh_bisync.specs.code.PlainBytes.{plain_len, kept_all}
use Rattle.njh_bisync.specs.Written.{bytes_of_data}

-- one byte more, before the others
kept_all-one : (held : Option (List ℕ)) (byte : ℕ) → kept_all held (byte ∷ []) ≡ kept_with held byte
kept_all-one None byte = refl
kept_all-one (Some held) byte =
    elim (cases_lt (length held) longest_text) [
      | inl below ↦ rw (le-ltb longest_text (length held + 1) (omega arith), lt-ltb (length held) longest_text below)
      | inr full ↦ rw (lt-ltb longest_text (length held + 1) (omega arith), le-ltb (length held) longest_text full)
    ]

kept_all-more : (held : Option (List ℕ)) (byte : ℕ) (bytes : List ℕ)
    → kept_all (kept_with held byte) bytes ≡ kept_all held (byte ∷ bytes)
kept_all-more None byte bytes = refl
kept_all-more (Some held) byte bytes =
    elim (cases_lt (length held) longest_text) [
      | inl below ↦
          let long : length (held ++ byte ∷ []) + length bytes ≡ length held + length (byte ∷ bytes) =
          omega (arith, length-append held (byte ∷ [])) in
          rw (lt-ltb (length held) longest_text below, long, append_assoc held (byte ∷ []) bytes)
      | inr full ↦ rw (
        le-ltb (length held) longest_text full,
        lt-ltb longest_text (length held + length (byte ∷ bytes))
            (omega arith),
      )
    ]

-- a run of plain bytes in a text
pub fed-plain : (held : Option (List ℕ)) (run more : List ℕ) → 0 < length run → All (λ byte. byte ≢ 0x10) run
    → feed_outcome (InText held false) (run ++ more) ≡ ahead (length run)
    (feed_outcome (InText (kept_all held run) false) more)
unfolding rest_step
fed-plain held [] more some plain = absurd (omega arith)
fed-plain held (byte ∷ []) more some plain = rw (ne_eqb byte 0x10 (plain 0 0 some), kept_all-one held byte)
fed-plain held (byte ∷ next ∷ run) more some plain =
    let later = fed-plain (kept_with held byte) (next ∷ run) more (omega arith)
    (λ k d below. plain (suc k) d (omega arith)) in
    let sum : 1 + (length (next ∷ run) + (feed_outcome (InText (kept_all held (byte ∷ next ∷ run)) false) more).taken)
    ≡ length (byte ∷ next ∷ run) + (feed_outcome (InText (kept_all held (byte ∷ next ∷ run)) false) more).taken =
    omega arith in
    rw (ne_eqb byte 0x10 (plain 0 0 some), later, kept_all-more held byte (next ∷ run))
    (ap (λ (n : ℕ). record (feed_outcome (InText (kept_all held (byte ∷ next ∷ run)) false) more) { taken = n }) sum)

-- the bytes before the first 10 are plain
pub plain-front : (bytes : List ℕ) → All (λ byte. byte ≢ 0x10) (take (plain_len bytes) bytes)
plain-front bytes = λ k d below.
    let at : k < plain_len bytes = omega (arith, length-prefix_len (λ byte. not (byte == 0x10)) bytes) in
    rw (get_or-take (plain_len bytes) bytes k d at)
    (eqb-false (get_or bytes k d) 0x10 (fails_before_first (λ byte. byte == 0x10) bytes k d at))

pub plain_within : (bytes : List ℕ) → plain_len bytes ≤ length bytes
plain_within bytes = prefix_len-le-length (λ byte. not (byte == 0x10)) bytes

-- a run of plain bytes is written as it is
pub plain-written : (run : List ℕ) → All (λ byte. byte ≢ 0x10) run → flat_map bytes_of_data run ≡ run
plain-written [] plain = refl
plain-written (byte ∷ run) plain =
    rw (ne_eqb byte 0x10 (plain 0 0 (omega arith)))
    (ap (λ (bytes : List ℕ). byte ∷ bytes) (plain-written run (λ k d below. plain (suc k) d (omega arith))))

-- plain bytes before others
pub plain_len-append : (run more : List ℕ) → All (λ byte. byte ≢ 0x10) run
    → plain_len (run ++ more) ≡ length run + plain_len more
plain_len-append [] more plain = sym (zero-add (plain_len more))
plain_len-append (byte ∷ run) more plain =
    let sum : 1 + (length run + plain_len more) ≡ length (byte ∷ run) + plain_len more = omega arith in
    rw (ne_eqb byte 0x10 (plain 0 0 (omega arith)))
    (ap (λ n. 1 + n) (plain_len-append run more (λ k d below. plain (suc k) d (omega arith))) ∙ sum)

-- bytes in the front of which no 10 was found
pub plain_len-group : (n : ℕ) (bytes : List ℕ) → n ≤ length bytes
    → AllWithin (λ byte. (byte == 0x10) ≡ false) (take n bytes) 0 n
    → plain_len bytes ≡ n + plain_len (drop n bytes)
plain_len-group n bytes within none =
    let size = length-take-le n bytes within in
    let plain : All (λ byte. byte ≢ 0x10) (take n bytes) = λ k d below.
    eqb-false (get_or (take n bytes) k d) 0x10 (none k d (omega arith) (omega arith)) in
    ap plain_len (sym (take-append-drop n bytes))
    ∙ (plain_len-append (take n bytes) (drop n bytes) plain ∙ ap (λ m. m + plain_len (drop n bytes)) size)

-- what is written of bytes without a 10, and of those that have one
pub written-whole : (bytes : List ℕ) → length bytes ≤ plain_len bytes
    → flat_map bytes_of_data bytes ≡ take (plain_len bytes) bytes
written-whole bytes past =
    ap (flat_map bytes_of_data) (sym (take_all (plain_len bytes) bytes past))
    ∙ plain-written (take (plain_len bytes) bytes) (plain-front bytes)

pub written-run : (bytes more : List ℕ) (byte : ℕ) → drop (plain_len bytes) bytes ≡ byte ∷ more
    → flat_map bytes_of_data bytes ≡ take (plain_len bytes) bytes ++ (0x10 ∷ byte ∷ flat_map bytes_of_data more)
written-run bytes more byte at =
    let n = plain_len bytes in
    let below : n < length bytes = omega (arith, length-drop n bytes, ap (length {A = ℕ}) at) in
    let head = drop_more bytes n 0 below in
    let dle : get_or bytes n 0 ≡ 0x10 = eqb-true (get_or bytes n 0) 0x10
    (passes_at_first (λ byte. byte == 0x10) bytes 0 below) in
    let same : byte ≡ 0x10 = cc in
    ap (flat_map bytes_of_data) (sym (take-append-drop n bytes))
    ∙ (flat_map-append bytes_of_data (take n bytes) (drop n bytes)
    ∙ (ap (λ (xs : List ℕ). xs ++ flat_map bytes_of_data (drop n bytes))
    (plain-written (take n bytes) (plain-front bytes))
    ∙ (ap (λ (xs : List ℕ). take n bytes ++ flat_map bytes_of_data xs) at ∙ rw same)))

-- such a run and the 10 after it, written after what is there
pub put-run : (out run later written : List ℕ) (byte : ℕ) → written ≡ run ++ (0x10 ∷ byte ∷ later)
    → ((out ++ run) ++ (0x10 ∷ byte ∷ [])) ++ later ≡ out ++ written
put-run out run later written byte is = rw is (simp append_assoc)

-- a text that begins with plain bytes
pub fed-front : (held : Option (List ℕ)) (bytes : List ℕ) → 0 < plain_len bytes → feed_outcome (InText held false) bytes
    ≡ ahead (plain_len bytes) (feed_outcome (InText (kept_all held (take (plain_len bytes) bytes)) false)
    (drop (plain_len bytes) bytes))
fed-front held bytes some =
    let n = plain_len bytes in
    let size = length-take-le n bytes (plain_within bytes) in
    ap (feed_outcome (InText held false)) (sym (take-append-drop n bytes))
    ∙ (fed-plain held (take n bytes) (drop n bytes) (omega arith) (plain-front bytes)
    ∙ ap (λ m. ahead m (feed_outcome (InText (kept_all held (take n bytes)) false) (drop n bytes))) size)
