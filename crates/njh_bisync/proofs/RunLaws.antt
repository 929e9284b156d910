-- Bytes that the scanner takes two at a time.
use Rattle.std.proofs.Common.{◌≡◌, ℕ, ◌+◌, ◌<◌, false, true, List, [], ◌∷◌, length, get_or, drop, refl, ap, sym, ◌∙◌}
use Rattle.std.proofs.Common.{arith}
use Rattle.std.specs.Prelude.{Option, Some, None}
use Rattle.std.proofs.lemmas.Bool.{ne_eqb}
use Rattle.njh_bisync.specs.Frames.{Received}
use Rattle.njh_bisync.specs.Reading.{Rest, Nothing, InText}
use Rattle.njh_bisync.specs.ByteSteps.{rest_step, ahead, feed_outcome, stop_or}
use Rattle.njh_bisync.specs.code.PlainBytes.{fed_on, plain_len}

-- the beginning of a text
pub fed-begin : (more : List ℕ) → feed_outcome Nothing (0x10 ∷ 0x02 ∷ more)
    ≡ ahead 2 (feed_outcome (InText (Some []) false) more)
unfolding rest_step
fed-begin more =
    let later = feed_outcome (InText (Some []) false) more in
    let sum : 1 + (1 + later.taken) ≡ 2 + later.taken = omega arith in
    ap (λ (n : ℕ). record later { taken = n }) sum

-- what the second of two bytes does, if the first ends nothing
after-two : (frame : Option Received) (rest : Rest) (first second : ℕ) (more : List ℕ)
    → ahead 1 (stop_or (record { frame = frame; rest = rest }) (feed_outcome rest more)) ≡ fed_on 2 frame rest
    (first ∷ second ∷ more)
after-two (Some frame) rest first second more = refl
after-two None rest first second more =
    let later = feed_outcome rest more in
    let sum : 1 + (1 + later.taken) ≡ 2 + later.taken = omega arith in
    ap (λ (n : ℕ). record later { taken = n }) sum

-- in a text, a 10 and the byte after it
pub fed-control : (held : Option (List ℕ)) (byte : ℕ) (more : List ℕ)
    → feed_outcome (InText held false) (0x10 ∷ byte ∷ more)
    ≡ fed_on 2 (rest_step (InText held true) byte).frame (rest_step (InText held true) byte).rest (0x10 ∷ byte ∷ more)
unfolding rest_step
fed-control held byte more = after-two (rest_step (InText held true) byte).frame
    (rest_step (InText held true) byte).rest 0x10 byte more

-- the first two bytes
two-front : (bytes : List ℕ) (byte : ℕ) → get_or bytes 0 0 ≡ 0x10 → 1 < length bytes → byte ≡ get_or bytes 1 0
    → bytes ≡ 0x10 ∷ byte ∷ drop 2 bytes
two-front [] byte first long second = absurd (omega (arith, first))
two-front (head ∷ []) byte first long second = absurd (omega (arith, long))
two-front (head ∷ next ∷ more) byte first long second = rw (first, second) refl

pub fed-behind : (held : Option (List ℕ)) (bytes : List ℕ) (byte : ℕ) → get_or bytes 0 0 ≡ 0x10 → 1 < length bytes
    → byte ≡ get_or bytes 1 0
    → feed_outcome (InText held false) bytes ≡ fed_on 2 (rest_step (InText held true) byte).frame
    (rest_step (InText held true) byte).rest bytes
fed-behind held bytes byte first long second =
    let front = two-front bytes byte first long second in
    let after = rest_step (InText held true) byte in
    ap (feed_outcome (InText held false)) front
    ∙ (fed-control held byte (drop 2 bytes) ∙ ap (fed_on 2 after.frame after.rest) (sym front))

-- in a text, a 10 with nothing after it, or with what is there
one-front : (bytes : List ℕ) → get_or bytes 0 0 ≡ 0x10 → bytes ≡ 0x10 ∷ drop 1 bytes
one-front [] first = absurd (omega (arith, first))
one-front (head ∷ more) first = rw first refl

fed-open : (held : Option (List ℕ)) (more : List ℕ)
    → feed_outcome (InText held false) (0x10 ∷ more) ≡ ahead 1 (feed_outcome (InText held true) more)
unfolding rest_step
fed-open held more = refl

pub fed-dle : (held : Option (List ℕ)) (bytes : List ℕ) → get_or bytes 0 0 ≡ 0x10
    → feed_outcome (InText held false) bytes ≡ ahead 1 (feed_outcome (InText held true) (drop 1 bytes))
fed-dle held bytes first = ap (feed_outcome (InText held false)) (one-front bytes first) ∙ fed-open held (drop 1 bytes)

-- a run of plain bytes is not empty if the first is plain
pub run-some : (bytes : List ℕ) → 0 < length bytes → (get_or bytes 0 0 ≡ 0x10 → ⊥) → 0 < plain_len bytes
run-some [] some plain = absurd (omega (arith, some))
run-some (byte ∷ more) some plain = rw (ne_eqb byte 0x10 plain) (omega arith)
