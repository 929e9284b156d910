-- What comes first in some bytes: the function gives it, and nothing else.
use Rattle.std.proofs.Common.{◌≡◌, ℕ, ◌+◌, ◌-◌, ◌<◌, ◌≤◌, eqb, leb, ltb, cond, List, [], ◌∷◌, ◌++◌, length, take, drop}
use Rattle.std.proofs.Common.{replicate, get_or, refl, sym, ◌∙◌, ap, arith, length-append, length-take}
use Rattle.std.proofs.lemmas.Bool.{cond_both, cond-false, eqb-true, eqb-false, ne_eqb, ltb-true, ltb-false, lt-ltb}
use Rattle.std.proofs.lemmas.Bool.{le-ltb, leb-true, leb-false, le-leb, lt-leb}
use Rattle.std.proofs.lemmas.List.{length-replicate, take_at, drop_at, take-append-drop}
use Rattle.njh_record.specs.declared.End.{End}
use Rattle.njh_record.specs.declared.End.TheVariants.{Record, Abort}
use Rattle.njh_record.specs.Spelling.{Item, blanks, repeat, literal, IsItem, item_bytes, end_byte}
use Rattle.njh_record.specs.Unspelled.{Front, OfItem, OfEnd, Bad, Cut, repeat_front, literal_front, front_of}
use Rattle.njh_record.specs.code.Parts.{IsCounted, IsCutItem, StandsFirst}

-- ---- what the function gives is there

pub cut_item : (bytes missing : List ℕ) (item : Item) → IsCounted item → 0 < length missing
    → bytes ++ missing ≡ item_bytes item → IsCutItem bytes
cut_item bytes missing item counted some parts =
    record { item = item; counted = counted; missing = missing; some = some; parts = parts }

repeat-stands : (b n : ℕ) (rest : List ℕ) → b ≡ 0xA0 + n → n < 32 → StandsFirst (b ∷ rest) (repeat_front n rest)
repeat-stands b n [] is below = cut_item (b ∷ []) (0 ∷ []) (repeat n 0) below (omega arith)
    (ap (λ (x : ℕ). x ∷ 0 ∷ []) is)
repeat-stands b n (byte ∷ rest) is below = (below, ap (λ (x : ℕ). x ∷ byte ∷ rest) is)

literal-stands : (b n : ℕ) (rest : List ℕ) → b ≡ 0xC0 + n → StandsFirst (b ∷ rest) (literal_front n rest)
literal-stands b n rest is =
    cond_both (leb n (length rest)) (OfItem (literal (take n rest)) (drop n rest)) Cut
    (λ front. StandsFirst (b ∷ rest) front)
    (λ fits.
    let size : b ≡ 0xC0 + length (take n rest) = omega (arith, length-take n rest, leb-true n (length rest) fits) in (
      tt,
      ap (λ (x : ℕ). x ∷ rest) size ∙ ap (λ (bytes : List ℕ). (0xC0 + length (take n rest)) ∷ bytes)
          (sym (take-append-drop n rest)),
    ))
    (λ short.
    let lacks = leb-false n (length rest) short in
    let missing = replicate (n - length rest) 0 in
    let count : length missing ≡ n - length rest = length-replicate (n - length rest) 0 in
    let size : b ≡ 0xC0 + length (rest ++ missing) = omega (arith, length-append rest missing) in
    cut_item (b ∷ rest) missing (literal (rest ++ missing)) tt (omega arith)
    (ap (λ (x : ℕ). x ∷ (rest ++ missing)) size))

abbrev counted_front : ℕ → List ℕ → Front
counted_front b rest =
    cond (ltb b 0xA0) (OfItem (blanks (b - 0x80)) rest)
    (cond (ltb b 0xC0) (repeat_front (b - 0xA0) rest) (literal_front (b - 0xC0) rest))

counted-stands : (b : ℕ) (rest : List ℕ) → 0x80 ≤ b → StandsFirst (b ∷ rest) (counted_front b rest)
counted-stands b rest high =
    let P : Front → Type 0 = λ front. StandsFirst (b ∷ rest) front in
    cond_both (ltb b 0xA0) (OfItem (blanks (b - 0x80)) rest)
    (cond (ltb b 0xC0) (repeat_front (b - 0xA0) rest) (literal_front (b - 0xC0) rest)) P
    (λ l. let low = ltb-true b 0xA0 l in let is : b ≡ 0x80 + (b - 0x80) = omega arith
    in (omega arith, ap (λ (x : ℕ). x ∷ rest) is))
    (λ h. let above = ltb-false b 0xA0 h in
    cond_both (ltb b 0xC0) (repeat_front (b - 0xA0) rest) (literal_front (b - 0xC0) rest) P
    (λ l. let low = ltb-true b 0xC0 l in repeat-stands b (b - 0xA0) rest (omega arith) (omega arith))
    (λ h. let above = ltb-false b 0xC0 h in literal-stands b (b - 0xC0) rest (omega arith)))

pub front-stands : (bytes : List ℕ) → StandsFirst bytes (front_of bytes)
front-stands [] = cut_item [] (0x80 ∷ []) (blanks 0) (omega arith) (omega arith) refl
front-stands (b ∷ rest) =
    let P : Front → Type 0 = λ front. StandsFirst (b ∷ rest) front in
    cond_both (eqb b 0x00) (OfEnd Record rest)
    (cond (eqb b 0x40) (OfEnd Abort rest) (cond (ltb b 0x80) Bad (counted_front b rest))) P
    (λ is. ap (λ (x : ℕ). x ∷ rest) (eqb-true b 0x00 is))
    (λ other. cond_both (eqb b 0x40) (OfEnd Abort rest) (cond (ltb b 0x80) Bad (counted_front b rest)) P
    (λ is. ap (λ (x : ℕ). x ∷ rest) (eqb-true b 0x40 is))
    (λ neither. cond_both (ltb b 0x80) Bad (counted_front b rest) P
    (λ low. let above = eqb-false b 0x00 other in (omega arith, ltb-true b 0x80 low, eqb-false b 0x40 neither))
    (λ high. counted-stands b rest (ltb-false b 0x80 high))))

-- ---- what is there is what the function gives

front_of-blanks : (b n : ℕ) (rest : List ℕ) → b ≡ 0x80 + n → n < 32 → front_of (b ∷ rest) ≡ OfItem (blanks n) rest
front_of-blanks b n rest is below =
    let count : b - 0x80 ≡ n = omega arith in
    rw (
      ne_eqb b 0x00 (λ e. omega arith),
      ne_eqb b 0x40 (λ e. omega arith),
      le-ltb b 0x80 (omega arith),
      lt-ltb b 0xA0
          (omega arith),
      count,
    ) refl

front_of-repeat : (b n : ℕ) (rest : List ℕ) → b ≡ 0xA0 + n → n < 32 → front_of (b ∷ rest) ≡ repeat_front n rest
front_of-repeat b n rest is below =
    let count : b - 0xA0 ≡ n = omega arith in
    rw (
      ne_eqb b 0x00 (λ e. omega arith),
      ne_eqb b 0x40 (λ e. omega arith),
      le-ltb b 0x80 (omega arith),
      le-ltb b 0xA0 (omega arith),
      lt-ltb b 0xC0 (omega arith),
      count,
    ) refl

front_of-literal : (b n : ℕ) (rest : List ℕ) → b ≡ 0xC0 + n → front_of (b ∷ rest) ≡ literal_front n rest
front_of-literal b n rest is =
    let count : b - 0xC0 ≡ n = omega arith in
    rw (
      ne_eqb b 0x00 (λ e. omega arith),
      ne_eqb b 0x40 (λ e. omega arith),
      le-ltb b 0x80 (omega arith),
      le-ltb b 0xA0 (omega arith),
      le-ltb b 0xC0 (omega arith),
      count,
    ) refl

item-only : (item : Item) (rest : List ℕ) → IsCounted item → front_of (item_bytes item ++ rest) ≡ OfItem item rest
item-only (blanks n) rest below = front_of-blanks (0x80 + n) n rest refl below
item-only (repeat n byte) rest below = front_of-repeat (0xA0 + n) n (byte ∷ rest) refl below
item-only (literal bytes) rest counted =
    let n = length bytes in
    let room : n ≤ length (bytes ++ rest) = omega (arith, length-append bytes rest) in
    front_of-literal (0xC0 + n) n (bytes ++ rest) refl
    ∙ rw (le-leb n (length (bytes ++ rest)) room, take_at bytes rest n refl, drop_at bytes rest n refl) refl

end-only : (end : End) (rest : List ℕ) → front_of (end_byte end ∷ rest) ≡ OfEnd end rest
end-only Record rest = refl
end-only Abort rest = refl

cut-only : (b : ℕ) (rest missing : List ℕ) (item : Item) → IsCounted item → 0 < length missing
    → b ∷ (rest ++ missing) ≡ item_bytes item → front_of (b ∷ rest) ≡ Cut
cut-only b rest missing (blanks n) counted some parts =
    absurd (omega (arith, ap length parts, length-append rest missing))
cut-only b [] missing (repeat n byte) counted some parts = let is : b ≡ 0xA0 + n =
    cc in front_of-repeat b n [] is counted
cut-only b (c ∷ rest) missing (repeat n byte) counted some parts =
    absurd (omega (arith, ap length parts, length-append rest missing))
cut-only b rest missing (literal bytes) counted some parts =
    let is : b ≡ 0xC0 + length bytes = cc in
    let short : length rest < length bytes = omega (arith, ap length parts, length-append rest missing) in
    front_of-literal b (length bytes) rest is
    ∙ cond-false (leb (length bytes) (length rest)) _ _ (lt-leb (length bytes) (length rest) short)

pub front_only : (bytes : List ℕ) (front : Front) → StandsFirst bytes front → front_of bytes ≡ front
front_only bytes (OfItem item rest) (counted, parts) = ap front_of parts ∙ item-only item rest counted
front_only bytes (OfEnd end rest) parts = ap front_of parts ∙ end-only end rest
front_only [] Bad bad = absurd bad
front_only (b ∷ rest) Bad (above, below, other) =
    rw (ne_eqb b 0x00 (λ e. omega arith), ne_eqb b 0x40 other, lt-ltb b 0x80 below) refl
front_only [] Cut cut = refl
front_only (b ∷ rest) Cut cut = cut-only b rest cut.missing cut.item cut.counted cut.some cut.parts

-- ---- an item has a byte

pub some_item : (item : Item) → 0 < length (item_bytes item)
some_item (blanks n) = omega arith
some_item (repeat n byte) = omega arith
some_item (literal bytes) = omega arith

pub front_leaves_less : (bytes rest : List ℕ) (item : Item) → bytes ≡ item_bytes item ++ rest
    → length rest < length bytes
front_leaves_less bytes rest item parts = omega
    (arith, ap length parts, length-append (item_bytes item) rest, some_item item)

-- a literal's count is that of its byte
pub IsItem-counted : (item : Item) → IsCounted item → get_or (item_bytes item) 0 0 < 256 → IsItem item
IsItem-counted (blanks n) counted below = counted
IsItem-counted (repeat n byte) counted below = counted
IsItem-counted (literal bytes) counted below = omega arith

pub IsCounted-item : (item : Item) → IsItem item → IsCounted item
IsCounted-item (blanks n) is = is
IsCounted-item (repeat n byte) is = is
IsCounted-item (literal bytes) is = tt

-- ---- as the code meets it: too few bytes

pub cut_none : (bytes : List ℕ) → length bytes < 1 → IsCutItem bytes
cut_none [] none = front-stands []
cut_none (b ∷ rest) none = absurd (omega arith)

pub cut_repeat : (bytes : List ℕ) → length bytes ≡ 1 → 0xA0 ≤ get_or bytes 0 0 → get_or bytes 0 0 < 0xC0
    → IsCutItem bytes
cut_repeat [] one low high = absurd (omega arith)
cut_repeat (b ∷ []) one low high = repeat-stands b (b - 0xA0) [] (omega arith) (omega arith)
cut_repeat (b ∷ c ∷ rest) one low high = absurd (omega arith)

pub cut_literal : (bytes : List ℕ) (count : ℕ) → 0 < length bytes → get_or bytes 0 0 ≡ 0xC0 + count
    → length bytes ≤ count → IsCutItem bytes
cut_literal [] count some is short = absurd (omega arith)
cut_literal (b ∷ rest) count some is short =
    rw (lt-leb count (length rest) (omega arith)) at (literal-stands b count rest is)
