-- What is in the bytes is what the reading function gives.
use Rattle.std.proofs.Common.{◌≡◌, ℕ, ◌<◌, ◌≤◌, inl, inr, List, [], ◌∷◌, ◌++◌, length, take, drop, Result, Ok, Err}
use Rattle.std.proofs.Common.{refl, sym, ◌∙◌, ap, subst, append_assoc, arith, length-append, length-drop}
use Rattle.std.proofs.lemmas.Bool.{cases_lt}
use Rattle.std.proofs.lemmas.List.{append-nil, take-append-le, take-append-drop, take_at, drop_at, drop-append-le}
use Rattle.std.specs.List.{flat_map, AllByRecursion}
use Rattle.njh_record.specs.declared.End.{End}
use Rattle.njh_record.specs.Spelling.{Item, IsItem, item_bytes, added_bytes, end_byte, Spelling}
use Rattle.njh_record.specs.Unspelled.{Front, OfItem, OfEnd, Bad, Cut, Fault, BadScb, Truncated, Unspelled, with_front}
use Rattle.njh_record.specs.Unspelled.{record_at_front, ReadsAs}
use Rattle.njh_record.specs.code.Parts.{StandsFirst}
use Rattle.njh_record.proofs.Fronts.{cut_item, front_leaves_less, IsCounted-item}
use Rattle.njh_record.proofs.ReadingLaws.{read_on, by_steps, unspelled-first}

-- ---- what is there is found

pub with_front-with_front : (a b : List ℕ) (read : Result Unspelled Fault)
    → with_front a (with_front b read) ≡ with_front (a ++ b) read
with_front-with_front a b (Ok found) =
    ap (λ (bytes : List ℕ). Ok (record found { contents = bytes })) (sym (append_assoc a b found.contents))
with_front-with_front a b (Err fault) = refl

pub with_front-nil : (read : Result Unspelled Fault) → read ≡ with_front [] read
with_front-nil (Ok found) = refl
with_front-nil (Err fault) = refl

unspelled-item : (item : Item) (rest : List ℕ) → IsItem item
    → record_at_front (item_bytes item ++ rest) ≡ with_front (added_bytes item) (record_at_front rest)
unspelled-item item rest is = unspelled-first (item_bytes item ++ rest) (OfItem item rest)
    (IsCounted-item item is, refl)

unspelled-items : (items : List Item) (rest : List ℕ) → AllByRecursion IsItem items
    → record_at_front (flat_map item_bytes items ++ rest) ≡ with_front (flat_map added_bytes items)
    (record_at_front rest)
unspelled-items [] rest each = with_front-nil (record_at_front rest)
unspelled-items (item ∷ items) rest each =
    rw (append_assoc, unspelled-item item (flat_map item_bytes items ++ rest) each.0, unspelled-items items rest each.1)
    (with_front-with_front (added_bytes item) (flat_map added_bytes items) (record_at_front rest))

pub unspelled-spelling : (bytes contents : List ℕ) (end : End) (rest : List ℕ) → Spelling bytes contents end
    → record_at_front (bytes ++ rest) ≡ Ok (record { contents = contents; end = end; rest = rest })
unspelled-spelling bytes contents end rest spells =
    let items = spells.items in
    let ends = unspelled-first (end_byte end ∷ rest) (OfEnd end rest) refl in
    rw (
      spells.whole.parts,
      append_assoc,
      unspelled-items items (end_byte end ∷ rest) spells.whole.each,
      ends,
      append-nil,
      spells.adds,
    ) refl

-- what is cut off lies within an item, or after whole ones
unspelled-cut : (items : List Item) (end : End) (bytes missing : List ℕ) → AllByRecursion IsItem items
    → 0 < length missing
    → bytes ++ missing ≡ flat_map item_bytes items ++ end_byte end ∷ [] → record_at_front bytes ≡ Err Truncated
unspelled-cut [] end [] missing each some parts = refl
unspelled-cut [] end (b ∷ bytes) missing each some parts =
    absurd (omega (arith, ap length parts, length-append bytes missing))
unspelled-cut (item ∷ items) end bytes missing each some parts =
    let n = length (item_bytes item) in
    let after = flat_map item_bytes items ++ end_byte end ∷ [] in
    let joined : bytes ++ missing ≡ item_bytes item ++ after =
    parts ∙ append_assoc (item_bytes item) (flat_map item_bytes items) (end_byte end ∷ []) in
    elim (cases_lt (length bytes) n) [
      | inl short ↦
          let front : take (length bytes) (item_bytes item) ≡ bytes =
          rw (← take-append-le (length bytes) (item_bytes item) after (omega arith), ← joined)
          (take_at bytes missing (length bytes) refl) in
          let whole : bytes ++ drop (length bytes) (item_bytes item) ≡ item_bytes item =
          rw front at (take-append-drop (length bytes) (item_bytes item)) in
          unspelled-first bytes Cut
          (cut_item bytes (drop (length bytes) (item_bytes item)) item (IsCounted-item item each.0)
          (omega (arith, length-drop (length bytes) (item_bytes item))) whole)
      | inr long ↦
          let front : take n bytes ≡ item_bytes item =
          rw (← take-append-le n bytes missing long, joined) (take_at (item_bytes item) after n refl) in
          let back : drop n bytes ++ missing ≡ after =
          rw (← drop-append-le n bytes missing long, joined) (drop_at (item_bytes item) after n refl) in
          let whole : bytes ≡ item_bytes item ++ drop n bytes =
          sym (take-append-drop n bytes) ∙ ap (λ (b : List ℕ). b ++ drop n bytes) front in
          ap record_at_front whole ∙ (unspelled-item item (drop n bytes) each.0
          ∙ ap (with_front (added_bytes item)) (unspelled-cut items end (drop n bytes) missing each.1 some back))
    ]

pub only : (bytes : List ℕ) (read : Result Unspelled Fault) → ReadsAs bytes read → record_at_front bytes ≡ read
only bytes (Ok found) (spelling, spells, parts) =
    ap record_at_front parts ∙ unspelled-spelling spelling found.contents found.end found.rest spells
only bytes (Err BadScb) bad =
    let ends = unspelled-first (bad.byte ∷ bad.rest) Bad bad.bad in
    rw (bad.front.parts, unspelled-items bad.items (bad.byte ∷ bad.rest) bad.front.each, ends) refl
only bytes (Err Truncated) cut =
    unspelled-cut cut.spelling.items cut.end bytes cut.missing cut.spelling.whole.each cut.some_missing
    cut.spelling.whole.parts

-- ---- the rest comes after what is read

-- what is read has a byte at least, and the rest comes after it
abbrev RestBehind : List ℕ → Result Unspelled Fault → Type 0
RestBehind bytes (Ok found) = (front : List ℕ) × (0 < length front) × (bytes ≡ front ++ found.rest)
RestBehind bytes (Err fault) = Unit {0}

RestBehind-item : (item : Item) (bytes rest : List ℕ) (read : Result Unspelled Fault) → bytes ≡ item_bytes item ++ rest
    → RestBehind rest read → RestBehind bytes (with_front (added_bytes item) read)
RestBehind-item item bytes rest (Ok found) parts (front, some, is) = (
  item_bytes item ++ front,
  omega (arith, some, length-append (item_bytes item) front),
  parts ∙ (ap (λ (b : List ℕ). item_bytes item ++ b) is ∙ sym (append_assoc (item_bytes item) front found.rest)),
)
RestBehind-item item bytes rest (Err fault) parts behind = tt

behind_at : (bytes : List ℕ) (front : Front) → StandsFirst bytes front
    → ((rest : List ℕ) → length rest < length bytes → RestBehind rest (record_at_front rest))
    → RestBehind bytes (read_on record_at_front front)
behind_at bytes (OfItem item rest) (counted, parts) again =
    RestBehind-item item bytes rest (record_at_front rest) parts (again rest (front_leaves_less bytes rest item parts))
behind_at bytes (OfEnd end rest) parts again = (end_byte end ∷ [], omega arith, parts)
behind_at bytes Bad bad again = tt
behind_at bytes Cut cut again = tt

pub rest_behind : (bytes : List ℕ) (read : Unspelled) → record_at_front bytes ≡ Ok read
    → (used : ℕ) × (0 < used) × (used ≤ length bytes) × (read.rest ≡ drop used bytes)
rest_behind bytes read is =
    let behind = subst (RestBehind bytes) is (by_steps RestBehind behind_at bytes) in
    let front = behind.0 in (
      length front,
      behind.1,
      omega (arith, ap length behind.2, length-append front read.rest),
      sym (ap (drop (length front)) behind.2 ∙ drop_at front read.rest (length front) refl),
    )

abbrev rest_of : Result Unspelled Fault → List ℕ
rest_of (Ok found) = found.rest
rest_of (Err fault) = []

-- no spelling is a proper prefix of another
pub prefix_free : (spelling more contents others : List ℕ) (end other : End) → Spelling spelling contents end
    → Spelling (spelling ++ more) others other → more ≡ []
prefix_free spelling more contents others end other spells longer =
    ap rest_of (sym (unspelled-spelling spelling contents end more spells)
    ∙ (ap record_at_front (sym (append-nil (spelling ++ more)))
    ∙ unspelled-spelling (spelling ++ more) others other [] longer))
