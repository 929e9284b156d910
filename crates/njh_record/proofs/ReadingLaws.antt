-- What the reading function gives is in the bytes.
use Rattle.std.proofs.Common.{◌≡◌, ℕ, zero, suc, ◌<◌, ◌≤◌, List, [], ◌∷◌, ◌++◌, length, get_or, Result, Ok, Err, refl}
use Rattle.std.proofs.Common.{◌∙◌, ap, subst, append_assoc, arith, length-append}
use Rattle.std.proofs.lemmas.List.{get_or_append_left}
use Rattle.njh_record.specs.Bytes.{AreBytes}
use Rattle.njh_record.specs.declared.End.{End}
use Rattle.njh_record.specs.declared.End.TheVariants.{Record}
use Rattle.njh_record.specs.Spelling.{Item, blanks, IsItem, item_bytes, added_bytes, end_byte, ItemsThen, Spelling}
use Rattle.njh_record.specs.Reading.{HasBadScb, IsTruncated}
use Rattle.njh_record.specs.Unspelled.{Front, OfItem, OfEnd, Bad, Cut, front_of, Fault, BadScb, Truncated, Unspelled}
use Rattle.njh_record.specs.Unspelled.{with_front, unspelled_within, record_at_front, ReadsAs}
use Rattle.njh_record.specs.code.Parts.{IsCutItem, StandsFirst}
use Rattle.njh_record.proofs.Fronts.{front-stands, front_only, some_item, front_leaves_less, IsItem-counted}

-- ---- a step

abbrev pub read_on : (List ℕ → Result Unspelled Fault) → Front → Result Unspelled Fault
read_on again front =
    elim front [
      | OfItem item rest ↦ with_front (added_bytes item) (again rest)
      | OfEnd end rest ↦ Ok (record { contents = []; end = end; rest = rest })
      | Bad ↦ Err BadScb
      | Cut ↦ Err Truncated
    ]

-- readers that agree on what is shorter
same_on : (one other : List ℕ → Result Unspelled Fault) (bytes : List ℕ) (front : Front) → StandsFirst bytes front
    → ((rest : List ℕ) → length rest < length bytes → one rest ≡ other rest) → read_on one front ≡ read_on other front
same_on one other bytes (OfItem item rest) (counted, parts) same =
    ap (with_front (added_bytes item)) (same rest (front_leaves_less bytes rest item parts))
same_on one other bytes (OfEnd end rest) parts same = refl
same_on one other bytes Bad bad same = refl
same_on one other bytes Cut cut same = refl

enough : (k j : ℕ) (bytes : List ℕ) → length bytes ≤ k → length bytes ≤ j
    → unspelled_within k bytes ≡ unspelled_within j bytes
enough zero zero bytes p q = refl
enough zero (suc j) [] p q = refl
enough zero (suc j) (b ∷ rest) p q = absurd (omega arith)
enough (suc k) zero [] p q = refl
enough (suc k) zero (b ∷ rest) p q = absurd (omega arith)
enough (suc k) (suc j) bytes p q =
    same_on (unspelled_within k) (unspelled_within j) bytes (front_of bytes) (front-stands bytes)
    (λ rest less. enough k j rest (omega arith) (omega arith))

unspelled-step : (bytes : List ℕ) → record_at_front bytes ≡ read_on record_at_front (front_of bytes)
unspelled-step [] = refl
unspelled-step (b ∷ rest) =
    same_on (unspelled_within (length rest)) record_at_front (b ∷ rest) (front_of (b ∷ rest)) (front-stands (b ∷ rest))
    (λ after less. enough (length rest) (length after) after (omega arith) (omega arith))

pub unspelled-first : (bytes : List ℕ) (front : Front) → StandsFirst bytes front
    → record_at_front bytes ≡ read_on record_at_front front
unspelled-first bytes front stands = unspelled-step bytes ∙ ap (read_on record_at_front) (front_only bytes front stands)

-- what holds of each step holds of the whole
module _ (P : List ℕ → Result Unspelled Fault → Type 0)
    (step : (bytes : List ℕ) (front : Front) → StandsFirst bytes front →
    ((rest : List ℕ) → length rest < length bytes → P rest (record_at_front rest))
    → P bytes (read_on record_at_front front)) where
  at_most : (k : ℕ) (bytes : List ℕ) → length bytes ≤ k → P bytes (record_at_front bytes)
  at_most zero [] le = step [] Cut (front-stands []) (λ rest less. absurd (omega arith))
  at_most zero (b ∷ rest) le = absurd (omega arith)
  at_most (suc k) bytes le =
      rw (unspelled-step bytes) (step bytes (front_of bytes) (front-stands bytes)
      (λ rest less. at_most k rest (omega arith)))

  pub by_steps : (bytes : List ℕ) → P bytes (record_at_front bytes)
  by_steps bytes = at_most (length bytes) bytes (omega arith)

-- ---- what is found is there

ItemsThen-item : (item : Item) (bytes : List ℕ) (items : List Item) (rest : List ℕ) → IsItem item
    → ItemsThen bytes items rest
    → ItemsThen (item_bytes item ++ bytes) (item ∷ items) rest
ItemsThen-item item bytes items rest is then =
    record {
      each = (is, then.each);
      parts = rw (then.parts, append_assoc) refl;
    }

pub Spelling-item : (item : Item) (bytes contents : List ℕ) (end : End) → IsItem item → Spelling bytes contents end
    → Spelling (item_bytes item ++ bytes) (added_bytes item ++ contents) end
Spelling-item item bytes contents end is spells =
    record {
      items = item ∷ spells.items;
      whole = ItemsThen-item item bytes spells.items (end_byte end ∷ []) is spells.whole;
      adds = ap (λ (b : List ℕ). added_bytes item ++ b) spells.adds;
    }

pub Spelling-end : (end : End) → Spelling (end_byte end ∷ []) [] end
Spelling-end end = record { items = []; whole = record { each = tt; parts = refl }; adds = refl }

ReadsAs-item : (item : Item) (rest : List ℕ) (read : Result Unspelled Fault) → IsItem item → ReadsAs rest read
    → ReadsAs (item_bytes item ++ rest) (with_front (added_bytes item) read)
ReadsAs-item item rest (Ok found) is (spelling, spells, parts) = (
  item_bytes item ++ spelling,
  Spelling-item item spelling found.contents found.end is spells,
  rw (parts, append_assoc) refl,
)
ReadsAs-item item rest (Err BadScb) is bad =
    record {
      items = item ∷ bad.items;
      byte = bad.byte;
      rest = bad.rest;
      front = ItemsThen-item item rest bad.items (bad.byte ∷ bad.rest) is bad.front;
      bad = bad.bad;
    }
ReadsAs-item item rest (Err Truncated) is cut =
    record {
      missing = cut.missing;
      some_missing = cut.some_missing;
      contents = added_bytes item ++ cut.contents;
      end = cut.end;
      spelling = rw append_assoc (Spelling-item item (rest ++ cut.missing) cut.contents cut.end is cut.spelling);
    }

-- the front of an item that an end follows is cut short
IsTruncated-item : (bytes missing : List ℕ) (item : Item) → bytes ++ missing ≡ item_bytes item → IsItem item
    → IsTruncated bytes
IsTruncated-item bytes missing item parts is =
    record {
      missing = missing ++ 0 ∷ [];
      some_missing = omega (arith, length-append missing (0 ∷ []));
      contents = added_bytes item ++ [];
      end = Record;
      spelling = rw (← append_assoc bytes missing (0 ∷ []), parts)
          (Spelling-item item (0 ∷ []) [] Record is (Spelling-end Record));
    }

pub truncated_at : (bytes : List ℕ) → AreBytes bytes → IsCutItem bytes → IsTruncated bytes
truncated_at [] are cut = IsTruncated-item [] (0x80 ∷ []) (blanks 0) refl (omega arith)
truncated_at (b ∷ rest) are cut =
    let first : b ≡ get_or (item_bytes cut.item) 0 0 = ap (λ (bytes : List ℕ). get_or bytes 0 0) cut.parts in
    IsTruncated-item (b ∷ rest) cut.missing cut.item cut.parts
    (IsItem-counted cut.item cut.counted (omega (arith, are 0, first)))

pub AreBytes-behind : (front rest : List ℕ) → AreBytes (front ++ rest) → AreBytes rest
AreBytes-behind [] rest are = are
AreBytes-behind (b ∷ front) rest are = AreBytes-behind front rest (λ place. are (suc place))

-- what comes first, and what the rest reads as
pub AreBytes-left : (bytes rest : List ℕ) (item : Item) → AreBytes bytes → StandsFirst bytes (OfItem item rest)
    → AreBytes rest
AreBytes-left bytes rest item are stands = AreBytes-behind (item_bytes item) rest (subst AreBytes stands.1 are)

pub item_reads : (bytes rest : List ℕ) (item : Item) (read : Result Unspelled Fault) → AreBytes bytes
    → StandsFirst bytes (OfItem item rest)
    → ReadsAs rest read → ReadsAs bytes (with_front (added_bytes item) read)
item_reads bytes rest item read are (counted, parts) reads =
    let here : AreBytes (item_bytes item ++ rest) = subst AreBytes parts are in
    let first = get_or_append_left (item_bytes item) rest 0 0 (some_item item) in
    let is = IsItem-counted item counted (omega (arith, here 0, first)) in
    rw parts (ReadsAs-item item rest read is reads)

pub bad_reads : (bytes : List ℕ) → StandsFirst bytes Bad → HasBadScb bytes
bad_reads [] bad = absurd bad
bad_reads (b ∷ rest) bad = record {
  items = [];
  byte = b;
  rest = rest;
  front = record { each = tt; parts = refl };
  bad = bad;
}

abbrev pub FoundIn : List ℕ → Result Unspelled Fault → Type 0
FoundIn bytes read = AreBytes bytes → ReadsAs bytes read

found_at : (bytes : List ℕ) (front : Front) → StandsFirst bytes front
    → ((rest : List ℕ) → length rest < length bytes → FoundIn rest (record_at_front rest))
    → FoundIn bytes (read_on record_at_front front)
found_at bytes (OfItem item rest) stands again are =
    item_reads bytes rest item (record_at_front rest) are stands
    (again rest (front_leaves_less bytes rest item stands.1) (AreBytes-left bytes rest item are stands))
found_at bytes (OfEnd end rest) parts again are = (end_byte end ∷ [], Spelling-end end, parts)
found_at bytes Bad bad again are = bad_reads bytes bad
found_at bytes Cut cut again are = truncated_at bytes are cut

pub found : (bytes : List ℕ) → AreBytes bytes → ReadsAs bytes (record_at_front bytes)
found = by_steps FoundIn found_at
