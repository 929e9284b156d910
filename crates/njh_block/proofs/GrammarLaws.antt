-- All the records of some bytes, by the grammar.
use Rattle.std.proofs.Common.{◌≡◌, ℕ, zero, suc, ◌<◌, ◌≤◌, List, [], ◌∷◌, ◌++◌, length, Option, Some, None, Result, Ok}
use Rattle.std.proofs.Common.{Err, refl, sym, ◌∙◌, ap, subst, append_assoc, arith}
use Rattle.njh_record.specs.Bytes.{AreBytes}
use Rattle.njh_block.specs.declared.fault.BlockFault.{BlockFault}
use Rattle.njh_block.specs.declared.fault.BlockFault.TheVariants.{TooShort, BadBcb, BadFcs, BadRcb, BadRecord}
use Rattle.njh_block.specs.declared.rcb.Form.{Form}
use Rattle.njh_block.specs.Blocks.{Item, First, record_of_one_byte, record_of_form, first_record, with_item, read_items}
use Rattle.njh_block.specs.Blocks.{items_in}
use Rattle.njh_block.specs.Grammar.{Covers, TextRecord, covered_bytes, items_of, EachCovers, IsEnd, IsBadRcb}
use Rattle.njh_block.specs.Grammar.{IsBadRecord}
use Rattle.njh_block.proofs.ReadingLaws.{items_from, Shorter, first_record-shorter, items_in_step}
use Rattle.njh_block.proofs.Forms.{form_of-bad}
use Rattle.njh_block.proofs.FirstLaws.{AreBytes-drop, Stands, first_record-stands, Covers-first}

abbrev pub with_items : List Item → Result (List Item) BlockFault → Result (List Item) BlockFault
with_items [] read = read
with_items (i ∷ is) read = with_item i (with_items is read)

pub with_items-Ok : (is js : List Item) → with_items is (Ok js) ≡ Ok (is ++ js)
with_items-Ok [] js = refl
with_items-Ok (i ∷ is) js = ap (with_item i) (with_items-Ok is js)

pub with_items-Err : (is : List Item) (e : BlockFault) → with_items is (Err e) ≡ Err e
with_items-Err [] e = refl
with_items-Err (i ∷ is) e = ap (with_item i) (with_items-Err is e)

-- the items of bytes that begin with a record
pub items_in-first : (bytes : List ℕ) (x : First) → first_record bytes ≡ Ok (Some x)
    → items_in bytes ≡ with_item x.item (items_in x.rest)
items_in-first bytes x is = items_in_step bytes ∙ ap (λ (f : Result (Option First) BlockFault). items_from f items_in)
    is

pub items_in-end : (after : List ℕ) → IsEnd after → items_in after ≡ Ok []
items_in-end [] is = refl
items_in-end (b ∷ []) is = ap (λ (x : ℕ). items_in (x ∷ [])) is
items_in-end (b ∷ c ∷ after) is = ap (λ (x : ℕ). items_in (x ∷ c ∷ after)) is

pub items_in-bad_rcb : (after : List ℕ) → IsBadRcb after → items_in after ≡ Err BadRcb
items_in-bad_rcb [] is = absurd is
items_in-bad_rcb (b ∷ []) is = ap (λ (f : Form). items_from (record_of_one_byte f) (read_items 0))
    (form_of-bad b is.0 is.1)
items_in-bad_rcb (b ∷ c ∷ after) is =
    ap (λ (f : Form). items_from (record_of_form f b c after) (read_items (suc (length after))))
    (form_of-bad b is.0 is.1)

-- What the items that were read say of the bytes.
pub record Split (bytes : List ℕ) (items : List Item) (Then : List ℕ → Type 0) : Type 0 where
  pub parts : List TextRecord
  pub after : List ℕ
  pub joined : bytes ≡ covered_bytes parts ++ after
  pub each : EachCovers parts after
  pub then : Then after
  pub items_are : items ≡ items_of parts

abbrev pub Reads : List ℕ → Result (List Item) BlockFault → Type 0
Reads bytes (Ok items) = Split bytes items IsEnd
Reads bytes (Err BadRcb) = (items : List Item) × Split bytes items IsBadRcb
Reads bytes (Err BadRecord) = (items : List Item) × Split bytes items IsBadRecord
Reads bytes (Err TooShort) = ⊥
Reads bytes (Err BadBcb) = ⊥
Reads bytes (Err BadFcs) = ⊥

Split-none : (bytes : List ℕ) (Then : List ℕ → Type 0) → Then bytes → Split bytes [] Then
Split-none bytes Then is = record { parts = []; after = bytes; joined = refl; each = tt; then = is; items_are = refl }

Split-more : (i : Item) (covered rest bytes : List ℕ) (items : List Item) (Then : List ℕ → Type 0)
    → bytes ≡ covered ++ rest
    → Covers i covered rest → Split rest items Then → Split bytes (i ∷ items) Then
Split-more i covered rest bytes items Then joined covers s =
    record {
      parts = record { item = i; bytes = covered } ∷ s.parts;
      after = s.after;
      joined = joined ∙ (ap (λ (b : List ℕ). covered ++ b) s.joined
          ∙ sym (append_assoc covered (covered_bytes s.parts) s.after));
      each = (subst (λ (b : List ℕ). Covers i covered b) s.joined covers, s.each);
      then = s.then;
      items_are = ap (λ (is : List Item). i ∷ is) s.items_are;
    }

Reads-more : (i : Item) (covered rest bytes : List ℕ) (read : Result (List Item) BlockFault) → bytes ≡ covered ++ rest
    → Covers i covered rest → Reads rest read → Reads bytes (with_item i read)
Reads-more i covered rest bytes (Ok items) joined covers reads =
    Split-more i covered rest bytes items IsEnd joined covers reads
Reads-more i covered rest bytes (Err BadRcb) joined covers reads =
    (i ∷ reads.0, Split-more i covered rest bytes reads.0 IsBadRcb joined covers reads.1)
Reads-more i covered rest bytes (Err BadRecord) joined covers reads =
    (i ∷ reads.0, Split-more i covered rest bytes reads.0 IsBadRecord joined covers reads.1)
Reads-more i covered rest bytes (Err TooShort) joined covers reads = reads
Reads-more i covered rest bytes (Err BadBcb) joined covers reads = reads
Reads-more i covered rest bytes (Err BadFcs) joined covers reads = reads

pub items_in-parts : (parts : List TextRecord) (after : List ℕ) → EachCovers parts after
    → items_in (covered_bytes parts ++ after) ≡ with_items (items_of parts) (items_in after)
items_in-parts [] after each = refl
items_in-parts (p ∷ ps) after each =
    ap items_in (append_assoc p.bytes (covered_bytes ps) after)
    ∙ (items_in-first (p.bytes ++ (covered_bytes ps ++ after))
    (record { item = p.item; rest = covered_bytes ps ++ after })
    (Covers-first p.item p.bytes (covered_bytes ps ++ after) each.0)
    ∙ ap (with_item p.item) (items_in-parts ps after each.1))

-- if an RCB begins no record, the reading says so
bad_record-first : (bytes : List ℕ) (read : Result (Option First) BlockFault) → IsBadRecord bytes → Stands bytes read
    → read ≡ Err BadRecord
bad_record-first [] read is stands = absurd is
bad_record-first (rcb ∷ rest) (Ok None) is stands = absurd (omega (arith, is.0, stands))
bad_record-first (rcb ∷ rest) (Ok (Some x)) is stands = absurd (is.1 x.item stands.0 x.rest stands.1 stands.2)
bad_record-first (rcb ∷ rest) (Err BadRcb) is stands = absurd (omega (arith, is.0, stands.1))
bad_record-first (rcb ∷ rest) (Err BadRecord) is stands = refl
bad_record-first (rcb ∷ rest) (Err TooShort) is stands = absurd stands
bad_record-first (rcb ∷ rest) (Err BadBcb) is stands = absurd stands
bad_record-first (rcb ∷ rest) (Err BadFcs) is stands = absurd stands

pub items_in-bad_record : (after : List ℕ) → AreBytes after → IsBadRecord after → items_in after ≡ Err BadRecord
items_in-bad_record after bytes is =
    items_in_step after
    ∙ ap (λ (f : Result (Option First) BlockFault). items_from f items_in)
    (bad_record-first after (first_record after) is (first_record-stands after bytes))

not_read : (item : Item) (covered after bytes : List ℕ) → first_record bytes ≡ Err BadRecord
    → bytes ≡ covered ++ after
    → Covers item covered after → ⊥
not_read item covered after bytes is joined covers =
    let read : first_record bytes ≡ Ok (Some (record { item = item; rest = after })) =
    ap first_record joined ∙ Covers-first item covered after covers in cc

bad_record : (bytes : List ℕ) → first_record bytes ≡ Err BadRecord → Stands bytes (Err BadRecord) → IsBadRecord bytes
bad_record [] is (rcb, rest, split, high) = absurd cc
bad_record (b ∷ bytes) is (rcb, rest, split, high) =
    let same : b ≡ rcb = cc in
    (omega arith, λ item covered after joined covers. not_read item covered after (b ∷ bytes) is joined covers)

from_first : (bytes : List ℕ) (read : Result (Option First) BlockFault)
    (onward : List ℕ → Result (List Item) BlockFault)
    → AreBytes bytes → first_record bytes ≡ read → Stands bytes read → Shorter (length bytes) read
    → ((rest : List ℕ) → length rest < length bytes → AreBytes rest → Reads rest (onward rest))
    → Reads bytes (items_from read onward)
from_first bytes (Ok None) onward are is stands shorter reads = Split-none bytes IsEnd stands
from_first bytes (Ok (Some x)) onward are is stands shorter reads =
    Reads-more x.item stands.0 x.rest bytes (onward x.rest) stands.1 stands.2
    (reads x.rest shorter (AreBytes-drop stands.0 x.rest (subst AreBytes stands.1 are)))
from_first bytes (Err BadRcb) onward are is stands shorter reads = ([], Split-none bytes IsBadRcb stands)
from_first bytes (Err BadRecord) onward are is stands shorter reads =
    ([], Split-none bytes IsBadRecord (bad_record bytes is stands))
from_first bytes (Err TooShort) onward are is stands shorter reads = stands
from_first bytes (Err BadBcb) onward are is stands shorter reads = stands
from_first bytes (Err BadFcs) onward are is stands shorter reads = stands

read_items-reads : (k : ℕ) (bytes : List ℕ) → length bytes ≤ k → AreBytes bytes → Reads bytes (read_items k bytes)
read_items-reads zero [] within are = Split-none [] IsEnd tt
read_items-reads zero (b ∷ bytes) within are = absurd (omega arith)
read_items-reads (suc k) bytes within are =
    from_first bytes (first_record bytes) (read_items k) are refl (first_record-stands bytes are)
    (first_record-shorter bytes)
    (λ rest less rest_are. read_items-reads k rest (omega arith) rest_are)

pub items_in-reads : (bytes : List ℕ) → AreBytes bytes → Reads bytes (items_in bytes)
items_in-reads bytes are = read_items-reads (length bytes) bytes (omega arith) are
