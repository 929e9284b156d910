-- What a text is read as, by the grammar.
use Rattle.std.proofs.Common.{◌≡◌, ℕ, Bool, true, false, cond, List, [], ◌∷◌, ◌++◌, Result, Ok, Err, refl, sym, ◌∙◌, ap}
use Rattle.std.proofs.Common.{subst, arith, IsTrue}
use Rattle.std.proofs.lemmas.List.{append-nil}
use Rattle.njh_record.specs.Bytes.{AreBytes}
use Rattle.njh_block.specs.declared.fault.BlockFault.{BlockFault}
use Rattle.njh_block.specs.declared.fault.BlockFault.TheVariants.{TooShort, BadBcb, BadFcs, BadRcb, BadRecord}
use Rattle.njh_block.specs.Blocks.{Item, Block, items_in, is_bcb, is_fcs, block_with, read_block}
use Rattle.njh_block.specs.Grammar.{TextRecord, covered_bytes, items_of, Front, IsBlock, IsBadRcb, IsBadRecord, StopsAt}
use Rattle.njh_block.specs.Grammar.{IsFault}
use Rattle.njh_block.proofs.FirstLaws.{AreBytes-drop}
use Rattle.njh_block.proofs.GrammarLaws.{Split, Reads, with_items, with_items-Ok, with_items-Err, items_in-reads}
use Rattle.njh_block.proofs.GrammarLaws.{items_in-parts, items_in-end, items_in-bad_rcb, items_in-bad_record}

-- a block, if its block control byte and its function control sequence are good
abbrev pub where_good : Bool → Bool → Result Block BlockFault → Result Block BlockFault
where_good bcb fcs block = cond bcb (cond fcs block (Err BadFcs)) (Err BadBcb)

-- ---- from the reading to the grammar

-- the answer says of the text what it is
abbrev pub Tells : List ℕ → Result Block BlockFault → Type 0
Tells text (Ok block) = IsBlock text block
Tells text (Err e) = IsFault text e

stops : (b f g : ℕ) (rest : List ℕ) (items : List Item) (IsBad : List ℕ → Type 0) → IsTrue (is_bcb b)
    → IsTrue (is_fcs (f, g))
    → Split rest items IsBad → StopsAt IsBad (b ∷ f ∷ g ∷ rest)
stops b f g rest items IsBad good_bcb good_fcs s =
    record {
      bcb = b;
      fcs = (f, g);
      parts = s.parts;
      after = s.after;
      front = record {
        good_bcb = good_bcb;
        good_fcs = good_fcs;
        joined = ap (λ (bytes : List ℕ). b ∷ f ∷ g ∷ bytes) s.joined;
        each = s.each;
      };
      bad =
          s.then;
    }

block_with-tells : (b f g : ℕ) (rest : List ℕ) (read : Result (List Item) BlockFault) → IsTrue (is_bcb b)
    → IsTrue (is_fcs (f, g))
    → Reads rest read → Tells (b ∷ f ∷ g ∷ rest) (block_with b (f, g) read)
block_with-tells b f g rest (Ok items) good_bcb good_fcs s =
    record {
      parts = s.parts;
      after = s.after;
      front = record {
        good_bcb = good_bcb;
        good_fcs = good_fcs;
        joined = ap (λ (bytes : List ℕ). b ∷ f ∷ g ∷ bytes) s.joined;
        each = s.each;
      };
      ends =
          s.then;
      items = s.items_are;
    }
block_with-tells b f g rest (Err BadRcb) good_bcb good_fcs (items, s) =
    stops b f g rest items IsBadRcb good_bcb good_fcs s
block_with-tells b f g rest (Err BadRecord) good_bcb good_fcs (items, s) =
    stops b f g rest items IsBadRecord good_bcb good_fcs s
block_with-tells b f g rest (Err TooShort) good_bcb good_fcs reads = absurd reads
block_with-tells b f g rest (Err BadBcb) good_bcb good_fcs reads = absurd reads
block_with-tells b f g rest (Err BadFcs) good_bcb good_fcs reads = absurd reads

where_good-tells : (b f g : ℕ) (rest : List ℕ) (t u : Bool) → is_bcb b ≡ t → is_fcs (f, g) ≡ u
    → Reads rest (items_in rest)
    → Tells (b ∷ f ∷ g ∷ rest) (where_good t u (block_with b (f, g) (items_in rest)))
where_good-tells b f g rest false u is_t is_u reads = (omega arith, is_t)
where_good-tells b f g rest true false is_t is_u reads = (omega arith, is_t, is_u)
where_good-tells b f g rest true true is_t is_u reads = block_with-tells b f g rest (items_in rest) is_t is_u reads

pub read_block-tells : (text : List ℕ) → AreBytes text → Tells text (read_block text)
read_block-tells [] are = omega arith
read_block-tells (b ∷ []) are = omega arith
read_block-tells (b ∷ f ∷ []) are = omega arith
read_block-tells (b ∷ f ∷ g ∷ rest) are =
    where_good-tells b f g rest (is_bcb b) (is_fcs (f, g)) refl refl
    (items_in-reads rest (AreBytes-drop (b ∷ f ∷ g ∷ []) rest are))

-- ---- from the grammar to the reading

front-read : (text : List ℕ) (bcb : ℕ) (fcs : ℕ × ℕ) (parts : List TextRecord) (after : List ℕ)
    → Front text bcb fcs parts after
    → read_block text ≡ block_with bcb fcs (with_items (items_of parts) (items_in after))
front-read text bcb fcs parts after front =
    ap read_block front.joined
    ∙ (ap (λ (t : Bool). where_good t (is_fcs fcs) (block_with bcb fcs (items_in (covered_bytes parts ++ after))))
    front.good_bcb
    ∙ (ap (λ (t : Bool). where_good true t (block_with bcb fcs (items_in (covered_bytes parts ++ after))))
    front.good_fcs
    ∙ ap (block_with bcb fcs) (items_in-parts parts after front.each)))

pub IsBlock-read : (text : List ℕ) (block : Block) → IsBlock text block → read_block text ≡ Ok block
IsBlock-read text block is =
    front-read text block.bcb block.fcs is.parts is.after is.front
    ∙ (ap (λ (r : Result (List Item) BlockFault). block_with block.bcb block.fcs (with_items (items_of is.parts) r))
    (items_in-end is.after is.ends)
    ∙ (ap (block_with block.bcb block.fcs) (with_items-Ok (items_of is.parts) [])
    ∙ ap (λ (items : List Item). Ok (record { bcb = block.bcb; fcs = block.fcs; items = items }))
    (append-nil (items_of is.parts) ∙ sym is.items)))

stops-read : (text : List ℕ) (IsBad : List ℕ → Type 0) (e : BlockFault) (s : StopsAt IsBad text)
    → items_in s.after ≡ Err e
    → read_block text ≡ Err e
stops-read text IsBad e s is =
    front-read text s.bcb s.fcs s.parts s.after s.front
    ∙ (ap (λ (r : Result (List Item) BlockFault). block_with s.bcb s.fcs (with_items (items_of s.parts) r)) is
    ∙ ap (block_with s.bcb s.fcs) (with_items-Err (items_of s.parts) e))

AreBytes-after : (text : List ℕ) (bcb : ℕ) (fcs : ℕ × ℕ) (parts : List TextRecord) (after : List ℕ)
    → Front text bcb fcs parts after
    → AreBytes text → AreBytes after
AreBytes-after text bcb fcs parts after front are =
    AreBytes-drop (covered_bytes parts) after
    (AreBytes-drop (bcb ∷ fcs.0 ∷ fcs.1 ∷ []) (covered_bytes parts ++ after) (subst AreBytes front.joined are))

pub IsFault-read : (text : List ℕ) (e : BlockFault) → AreBytes text → IsFault text e → read_block text ≡ Err e
IsFault-read [] TooShort are is = refl
IsFault-read (b ∷ []) TooShort are is = refl
IsFault-read (b ∷ f ∷ []) TooShort are is = refl
IsFault-read (b ∷ f ∷ g ∷ rest) TooShort are is = absurd (omega arith)
IsFault-read [] BadBcb are is = absurd (omega arith)
IsFault-read (b ∷ []) BadBcb are is = absurd (omega arith)
IsFault-read (b ∷ f ∷ []) BadBcb are is = absurd (omega arith)
IsFault-read (b ∷ f ∷ g ∷ rest) BadBcb are is =
    ap (λ (t : Bool). where_good t (is_fcs (f, g)) (block_with b (f, g) (items_in rest))) is.1
IsFault-read [] BadFcs are is = absurd (omega arith)
IsFault-read (b ∷ []) BadFcs are is = absurd (omega arith)
IsFault-read (b ∷ f ∷ []) BadFcs are is = absurd (omega arith)
IsFault-read (b ∷ f ∷ g ∷ rest) BadFcs are is =
    ap (λ (t : Bool). where_good t (is_fcs (f, g)) (block_with b (f, g) (items_in rest))) is.1
    ∙ ap (λ (t : Bool). where_good true t (block_with b (f, g) (items_in rest))) is.2
IsFault-read text BadRcb are is = stops-read text IsBadRcb BadRcb is (items_in-bad_rcb is.after is.bad)
IsFault-read text BadRecord are is =
    stops-read text IsBadRecord BadRecord is
    (items_in-bad_record is.after (AreBytes-after text is.bcb is.fcs is.parts is.after is.front are)
    is.bad)

-- ---- both ways

pub block_law : (text : List ℕ) (block : Block) → AreBytes text
    → (read_block text ≡ Ok block → IsBlock text block) × (IsBlock text block → read_block text ≡ Ok block)
block_law text block are = (λ is. rw is at (read_block-tells text are), IsBlock-read text block)

pub fault_law : (text : List ℕ) (e : BlockFault) → AreBytes text
    → (read_block text ≡ Err e → IsFault text e) × (IsFault text e → read_block text ≡ Err e)
fault_law text e are = (λ is. rw is at (read_block-tells text are), IsFault-read text e are)

pub one_block : (text : List ℕ) (a b : Block) → IsBlock text a → IsBlock text b → a ≡ b
one_block text a b is_a is_b =
    let one : ◌≡◌ {A = Result Block BlockFault} (Ok a) (Ok b) =
    sym (IsBlock-read text a is_a) ∙ IsBlock-read text b is_b in cc
