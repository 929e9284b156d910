-- What the texts of packed blocks read as.
use Rattle.std.proofs.Common.{◌≡◌, ℕ, ◌+◌, ◌%◌, ◌<◌, Bool, true, false, List, [], ◌∷◌, ◌++◌, refl, ap, ◌∙◌, arith, Ok}
use Rattle.std.proofs.Common.{IsTrue}
use Rattle.std.specs.List.{All, AllByRecursion}
use Rattle.std.proofs.lemmas.Bool.{le-leb, lt-ltb}
use Rattle.std.proofs.lemmas.List.Elements.{All-append, All-cons, All-nil, recursion_from_All}
use Rattle.std.proofs.lemmas.Nat.{mod_below}
use Rattle.njh_block.specs.Blocks.{Aborted, Control, Data, General, Item, Long, is_bcb}
use Rattle.njh_block.specs.Writing.{AreWritten, has_room, read_back}
use Rattle.njh_block.proofs.WritingLaws.{text-read}
use Rattle.njh_encode.specs.declared.line_states.LineState.{LineState}
use Rattle.njh_encode.specs.LineStates.{counted}
use Rattle.njh_encode.specs.Packing.{IsData, ReadsItself, block_of, packed, writing_on}

are-written : (is : List Item) → AllByRecursion IsData is → AreWritten is
are-written [] each = tt
are-written (Data rcb srcb bytes ∷ is) each = (each.0, λ general. absurd (cc general), are-written is each.1)
are-written (Aborted rcb srcb ∷ is) each = absurd each.0
are-written (Long rcb srcb ∷ is) each = absurd each.0
are-written (Control rcb srcb ∷ is) each = absurd each.0
are-written (General srcb rest ∷ is) each = absurd each.0

same-back : (is : List Item) → AllByRecursion IsData is → read_back is ≡ is
same-back [] each = refl
same-back (Data rcb srcb bytes ∷ is) each = ap (λ (xs : List Item). Data rcb srcb bytes ∷ xs) (same-back is each.1)
same-back (Aborted rcb srcb ∷ is) each = absurd each.0
same-back (Long rcb srcb ∷ is) each = absurd each.0
same-back (Control rcb srcb ∷ is) each = absurd each.0
same-back (General srcb rest ∷ is) each = absurd each.0

good-bcb : (n : ℕ) → n < 16 → IsTrue (is_bcb (0x80 + n))
good-bcb n below =
    let low = le-leb 0x80 (0x80 + n) (omega arith) in
    let high = lt-ltb (0x80 + n) 0xb0 (omega (arith, below)) in
    rw (low, high) refl

block-reads : (state : LineState) (begun : List Item) → All IsData begun
    → ReadsItself (block_of state begun)
block-reads state begun each =
    let all = recursion_from_All IsData begun each in
    text-read (0x80 + state.count % 16) (0x8f, 0xcf) begun
    (good-bcb (state.count % 16) (mod_below state.count 16 (omega arith))) refl
    (are-written begun all)
    ∙ ap (λ (items : List Item). Ok (record { bcb = 0x80 + state.count % 16; fcs = (0x8f, 0xcf); items = items }))
    (same-back begun all)

reads-cond : (t : Bool) (state : LineState) (begun : List Item) (i : Item) (is : List Item)
    → All ReadsItself (packed state (begun ++ i ∷ []) is) → ReadsItself (block_of state begun)
    → All ReadsItself (packed (counted state) (i ∷ []) is)
    → All ReadsItself
    (elim t [
      | true ↦ packed state (begun ++ i ∷ []) is
      | false ↦ block_of state begun ∷ packed (counted state) (i ∷ []) is
    ])
reads-cond true state begun i is fits this next = fits
reads-cond false state begun i is fits this next =
    All-cons ReadsItself (block_of state begun) (packed (counted state) (i ∷ []) is) this next

pub packed_reads : (is : List Item) (state : LineState) (begun : List Item) → AllByRecursion IsData is
    → All IsData begun
    → All ReadsItself (packed state begun is)
packed_reads [] state begun each held =
    All-cons ReadsItself (block_of state begun) [] (block-reads state begun held) (All-nil ReadsItself)
packed_reads (i ∷ is) state begun each held =
    let one = All-cons IsData i [] each.0 (All-nil IsData) in
    reads-cond (has_room (writing_on state begun) i) state begun i is
    (packed_reads is state (begun ++ i ∷ []) each.1 (All-append IsData begun (i ∷ []) held one))
    (block-reads state begun held) (packed_reads is (counted state) (i ∷ []) each.1 one)
