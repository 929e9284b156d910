-- The frames of packed blocks.
use Rattle.std.proofs.Common.{◌≡◌, ℕ, ◌+◌, ◌%◌, ◌≤◌, ◌==◌, ◌&&◌, Bool, true, false, List, [], ◌∷◌, ◌++◌, length}
use Rattle.std.proofs.Common.{flat_map, max, min, refl, ap, ◌∙◌, arith, cond, not, nat_le}
use Rattle.std.specs.List.{All, AllByRecursion, list_any}
use Rattle.std.proofs.Math.Nat.{min-le_right}
use Rattle.std.proofs.lemmas.Bool.{leb-true}
use Rattle.std.proofs.lemmas.List.{append-nil, length-append}
use Rattle.std.proofs.lemmas.List.Concat.{flat_map-cons}
use Rattle.std.proofs.lemmas.List.Elements.{All-cons, All-nil}
use Rattle.njh_bisync.proofs.ReadBack.{text_reads}
use Rattle.njh_record.specs.Writing.{spelling_of}
use Rattle.njh_record.proofs.WritingLaws.{length-spelling_of-record}
use Rattle.njh_block.specs.Blocks.{Aborted, Control, Data, General, Item, Long, text_of, written_bytes}
use Rattle.njh_block.specs.Writing.{has_room, is_general}
use Rattle.njh_encode.specs.declared.line_states.LineState.{LineState}
use Rattle.njh_encode.specs.LineStates.{counted}
use Rattle.njh_encode.specs.Packing.{IsData, ReadsAsFrame, block_of, packed, text_limit, writing_on}

-- the text of a block with these items can be a frame's
abbrev pub IsShort : LineState → List Item → Type 0
IsShort state begun = length (text_of (0x80 + state.count % 16) (0x8f, 0xcf) begun) ≤ 4096

limit-cond : (t : Bool) (n : ℕ) → n ≤ 4096 → cond t 1024 n ≤ 4096
limit-cond true n high = omega arith
limit-cond false n high = high

limit-high : (size : ℕ) → text_limit size ≤ 4096
unfolding text_limit
limit-high size = limit-cond (size == 0) (min (max size 300) 4096) (min-le_right (max size 300) 4096)

second-true : (a b : Bool) → (a && b) ≡ true → b ≡ true
second-true true b both = both
second-true false b both = absurd (cc both)

room-short : (state : LineState) (begun : List Item) (i : Item) → has_room (writing_on state begun) i ≡ true
    → IsShort state (begun ++ i ∷ [])
room-short state begun i room =
    let text = text_of (0x80 + state.count % 16) (0x8f, 0xcf) (begun ++ i ∷ []) in
    let within : length text ≤ text_limit state.size
    = leb-true (length text) (text_limit state.size)
    (second-true (not (list_any is_general begun)) (nat_le (length text) (text_limit state.size)) room) in
    let high : text_limit state.size ≤ 4096 = limit-high state.size in
    omega (arith, within, high)

alone-short : (state : LineState) (rcb srcb : ℕ) (bytes : List ℕ) → length (spelling_of bytes) ≤ 262
    → IsShort state (Data rcb srcb bytes ∷ [])
alone-short state rcb srcb bytes short =
    let items : List ℕ = flat_map written_bytes (Data rcb srcb bytes ∷ []) in
    let whole : List ℕ = rcb ∷ srcb ∷ spelling_of bytes in
    let same : length items ≡ length whole
    = ap (λ (xs : List ℕ). length xs) (flat_map-cons written_bytes (Data rcb srcb bytes) [] ∙ append-nil whole) in
    let ended : length (items ++ 0 ∷ []) ≡ length items + 1 = length-append items (0 ∷ []) in
    omega (arith, same, ended, short)

first-short : (state : LineState) (i : Item) → IsData i → IsShort state (i ∷ [])
first-short state (Data rcb srcb bytes) is = alone-short state rcb srcb bytes (length-spelling_of-record bytes is.1)
first-short state (Aborted rcb srcb) is = absurd is
first-short state (Long rcb srcb) is = absurd is
first-short state (Control rcb srcb) is = absurd is
first-short state (General srcb rest) is = absurd is

frames-cond : (t : Bool) (state : LineState) (begun : List Item) (i : Item) (is : List Item)
    → has_room (writing_on state begun) i ≡ t
    → (has_room (writing_on state begun) i ≡ true → All ReadsAsFrame (packed state (begun ++ i ∷ []) is))
    → ReadsAsFrame (block_of state begun) → All ReadsAsFrame (packed (counted state) (i ∷ []) is)
    → All ReadsAsFrame
    (elim t [
      | true ↦ packed state (begun ++ i ∷ []) is
      | false ↦ block_of state begun ∷ packed (counted state) (i ∷ []) is
    ])
frames-cond true state begun i is room fits this next = fits room
frames-cond false state begun i is room fits this next =
    All-cons ReadsAsFrame (block_of state begun) (packed (counted state) (i ∷ []) is) this next

pub packed_frames : (is : List Item) (state : LineState) (begun : List Item)
    → AllByRecursion IsData is → IsShort state begun → All ReadsAsFrame (packed state begun is)
packed_frames [] state begun each short =
    All-cons ReadsAsFrame (block_of state begun) []
    (text_reads (text_of (0x80 + state.count % 16) (0x8f, 0xcf) begun) short) (All-nil ReadsAsFrame)
packed_frames (i ∷ is) state begun each short =
    frames-cond (has_room (writing_on state begun) i) state begun i is refl
    (λ room. packed_frames is state (begun ++ i ∷ []) each.1 (room-short state begun i room))
    (text_reads (text_of (0x80 + state.count % 16) (0x8f, 0xcf) begun) short)
    (packed_frames is (counted state) (i ∷ []) each.1 (first-short (counted state) i each.0))
