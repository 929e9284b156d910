-- The slots of a customer's files, and of all customers', as they lie in rows.
use Rattle.std.proofs.Common.{◌≡◌, ℕ, zero, suc, ◌+◌, ◌-◌, ◌*◌, ◌<◌, ◌≤◌, cond, ltb, List, [], ◌∷◌, ◌++◌, length}
use Rattle.std.proofs.Common.{get_or, set, replicate, refl, sym, ap, ◌∙◌, inl, inr, arith, length-set}
use Rattle.std.specs.Prelude.{All}
use Rattle.std.proofs.lemmas.Bool.{cases_lt, lt-ltb, le-ltb}
use Rattle.std.proofs.lemmas.List.{get_or_append_left, get_or-append-add, get_or_past}
use Rattle.std.proofs.lemmas.List.{set-append_left, set-append_right, length-append, append_assoc}
use Rattle.std.proofs.lemmas.List.{replicate-append-replicate}
use Rattle.std.proofs.Math.Nat.{mul-suc}
use Rattle.njh_spool.specs.declared.file_slot.FileSlot.{FileSlot}
use Rattle.njh_spool.specs.code.Slots.{free_slot}
use Rattle.njh_spool.specs.code.SlotRows.{row_of, slots_in, IsWholeRow}

-- one more slot is written
pub row_of-more : (written : List FileSlot) (room : ℕ) → length written < room
    → row_of (written ++ free_slot ∷ []) room ≡ row_of written room
row_of-more written room fits =
    let left : room - length (written ++ free_slot ∷ []) ≡ room - (length written + 1) =
    ap (λ (n : ℕ). room - n) (length-append written (free_slot ∷ [])) in
    let one : suc (room - (length written + 1)) ≡ room - length written = omega arith in
    append_assoc written (free_slot ∷ []) (replicate (room - length (written ++ free_slot ∷ [])) free_slot)
    ∙ ap (λ (n : ℕ). written ++ (free_slot ∷ replicate n free_slot)) left
    ∙ ap (λ (n : ℕ). written ++ replicate n free_slot) one

pub row_of-set : (written : List FileSlot) (room n : ℕ) (slot : FileSlot) → n < length written
    → row_of (set written n slot) room ≡ set
    (row_of written room) n slot
row_of-set written room n slot within =
    ap (λ (k : ℕ). set written n slot ++ replicate (room - k) free_slot) (length-set written n slot)
    ∙ sym (set-append_left written (replicate (room - length written) free_slot) n slot within)

-- the rows from the second on
rest_whole : (row : List FileSlot) (rows : List (List FileSlot)) → All IsWholeRow (row ∷ rows) → All IsWholeRow rows
rest_whole row rows whole = λ k d within. whole (suc k) d (omega arith)

first_whole : (row : List FileSlot) (rows : List (List FileSlot)) → All IsWholeRow (row ∷ rows) → length row ≡ 1024
first_whole row rows whole = whole zero row (omega arith)

pub length-slots_in : (rows : List (List FileSlot)) → All IsWholeRow rows → length (slots_in rows) ≡ 1024 * length rows
length-slots_in [] whole = refl
length-slots_in (row ∷ rows) whole = omega (
  arith,
  length-append row (slots_in rows),
  first_whole row rows whole,
  length-slots_in rows (rest_whole row rows whole),
)

get_or-slots_in : (rows : List (List FileSlot)) (c n : ℕ) (d : List FileSlot) → All IsWholeRow rows → c < length rows
    → n < 1024 →
    get_or (slots_in rows) (1024 * c + n) free_slot ≡ get_or (get_or rows c d) n free_slot
get_or-slots_in [] c n d whole within small = absurd (omega arith)
get_or-slots_in (row ∷ rows) zero n d whole within small =
    let place : 1024 * zero + n ≡ n = omega arith in
    ap (λ (i : ℕ). get_or (row ++ slots_in rows) i free_slot) place
    ∙ get_or_append_left row (slots_in rows) free_slot n (omega (arith, first_whole row rows whole))
get_or-slots_in (row ∷ rows) (suc c) n d whole within small =
    let place : 1024 * suc c + n ≡ length row + (1024 * c + n) = omega (arith, first_whole row rows whole) in
    ap (λ (i : ℕ). get_or (row ++ slots_in rows) i free_slot) place
    ∙ get_or-append-add row (slots_in rows) (1024 * c + n) free_slot
    ∙ get_or-slots_in rows c n d (rest_whole row rows whole) (omega arith) small

pub slot_in_row : (rows : List (List FileSlot)) (c n : ℕ) (d : List FileSlot) → All IsWholeRow rows → c < length rows →
    get_or (get_or rows c d) n free_slot ≡ cond (ltb n 1024) (get_or (slots_in rows) (1024 * c + n) free_slot) free_slot
slot_in_row rows c n d whole within =
    elim (cases_lt n 1024) [
      | inl below ↦ rw (lt-ltb n 1024 below) (sym (get_or-slots_in rows c n d whole within below))
      | inr above ↦
          let past : length (get_or rows c d) ≤ n = omega (arith, whole c d within) in
          rw (le-ltb n 1024 above) (get_or_past (get_or rows c d) n free_slot past)
    ]

pub slots_in-set : (rows : List (List FileSlot)) (c n : ℕ) (slot : FileSlot) (d : List FileSlot) → All IsWholeRow rows →
    c < length rows → n < 1024
    → slots_in (set rows c (set (get_or rows c d) n slot)) ≡ set (slots_in rows) (1024 * c + n) slot
slots_in-set [] c n slot d whole within small = absurd (omega arith)
slots_in-set (row ∷ rows) zero n slot d whole within small =
    let place : 1024 * zero + n ≡ n = omega arith in
    sym (ap (λ (i : ℕ). set (row ++ slots_in rows) i slot) place
    ∙ set-append_left row (slots_in rows) n slot (omega (arith, first_whole row rows whole)))
slots_in-set (row ∷ rows) (suc c) n slot d whole within small =
    let behind : length row ≤ 1024 * suc c + n = omega (arith, first_whole row rows whole) in
    let place : 1024 * suc c + n - length row ≡ 1024 * c + n = omega (arith, first_whole row rows whole) in
    ap (λ (slots : List FileSlot). row ++ slots)
    (slots_in-set rows c n slot d (rest_whole row rows whole) (omega arith) small)
    ∙ ap (λ (i : ℕ). row ++ set (slots_in rows) i slot) (sym place)
    ∙ sym (set-append_right row (slots_in rows) (length row) (1024 * suc c + n) slot refl behind)

-- rows in which no file is
pub slots_in-free : (count room : ℕ)
    → slots_in (replicate count (replicate room free_slot)) ≡ replicate (room * count) free_slot
slots_in-free zero room = ap (λ (n : ℕ). replicate n free_slot) (let e : 0 ≡ room * 0 = omega arith in e)
slots_in-free (suc count) room =
    ap (λ (slots : List FileSlot). replicate room free_slot ++ slots) (slots_in-free count room)
    ∙ replicate-append-replicate room (room * count) free_slot
    ∙ ap (λ (n : ℕ). replicate n free_slot) (let e : room + room * count ≡ room * suc count =
    omega (arith, mul-suc room count) in e)
