-- A record's fields in their order: what is read is what is written.
use Rattle.std.proofs.Common.{◌≡◌, ℕ, suc, ◌+◌, ◌<◌, ◌≤◌, List, ◌∷◌, ◌++◌, length, take, drop, slice_index, sym, ap}
use Rattle.std.proofs.Common.{◌∙◌, append_assoc, arith}
use Rattle.std.proofs.Math.Seq.{take-add}
use Rattle.std.proofs.lemmas.List.{drop_more, drop-drop, length-take-le, length-drop}
use Rattle.njh_record.specs.Bytes.{field}
use Rattle.njh_nmr.specs.Nodal.{Nodal, record_of, fields_of, cut_after_message}

-- a record's bytes, one field after the other
abbrev pub nested : Nodal → List ℕ
nested n =
    n.flag ∷ n.level ∷ n.kind ∷ length n.message
    ∷ (n.to ++ (n.to_qualifier ∷ (n.user ++ (n.origin ++ (n.origin_qualifier ∷ n.message)))))

pub record_of-nested : (n : Nodal) → record_of n ≡ nested n
record_of-nested n = simp append_assoc

-- from a place on: one byte and the rest, or some bytes and the rest
one : (bytes : List ℕ) (place size rest : ℕ) → place < length bytes → size ≡ rest + 1
    → field place size bytes ≡ slice_index bytes place ∷ field (place + 1) rest bytes
one bytes place size rest within is =
    let next : size ≡ suc rest = omega arith in
    ap (λ n. take n (drop place bytes)) next ∙ ap (take (suc rest)) (drop_more bytes place 0 within)

some : (bytes : List ℕ) (place size first rest : ℕ) → size ≡ first + rest
    → field place size bytes ≡ field place first bytes ++ field (place + first) rest bytes
some bytes place size first rest is =
    ap (λ n. take n (drop place bytes)) is
    ∙ (take-add first rest (drop place bytes)
    ∙ ap (λ tail. take first (drop place bytes) ++ take rest tail) (drop-drop first place bytes))

tail_nested : (bytes : List ℕ) (len : ℕ) → 30 + len ≤ length bytes
    → field 4 (26 + len) bytes ≡ field 4 8 bytes ++
    (slice_index bytes 12 ∷ (field 13 8 bytes ++ (field 21 8 bytes ++ (slice_index bytes 29 ∷ field 30 len bytes))))
tail_nested bytes len within =
    some bytes 4 (26 + len) 8 (18 + len) (omega arith)
    ∙ ap (λ r. field 4 8 bytes ++ r) (one bytes 12 (18 + len) (17 + len) (omega arith) (omega arith)
    ∙ ap (λ r. slice_index bytes 12 ∷ r) (some bytes 13 (17 + len) 8 (9 + len) (omega arith)
    ∙ ap (λ r. field 13 8 bytes ++ r) (some bytes 21 (9 + len) 8 (1 + len) (omega arith)
    ∙ ap (λ r. field 21 8 bytes ++ r) (one bytes 29 (1 + len) len (omega arith) (omega arith)))))

pub cut-nested : (bytes : List ℕ) (len : ℕ) → 30 + len ≤ length bytes → len ≡ slice_index bytes 3
    → field 0 (30 + len) bytes ≡ nested (fields_of len bytes)
cut-nested bytes len within is =
    let size : length (field 30 len bytes) ≡ slice_index bytes 3 =
    length-take-le len (drop 30 bytes) (omega (arith, length-drop 30 bytes)) ∙ is in
    one bytes 0 (30 + len) (29 + len) (omega arith) (omega arith)
    ∙ ap (λ r. slice_index bytes 0 ∷ r) (one bytes 1 (29 + len) (28 + len) (omega arith) (omega arith)
    ∙ ap (λ r. slice_index bytes 1 ∷ r) (one bytes 2 (28 + len) (27 + len) (omega arith) (omega arith)
    ∙ ap (λ r. slice_index bytes 2 ∷ r) (one bytes 3 (27 + len) (26 + len) (omega arith) (omega arith)
    ∙ (ap (λ b. b ∷ field 4 (26 + len) bytes) (sym size)
    ∙ ap (λ r. length (field 30 len bytes) ∷ r) (tail_nested bytes len within)))))

-- the bytes with these fields in their places
abbrev with_parts : List ℕ → List ℕ → List ℕ → List ℕ → List ℕ → List ℕ
with_parts bytes to user origin message =
    record_of (record (fields_of 0 bytes) { to = to; user = user; origin = origin; message = message })

pub record_of-parts : (bytes : List ℕ) (len : ℕ) (to user origin message : List ℕ) → 30 + len ≤ length bytes
    → len ≡ slice_index bytes 3 → to ≡ field 4 8 bytes → user ≡ field 13 8 bytes → origin ≡ field 21 8 bytes → message
    ≡ field 30 len bytes → with_parts bytes to user origin message ≡ cut_after_message bytes
record_of-parts bytes len to user origin message within told is_to is_user is_origin is_message =
    ap (λ x. with_parts bytes x user origin message) is_to
    ∙ (ap (λ x. with_parts bytes (field 4 8 bytes) x origin message) is_user
    ∙ (ap (λ x. with_parts bytes (field 4 8 bytes) (field 13 8 bytes) x message) is_origin
    ∙ (ap (λ x. with_parts bytes (field 4 8 bytes) (field 13 8 bytes) (field 21 8 bytes) x) is_message
    ∙ (record_of-nested (fields_of len bytes)
    ∙ (sym (cut-nested bytes len within told)
    ∙ ap (λ n. take (30 + n) bytes) told)))))
