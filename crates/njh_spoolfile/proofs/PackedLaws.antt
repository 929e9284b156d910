-- Records of a file in one row: what is packed is read back, and what a loop over them has read.
use Rattle.std.proofs.Common.{◌≡◌, ℕ, zero, suc, ◌+◌, ◌*◌, ◌/◌, ◌%◌, ◌<◌, ◌≤◌, nat_le, Bool, true, false}
use Rattle.std.proofs.Common.{cond, List, [], ◌∷◌, ◌++◌, length, take, drop, map, flat_map, Option, None, Some}
use Rattle.std.proofs.Common.{refl, sym, ap, ◌∙◌, append_assoc, arith}
use Rattle.std.proofs.lemmas.Bool.Decides.{nat_tests}
use Rattle.std.proofs.lemmas.List.{drop_at, flat_map_more, length-append, nil_from_length, take_at}
use Rattle.njh_spoolfile.specs.Kept.{Record, as_stands, contents, contents_in}
use Rattle.njh_spoolfile.specs.Packed.{first_packed, packed, packed_one, placed_from, several, unpacked}
use Rattle.njh_spoolfile.specs.Packed.{unpacked_row, unpacked_up_to}

-- what is read of some bytes whose first record is this
abbrev by_first : ℕ → List ℕ → Option ((ℕ × List ℕ) × List ℕ) → List (ℕ × List ℕ)
by_first most bytes None = (several, bytes) ∷ []
by_first most bytes (Some first) = first.0 ∷ elim first.1 [ [] ↦ [] | b ∷ bs ↦ unpacked_up_to most first.1 ]

-- ---- what is packed is read back

pub packed_more : (rs : List (ℕ × List ℕ)) (r : ℕ × List ℕ) → packed (rs ++ r ∷ []) ≡ packed rs ++ packed_one r
packed_more rs r = sym (flat_map_more packed_one [] rs r)

length_reads : (n : ℕ) → n / 256 * 256 + n % 256 ≡ n
length_reads n = omega arith

-- at such a test, length and bytes, the first is this
abbrev first_by : Bool → ℕ → ℕ → List ℕ → Option ((ℕ × List ℕ) × List ℕ)
first_by fits srcb n bytes = cond fits (Some ((srcb, take n bytes), drop n bytes)) None

first_read : (r : ℕ × List ℕ) (rest : List ℕ) → first_packed (packed_one r ++ rest) ≡ Some (r, rest)
first_read r rest =
    let n = length r.1 in
    let fits : nat_le n (length (r.1 ++ rest)) ≡ true = grind (arith, nat_tests, length-append r.1 rest) in
    (λ i. first_by (nat_le (length_reads n i) (length (r.1 ++ rest))) r.0 (length_reads n i) (r.1 ++ rest))
    ∙ ap (λ b. first_by b r.0 n (r.1 ++ rest)) fits
    ∙ (λ i. Some ((r.0, take_at r.1 rest n refl i), drop_at r.1 rest n refl i))

some_read : (most : ℕ) (r : ℕ × List ℕ) (rs : List (ℕ × List ℕ)) → length rs < most
    → unpacked_up_to most (packed (r ∷ rs)) ≡ r ∷ rs
some_read zero r rs few = absurd (omega (arith, few))
some_read (suc most) r [] few = ap (by_first most (packed (r ∷ []))) (first_read r [])
some_read (suc most) r (x ∷ xs) few =
    ap (by_first most (packed (r ∷ x ∷ xs))) (first_read r (packed (x ∷ xs)))
    ∙ ap (λ (rs : List (ℕ × List ℕ)). r ∷ rs) (some_read most x xs (omega (arith, few)))

packed_long : (rs : List (ℕ × List ℕ)) → length rs ≤ length (packed rs)
packed_long [] = omega arith
packed_long (r ∷ rs) = omega (arith, packed_long rs, length-append (packed_one r) (packed rs))

-- a row of some packed records has these
pub unpacked_packed : (r : ℕ × List ℕ) (rs : List (ℕ × List ℕ)) → unpacked_row several (packed (r ∷ rs)) ≡ r ∷ rs
unpacked_packed r rs = some_read (length (packed (r ∷ rs))) r rs (omega (arith, packed_long (r ∷ rs)))

-- ---- a loop over the records of a row

-- one is read, and none stands behind it
pub reads_last : (done : List (ℕ × ℕ × List ℕ)) (place most : ℕ) (bytes : List ℕ) (r : ℕ × List ℕ) (rest : List ℕ)
    → first_packed bytes ≡ Some (r, rest) → length rest ≡ 0
    → done ++ (place, r.0, r.1) ∷ [] ≡ done ++ placed_from place (unpacked_up_to (suc most) bytes)
reads_last done place most bytes r rest first ends =
    sym (ap (λ o. done ++ placed_from place (by_first most bytes o))
    (first ∙ ap (λ (bs : List ℕ). Some (r, bs)) (nil_from_length rest ends)))

-- one is read, and others stand behind it
pub reads_more : (done : List (ℕ × ℕ × List ℕ)) (place most : ℕ) (bytes : List ℕ) (r : ℕ × List ℕ) (rest : List ℕ)
    → first_packed bytes ≡ Some (r, rest) → 0 < length rest
    → (done ++ (place, r.0, r.1) ∷ []) ++ placed_from (place + 1) (unpacked_up_to most rest)
    ≡ done ++ placed_from place (unpacked_up_to (suc most) bytes)
reads_more done place most bytes r [] first some = absurd (omega (arith, some))
reads_more done place most bytes r (b ∷ bs) first some =
    append_assoc done ((place, r.0, r.1) ∷ []) (placed_from (place + 1) (unpacked_up_to most (b ∷ bs)))
    ∙ sym (ap (λ o. done ++ placed_from place (by_first most bytes o)) first)

-- none is read
pub reads_none : (done : List (ℕ × ℕ × List ℕ)) (place most : ℕ) (bytes : List ℕ) → first_packed bytes ≡ None
    → done ++ (place, several, bytes) ∷ [] ≡ done ++ placed_from place (unpacked_up_to most bytes)
reads_none done place zero bytes none = refl
reads_none done place (suc most) bytes none =
    sym (ap (λ o. done ++ placed_from place (by_first most bytes o)) none)

-- the records of a row of several
pub of_several : (done : List (ℕ × ℕ × List ℕ)) (place srcb : ℕ) (bytes : List ℕ) → srcb ≡ several
    → done ++ placed_from place (unpacked bytes) ≡ done ++ placed_from place (unpacked_row srcb bytes)
of_several done place srcb bytes is = ap (λ n. done ++ placed_from place (unpacked_row n bytes)) (sym is)

-- ---- the records of rows

-- of a row that stands so
abbrev pub of_row : ℕ × ℕ × List ℕ → List (ℕ × ℕ × List ℕ)
of_row r = placed_from r.0 (unpacked_row r.1 r.2)

as_they_stand : (es : List (ℕ × Record)) → flat_map of_row (map as_stands es) ≡ contents_in es
as_they_stand [] = refl
as_they_stand (e ∷ es) = ap (λ (rs : List (ℕ × ℕ × List ℕ)). contents e ++ rs) (as_they_stand es)

-- rows that stand alike have the same records
pub same_contents : (one two : List (ℕ × Record)) → map as_stands one ≡ map as_stands two
    → contents_in one ≡ contents_in two
same_contents one two same = sym (as_they_stand one) ∙ ap (flat_map of_row) same ∙ as_they_stand two
