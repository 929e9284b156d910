-- One file more, and which of the files are asked for.
use Rattle.std.proofs.Common.{◌≡◌, ℕ, ◌+◌, ◌-◌, ◌<◌, ◌≤◌, ◌==◌, ◌&&◌, ◌⊎◌, inl, inr, Bool, true, false, cond, List, []}
use Rattle.std.proofs.Common.{◌∷◌, ◌++◌, map, filter, take, drop, length, Option, None, Some, refl, sym, ap, ◌∙◌}
use Rattle.std.proofs.Common.{append-nil, arith, get_or}
use Rattle.std.specs.Borrow.{Bor}
use Rattle.std.proofs.lemmas.Bool.{cases_lt, eqb-true, eqb-false}
use Rattle.std.proofs.lemmas.List.{take_all, take-append-le, take_more, drop_all, drop_at, length_push, length-map}
use Rattle.std.proofs.lemmas.List.{length-take, map-append}
use Rattle.std.proofs.lemmas.List.Elements.{filter-append}
use Rattle.njh_spoolfile.specs.Kept.{entry_of}
use Rattle.njh_spoolfile.specs.declared.kept.StoredFile.{StoredFile}
use Rattle.njh_listing.specs.Asked.{asked_in, at_number, is_called, key_in}
use Rattle.njh_listing.specs.code.FindingSteps.{found_at, is_number}
use Rattle.njh_listing.specs.code.Lent.{entries_of}

late : {X : Type 0} (n : ℕ) (xs : List X) (x : X) → length xs + 1 < n
    → drop (n - 1) (take n (xs ++ x ∷ [])) ≡ drop (n - 1) (take n xs) ++ []
late n xs x above =
    let longer = length_push xs x in
    let whole : take n (xs ++ x ∷ []) ≡ xs ++ x ∷ [] = take_all n (xs ++ x ∷ []) (omega (arith, longer)) in
    let short : take n xs ≡ xs = take_all n xs (omega arith) in
    ap (drop (n - 1)) whole ∙ drop_all (n - 1) (xs ++ x ∷ []) (omega (arith, longer))
    ∙ sym (append-nil (drop (n - 1) (take n xs)) ∙ ap (drop (n - 1)) short ∙ drop_all (n - 1) xs (omega arith))

early : {X : Type 0} (n : ℕ) (xs : List X) (x : X) → n ≤ length xs
    → drop (n - 1) (take n (xs ++ x ∷ [])) ≡ drop (n - 1) (take n xs) ++ []
early n xs x within =
    ap (drop (n - 1)) (take-append-le n xs (x ∷ []) within) ∙ sym (append-nil (drop (n - 1) (take n xs)))

now : {X : Type 0} (n : ℕ) (xs : List X) (x : X) → n ≡ length xs + 1
    → drop (n - 1) (take n (xs ++ x ∷ [])) ≡ drop (n - 1) (take n xs) ++ x ∷ []
now n xs x is =
    let longer = length_push xs x in
    let whole : take n (xs ++ x ∷ []) ≡ xs ++ x ∷ [] = take_all n (xs ++ x ∷ []) (omega (arith, longer)) in
    let short : take n xs ≡ xs = take_all n xs (omega arith) in
    let nothing : drop (n - 1) (take n xs) ≡ [] = ap (drop (n - 1)) short ∙ drop_all (n - 1) xs (omega arith) in
    ap (drop (n - 1)) whole ∙ drop_at xs (x ∷ []) (n - 1) (omega arith)
    ∙ sym (ap (λ ys. ys ++ x ∷ []) nothing)

beside : {X : Type 0} (n : ℕ) (xs : List X) (x : X) → (n ≡ length xs + 1 → ⊥) → (length xs < n) ⊎ (n ≤ length xs)
    → drop (n - 1) (take n (xs ++ x ∷ [])) ≡ drop (n - 1) (take n xs) ++ []
beside n xs x other (inl above) = late n xs x (omega (arith, other))
beside n xs x other (inr within) = early n xs x within

by_number : {X : Type 0} (n : ℕ) (xs : List X) (x : X) (is : Bool) → (n == length xs + 1) ≡ is
    → drop (n - 1) (take n (xs ++ x ∷ [])) ≡ drop (n - 1) (take n xs) ++ cond is (x ∷ []) []
by_number n xs x true is = now n xs x (eqb-true n (length xs + 1) is)
by_number n xs x false is = beside n xs x (eqb-false n (length xs + 1) is) (cases_lt (length xs) n)

pub one_more : {X : Type 0} (number : Option ℕ) (xs : List X) (x : X)
    → at_number number (xs ++ x ∷ []) ≡ at_number number xs ++ cond (is_number number (length xs + 1)) (x ∷ []) []
one_more None xs x = refl
one_more (Some n) xs x = by_number n xs x (n == length xs + 1) refl

passing : {X : Type 0} (f : X → ℕ) (x : X) (is : Bool) → map f (cond is (x ∷ []) []) ≡ cond is (f x ∷ []) []
passing f x true = refl
passing f x false = refl

passes : {X : Type 0} (q : X → Bool) (f : X → ℕ) (x : X) (is : Bool)
    → map f (filter q (cond is (x ∷ []) [])) ≡ cond (is && q x) (f x ∷ []) []
passes q f x false = refl
passes q f x true = passing f x (q x)

-- what is found of one file more
found_more : {X : Type 0} (q : X → Bool) (f : X → ℕ) (number : Option ℕ) (xs : List X) (x : X)
    → map f (filter q (at_number number (xs ++ x ∷ [])))
    ≡ map f (filter q (at_number number xs)) ++ cond (is_number number (length xs + 1) && q x) (f x ∷ []) []
found_more q f number xs x =
    let here = is_number number (length xs + 1) in
    let one = cond here (x ∷ []) [] in
    ap (λ ys. map f (filter q ys)) (one_more number xs x)
    ∙ ap (map f) (filter-append q (at_number number xs) one)
    ∙ map-append f (filter q (at_number number xs)) (filter q one)
    ∙ ap (λ ys. map f (filter q (at_number number xs)) ++ ys) (passes q f x here)

-- a list with one file more
lent_more : (list : List (Bor StoredFile)) (at : ℕ) (s : Bor StoredFile) → at < length list → s ≡ get_or list at s
    → entries_of (take (at + 1) list) ≡ entries_of (take at list) ++ entry_of s.now ∷ []
lent_more list at s within got =
    ap entries_of (take_more list at s within)
    ∙ map-append (λ (y : Bor StoredFile). entry_of y.now) (take at list) (get_or list at s ∷ [])
    ∙ ap (λ (y : Bor StoredFile). entries_of (take at list) ++ entry_of y.now ∷ []) (sym got)

lent_before : (list : List (Bor StoredFile)) (at : ℕ) → at < length list → length (entries_of (take at list)) ≡ at
lent_before list at within =
    omega (
      arith,
      within,
      length-map (take at list) (λ (y : Bor StoredFile). entry_of y.now),
      length-take at list,
    )

pub keys_more : (number : Option ℕ) (name : List ℕ) (list : List (Bor StoredFile)) (at : ℕ) (s : Bor StoredFile)
    (front new : List ℕ) → at < length list → s ≡ get_or list at s
    → front ≡ map key_in (asked_in number name (entries_of (take at list)))
    → new ≡ front ++ found_at number name (at + 1) (entry_of s.now)
    → new ≡ map key_in (asked_in number name (entries_of (take (at + 1) list)))
keys_more number name list at s front new within got before is =
    let es = entries_of (take at list) in
    is ∙ ap (λ ks. ks ++ found_at number name (at + 1) (entry_of s.now)) before
    ∙ ap (λ n. map key_in (asked_in number name es) ++ found_at number name (n + 1) (entry_of s.now))
    (sym (lent_before list at within))
    ∙ sym (ap (λ es. map key_in (asked_in number name es)) (lent_more list at s within got)
    ∙ found_more (is_called name) key_in number es (entry_of s.now))
