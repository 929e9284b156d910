-- The first 64 replies.
use Rattle.std.proofs.Common.{◌≡◌, ◌+◌, ◌<◌, ◌≤◌, min, length-take, ℕ, zero, suc, List, [], ◌∷◌, ◌++◌, length, map}
use Rattle.std.proofs.Common.{slice_set, take, refl, sym, ap, ◌∙◌, arith, not-suc-le-zero, le_of_suc-le-suc}
use Rattle.std.proofs.lemmas.List.{map-append, length-append, length-map, take_all, take_more_set}

-- where there is no room, one more changes nothing
pub one_too_many : {X : Type 0} (n : ℕ) (xs ys : List X) → n ≤ length xs → take n (xs ++ ys) ≡ take n xs
one_too_many zero xs ys h = refl
one_too_many (suc n) [] ys h = absurd (not-suc-le-zero h)
one_too_many (suc n) (x ∷ xs) ys h = ap (λ rest. x ∷ rest) (one_too_many n xs ys (le_of_suc-le-suc h))

-- only what is kept counts
pub kept_more : {X : Type 0} (n : ℕ) (xs ys : List X) → take n (take n xs ++ ys) ≡ take n (xs ++ ys)
kept_more zero xs ys = refl
kept_more (suc n) [] ys = refl
kept_more (suc n) (x ∷ xs) ys = ap (λ rest. x ∷ rest) (kept_more n xs ys)

-- where there is room, one more is added
pub one_more : {X : Type 0} (shown : X → List ℕ) (xs : List X) (x : X) → length xs ≤ 64 → (length xs ≡ 64 → ⊥)
    → map shown (xs ++ x ∷ []) ≡ take 64 (map shown xs ++ shown x ∷ [])
one_more shown xs x fits some =
    map-append shown xs (x ∷ [])
    ∙ sym (take_all 64 (map shown xs ++ shown x ∷ [])
    (rw (length-append (map shown xs) (shown x ∷ []), length-map xs shown) (omega (arith, fits, some))))

pub none_more : {X : Type 0} (shown : X → List ℕ) (xs : List X) (x : X) → length xs ≡ 64
    → map shown xs ≡ take 64 (map shown xs ++ shown x ∷ [])
none_more shown xs x full =
    sym (one_too_many 64 (map shown xs) (shown x ∷ []) (rw (length-map xs shown) (omega (arith, full)))
    ∙ take_all 64 (map shown xs) (rw (length-map xs shown) (omega (arith, full))))

-- a text in the place of the one behind the first, and one pushed behind them

pub replaced : {X : Type 0} (xs : List X) (n : ℕ) (x : X) → n < length xs
    → take (n + 1) (slice_set xs n x) ≡ take n xs ++ x ∷ []
replaced xs n x within = take_more_set xs n x within

pub pushed : {X : Type 0} (xs : List X) (n : ℕ) (x : X) → n ≡ length xs
    → take (n + 1) (xs ++ x ∷ []) ≡ take n xs ++ x ∷ []
pushed xs n x all =
    take_all (n + 1) (xs ++ x ∷ []) (omega (arith, length-append xs (x ∷ []), all))
    ∙ ap (λ front. front ++ x ∷ []) (sym (take_all n xs (omega (arith, all))))

-- the first texts, one more of them

not_full : (n m len : ℕ) → n ≤ m → n < 64 → len ≡ min n m → len ≡ 64 → ⊥
not_full n m len within room is full = absurd (omega (arith, within, room, is, full))

pub one_more_of : {X : Type 0} (shown : X → List ℕ) (olds news : List X) (n : ℕ) (x : X) → n ≤ length olds → n < 64
    → take (n + 1) news ≡ take n olds ++ x ∷ []
    → map shown (take (n + 1) news) ≡ take 64 (map shown (take n olds) ++ shown x ∷ [])
one_more_of shown olds news n x within room is =
    ap (map shown) is
    ∙ one_more shown (take n olds) x (omega (arith, length-take n olds))
    (λ full. not_full n (length olds) (length (take n olds)) within room (length-take n olds) full)

pub none_more_of : {X : Type 0} (shown : X → List ℕ) (olds : List X) (n : ℕ) (x : X) → n ≤ length olds
    → length olds ≤ 64 → 64 ≤ n
    → map shown (take n olds) ≡ take 64 (map shown (take n olds) ++ shown x ∷ [])
none_more_of shown olds n x within fits full = none_more shown (take n olds) x (omega (arith, length-take n olds))

-- the same of a text that is written in its place

pub place_made : {X : Type 0} (xs : List X) (n : ℕ) (x : X) → n ≡ length xs → take n (xs ++ x ∷ []) ≡ take n xs
place_made xs n x all = one_too_many n xs (x ∷ []) (omega (arith, all))

pub written : {X : Type 0} (shown : X → List ℕ) (olds places news : List X) (n : ℕ) (x : X) (text : List ℕ)
    → n < length places
    → take n places ≡ take n olds → news ≡ slice_set places n x → shown x ≡ text
    → map shown (take (n + 1) news) ≡ map shown (take n olds) ++ text ∷ []
written shown olds places news n x text within front set is =
    ap (λ texts. map shown (take (n + 1) texts)) set
    ∙ ap (map shown) (take_more_set places n x within)
    ∙ map-append shown (take n places) (x ∷ [])
    ∙ ap (λ texts. map shown texts ++ shown x ∷ []) front
    ∙ ap (λ t. map shown (take n olds) ++ t ∷ []) is

pub one_more_written : {X : Type 0} (shown : X → List ℕ) (olds news : List X) (n : ℕ) (text : List ℕ) → n ≤ length olds
    → n < 64
    → map shown (take (n + 1) news) ≡ map shown (take n olds) ++ text ∷ []
    → map shown (take (n + 1) news) ≡ take 64 (map shown (take n olds) ++ text ∷ [])
one_more_written shown olds news n text within room is =
    is
    ∙ sym (take_all 64 (map shown (take n olds) ++ text ∷ [])
    (rw (length-append (map shown (take n olds)) (text ∷ []), length-map (take n olds) shown)
    (omega (arith, length-take n olds, within, room))))

pub none_more_written : {X : Type 0} (shown : X → List ℕ) (olds : List X) (n : ℕ) (text : List ℕ) → n ≤ length olds
    → length olds ≤ 64
    → 64 ≤ n → map shown (take n olds) ≡ take 64 (map shown (take n olds) ++ text ∷ [])
none_more_written shown olds n text within fits full =
    sym (one_too_many 64 (map shown (take n olds)) (text ∷ [])
    (rw (length-map (take n olds) shown) (omega (arith, length-take n olds, within, full)))
    ∙ take_all 64 (map shown (take n olds))
    (rw (length-map (take n olds) shown) (omega (arith, length-take n olds, within, fits))))
