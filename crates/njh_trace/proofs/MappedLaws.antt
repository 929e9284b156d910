-- A list of which the first elements were changed.
use Rattle.std.proofs.Common.{◌≡◌, ℕ, zero, suc, ◌+◌, ◌<◌, ◌≤◌, List, [], ◌∷◌, length, refl, ap, ◌∙◌, arith, set}
use Rattle.std.proofs.Common.{get_or, map, add-one}

abbrev pub mapped_upto : {X : Type 0} → (X → X) → ℕ → List X → List X
mapped_upto f zero xs = xs
mapped_upto f (suc n) [] = []
mapped_upto f (suc n) (x ∷ xs) = f x ∷ mapped_upto f n xs

mapped_upto-suc : {X : Type 0} (f : X → X) (n : ℕ) (xs : List X) (d : X) → n < length xs
    → set (mapped_upto f n xs) n (f (get_or (mapped_upto f n xs) n d)) ≡ mapped_upto f (suc n) xs
mapped_upto-suc f zero [] d below = absurd (omega arith)
mapped_upto-suc f zero (x ∷ xs) d below = refl
mapped_upto-suc f (suc n) [] d below = absurd (omega arith)
mapped_upto-suc {X} f (suc n) (x ∷ xs) d below =
    let later : n < length xs = omega arith in
    ap (λ (ys : List X). f x ∷ ys) (mapped_upto-suc f n xs d later)

-- one element more
pub mapped_upto-more : {X : Type 0} (f : X → X) (n : ℕ) (xs : List X) (d : X) → n < length xs
    → set (mapped_upto f n xs) n (f (get_or (mapped_upto f n xs) n d)) ≡ mapped_upto f (n + 1) xs
mapped_upto-more f n xs d below = rw add-one (mapped_upto-suc f n xs d below)

-- all of them
pub mapped_upto-all : {X : Type 0} (f : X → X) (xs : List X) → mapped_upto f (length xs) xs ≡ map f xs
mapped_upto-all f [] = refl
mapped_upto-all {X} f (x ∷ xs) = ap (λ (ys : List X). f x ∷ ys) (mapped_upto-all f xs)

length-mapped_upto : {X : Type 0} (f : X → X) (n : ℕ) (xs : List X) → length (mapped_upto f n xs) ≡ length xs
length-mapped_upto f zero xs = refl
length-mapped_upto f (suc n) [] = refl
length-mapped_upto f (suc n) (x ∷ xs) = ap suc (length-mapped_upto f n xs)

-- a step of the loop
pub mapped_upto-step : {X : Type 0} (f : X → X) (n : ℕ) (xs ys : List X) (x y : X) → ys ≡ mapped_upto f n xs
    → n < length ys
    → x ≡ get_or ys n x → y ≡ f x → set ys n y ≡ mapped_upto f (n + 1) xs
mapped_upto-step {X} f n xs ys x y so_far below at changed =
    let within : n < length xs = omega (arith, ap (length {A = X}) so_far, length-mapped_upto f n xs) in
    ap (set ys n) (changed ∙ ap f at)
    ∙ ap (λ (zs : List X). set zs n (f (get_or zs n x))) so_far
    ∙ mapped_upto-more f n xs x within

-- its end
pub mapped_upto-end : {X : Type 0} (f : X → X) (n : ℕ) (xs ys : List X) → ys ≡ mapped_upto f n xs → length ys ≤ n
    → n ≤ length ys
    → ys ≡ map f xs
mapped_upto-end {X} f n xs ys so_far past within =
    let all : n ≡ length xs = omega (arith, ap (length {A = X}) so_far, length-mapped_upto f n xs) in
    so_far ∙ ap (λ (k : ℕ). mapped_upto f k xs) all ∙ mapped_upto-all f xs
