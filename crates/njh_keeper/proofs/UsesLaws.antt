-- How often each number is used, while files come and leave and numbers are given out.
use Rattle.njh_keeper.proofs.Words
use Words.{◌≡◌, ℕ, ◌+◌, ◌<◌, ◌≤◌, ◌==◌, ◌-◌, ◌^◌, List, [], ◌∷◌, ◌++◌, length, get_or, set, remove, ap, arith, ◌⊎◌, inl}
use Words.{inr, Bool, true, false, cond, ◌≢◌, zero, suc, map, refl, ◌∙◌, nat_tests, AllByRecursion, AreApart}
use Words.{KeptPartial, KeptWhole, Numbers, OwnFiles, Sweep, claim, keyed, may_be_given, one_if, uses, with_key}
use Rattle.njh_keeper.proofs.NumberedLaws.{equal}

pub one_itself : (n : ℕ) → one_if (n == n) ≡ 1
one_itself n = ap one_if (equal n)

pub one_or_none : (b : Bool) → one_if b ≤ 1
one_or_none true = omega arith
one_or_none false = omega arith

apart_if_none : (m n : ℕ) → one_if (m == n) ≡ 0 → m ≢ n
apart_if_none m n none here = absurd (let one = ap (λ k. one_if (k == n)) here
    ∙ one_itself n in omega (arith, none, one))

module _ {X : Type 0} (key : X → ℕ) where
  pub keyed-append : (n : ℕ) (xs ys : List X) → keyed key n (xs ++ ys) ≡ keyed key n xs + keyed key n ys
  keyed-append n [] ys = omega arith
  keyed-append n (x ∷ xs) ys = omega (arith, keyed-append n xs ys)

  pub keyed-map : {Y : Type 0} (f : Y → X) (n : ℕ) (ys : List Y) → keyed key n (map f ys) ≡ keyed (λ y. key (f y)) n ys
  keyed-map f n [] = refl
  keyed-map f n (y ∷ ys) = omega (arith, keyed-map f n ys)

  pub keyed-remove : (n : ℕ) (xs : List X) (i : ℕ) (x : X) → i < length xs → x ≡ get_or xs i x
      → keyed key n xs ≡ one_if (key x == n) + keyed key n (remove xs i)
  keyed-remove n [] i x there is = absurd (omega (arith, there))
  keyed-remove n (y ∷ xs) zero x there is = let same : one_if (key x == n) ≡ one_if (key y == n) =
      ap (λ z. one_if (key z == n)) is in omega (arith, same)
  keyed-remove n (y ∷ xs) (suc i) x there is = omega (arith, keyed-remove n xs i x (omega (arith, there)) is)

  pub keyed-set : (n : ℕ) (xs : List X) (i : ℕ) (x y : X) → i < length xs → x ≡ get_or xs i x → key y ≡ key x
      → keyed key n (set xs i y) ≡ keyed key n xs
  keyed-set n [] i x y there is alike = refl
  keyed-set n (z ∷ xs) zero x y there is alike =
      let same : one_if (key y == n) ≡ one_if (key z == n) =
      ap (λ k. one_if (k == n)) (alike ∙ ap key is) in omega (arith, same)
  keyed-set n (z ∷ xs) (suc i) x y there is alike = omega (arith, keyed-set n xs i x y (omega (arith, there)) is alike)

  pub keyed_none : (n : ℕ) (xs : List X) → keyed key n xs ≡ 0 → AllByRecursion (λ x. key x ≢ n) xs
  keyed_none n [] none = tt
  keyed_none n (x ∷ xs) none = (apart_if_none (key x) n (omega (arith, none)), keyed_none n xs (omega (arith, none)))

  pub keyed_at : (xs : List X) (i : ℕ) (x : X) → i < length xs → x ≡ get_or xs i x → 1 ≤ keyed key (key x) xs
  keyed_at xs i x there is = omega (arith, keyed-remove (key x) xs i x there is, one_itself (key x))

  -- where no key is there twice, no other has the key of one
  pub keyed_apart : (xs : List X) (i : ℕ) (x : X) → i < length xs → x ≡ get_or xs i x → keyed key (key x) xs ≤ 1
      → AllByRecursion (λ y. key y ≢ key x) (remove xs i)
  keyed_apart xs i x there is once =
      let all = keyed-remove (key x) xs i x there is in
      let one = one_itself (key x) in
      keyed_none (key x) (remove xs i) (omega (arith, all, one, once))

  -- what counts at least these counts each
  pub each_counts : (m : ℕ → ℕ) (xs : List X) → ((n : ℕ) → keyed key n xs ≤ m n)
      → AllByRecursion (λ x. 1 ≤ m (key x)) xs
  each_counts m [] least = tt
  each_counts m (x ∷ xs) least = (
    (omega (arith, one_itself (key x), least (key x))),
    each_counts m xs (λ n. omega (arith, least n)),
  )

same_key : (n a b : ℕ) → a ≡ b → one_if (a == n) ≡ one_if (b == n)
same_key n a b same = ap (λ k. one_if (k == n)) same

either_counts : (b : Bool) (n : ℕ) (further sweep : Sweep) → one_if (further.key == n) ≡ one_if (sweep.key == n)
    → keyed (λ (x : Sweep). x.key) n (cond b (further ∷ []) []) + keyed (λ (k : ℕ). k) n (cond b [] (sweep.key ∷ []))
    ≡ one_if (sweep.key == n)
either_counts true n further sweep same = omega (arith, same)
either_counts false n further sweep same = omega arith

module _ (w : Numbers) (own : OwnFiles) where
  -- ---- whole files

  pub uses_as_one_leaves : (i : ℕ) (k : KeptWhole) (sweep : Sweep) → i < length own.whole → k ≡ get_or own.whole i k
      → sweep.key ≡ k.key
      → (n : ℕ) → uses n w (record own { whole = remove own.whole i; sweeps = own.sweeps ++ sweep ∷ [] })
      ≤ uses n w own
  uses_as_one_leaves i k sweep there is same n =
      let gone = keyed-remove (λ (x : KeptWhole). x.key) n own.whole i k there is in
      let more = keyed-append (λ (x : Sweep). x.key) n own.sweeps (sweep ∷ []) in
      let alike = same_key n sweep.key k.key same in
      omega (arith, gone, more, alike)

  pub uses_as_one_changes : (i : ℕ) (k now : KeptWhole) → i < length own.whole → k ≡ get_or own.whole i k
      → now.key ≡ k.key → (n : ℕ) → uses n w (record own { whole = set own.whole i now }) ≡ uses n w own
  uses_as_one_changes i k now there is same n =
      let as_was = keyed-set (λ (x : KeptWhole). x.key) n own.whole i k now there is same in omega (arith, as_was)

  -- one comes whose number was in hand
  pub uses_as_one_comes : (k : KeptWhole) (n : ℕ)
      → uses n w (record own { whole = own.whole ++ k ∷ [] }) ≡ (with_key k.key (claim w own)).uses n
  uses_as_one_comes k n = let more = keyed-append (λ (x : KeptWhole). x.key) n own.whole (k ∷ []) in omega (arith, more)

  -- ---- files that aren't whole

  -- the number of one that is remembered no more is in hand
  pub uses_as_partial_goes : (i : ℕ) (p : KeptPartial) → i < length own.partial → p ≡ get_or own.partial i p
      → (n : ℕ) → (with_key p.key (claim w (record own { partial = remove own.partial i }))).uses n ≡ uses n w own
  uses_as_partial_goes i p there is n = let gone =
      keyed-remove (λ (x : KeptPartial). x.key) n own.partial i p there is in omega (arith, gone)

  pub uses_as_partial_comes : (p : KeptPartial) (n : ℕ)
      → uses n w (record own { partial = own.partial ++ p ∷ [] }) ≡ (with_key p.key (claim w own)).uses n
  uses_as_partial_comes p n = let more = keyed-append (λ (x : KeptPartial). x.key) n own.partial (p ∷ []) in omega
      (arith, more)

  pub uses_as_partial_changes : (i : ℕ) (p now : KeptPartial) → i < length own.partial → p ≡ get_or own.partial i p
      → now.key ≡ p.key → (n : ℕ) → uses n w (record own { partial = set own.partial i now }) ≡ uses n w own
  uses_as_partial_changes i p now there is same n =
      let as_was = keyed-set (λ (x : KeptPartial). x.key) n own.partial i p now there is same in omega (arith, as_was)

  pub uses_as_partial_is_swept : (i : ℕ) (p : KeptPartial) (sweep : Sweep) → i < length own.partial
      → p ≡ get_or own.partial i p → sweep.key ≡ p.key
      → (n : ℕ) → uses n w (record own { partial = remove own.partial i; sweeps = own.sweeps ++ sweep ∷ [] })
      ≤ uses n w own
  uses_as_partial_is_swept i p sweep there is same n =
      let gone = keyed-remove (λ (x : KeptPartial). x.key) n own.partial i p there is in
      let more = keyed-append (λ (x : Sweep). x.key) n own.sweeps (sweep ∷ []) in
      let alike = same_key n sweep.key p.key same in
      omega (arith, gone, more, alike)

  -- ---- the writer's

  one_further : (first n : ℕ) → first < 2 ^ 32 - 1
      → one_if (first == n) + one_if (may_be_given (first + 1) n) ≡ one_if (may_be_given first n)
  one_further first n low = grind (arith, nat_tests, low)

  -- the last of the free ones, or where none is free the first that was never given out
  pub uses_as_key_is_taken : (key : ℕ) (left : List ℕ) (behind : ℕ)
      → ((w.free_keys ≡ left ++ key ∷ []) × (behind ≡ w.next_key))
      ⊎ ((w.free_keys ≡ []) × (left ≡ []) × (key ≡ w.next_key) × (behind ≡ w.next_key + 1) × (behind < 2 ^ 32))
      → (n : ℕ) → (with_key key (claim (record w { free_keys = left; next_key = behind }) own)).uses n ≡ uses n w own
  uses_as_key_is_taken key left behind (inl free) n =
      let all : keyed (λ k. k) n w.free_keys ≡ keyed (λ k. k) n (left ++ key ∷ []) = ap (keyed (λ k. k) n) free.0 in
      let last = keyed-append (λ (k : ℕ). k) n left (key ∷ []) in
      let same : one_if (may_be_given behind n) ≡ one_if (may_be_given w.next_key n) =
      ap (λ m. one_if (may_be_given m n)) free.1 in
      omega (arith, all, last, same)
  uses_as_key_is_taken key left behind (inr new) n =
      let none : keyed (λ k. k) n w.free_keys ≡ 0 = ap (keyed (λ k. k) n) new.0 in
      let still : keyed (λ k. k) n left ≡ 0 = ap (keyed (λ k. k) n) new.1 in
      let first : one_if (key == n) ≡ one_if (w.next_key == n) = same_key n key w.next_key new.2 in
      let next : one_if (may_be_given behind n) ≡ one_if (may_be_given (w.next_key + 1) n) =
      ap (λ m. one_if (may_be_given m n)) new.3 in
      let further = one_further w.next_key n (omega (arith, new.3, new.4)) in
      omega (arith, none, still, first, next, further)

  -- a sweep goes on, or its number is free
  pub uses_as_one_is_swept : (rest : List Sweep) (sweep further : Sweep) (b : Bool) → own.sweeps ≡ rest ++ sweep ∷ []
      → further.key ≡ sweep.key
      → (n : ℕ) → uses n (record w { free_keys = w.free_keys ++ cond b [] (sweep.key ∷ []) })
      (record own { sweeps = rest ++ cond b (further ∷ []) [] }) ≡ uses n w own
  uses_as_one_is_swept rest sweep further b are same n =
      let all : keyed (λ (x : Sweep). x.key) n own.sweeps ≡ keyed (λ (x : Sweep). x.key) n (rest ++ sweep ∷ []) =
      ap (keyed (λ (x : Sweep). x.key) n) are in
      let before = keyed-append (λ (x : Sweep). x.key) n rest (sweep ∷ []) in
      let behind = keyed-append (λ (x : Sweep). x.key) n rest (cond b (further ∷ []) []) in
      let free = keyed-append (λ (k : ℕ). k) n w.free_keys (cond b [] (sweep.key ∷ [])) in
      let alike = same_key n further.key sweep.key same in
      let either = either_counts b n further sweep alike in
      omega (arith, all, before, behind, free, either)

  -- ---- no number is used twice

  -- one in hand is no file's, and none of the writer's
  pub in_hand_alone : (key : ℕ) → AreApart (with_key key (claim w own))
      → (keyed (λ (k : KeptWhole). k.key) key own.whole ≡ 0) × AllByRecursion (λ p. p.key ≢ key) own.partial
  in_hand_alone key apart =
      let once = apart key in
      let one = one_itself key in
      (omega (arith, once, one), keyed_none (λ (p : KeptPartial). p.key) key own.partial (omega (arith, once, one)))

  pub in_hand_is_used : (key : ℕ) → 1 ≤ (with_key key (claim w own)).uses key
  in_hand_is_used key = let one = one_itself key in omega (arith, one)

  -- one that is about to be given out, swept, or of a file that isn't whole is no other file's
  pub partial_is_apart : (i : ℕ) (p : KeptPartial) → i < length own.partial → p ≡ get_or own.partial i p
      → AreApart (claim w own) → (keyed (λ (k : KeptWhole). k.key) p.key own.whole ≡ 0)
      × AllByRecursion (λ q. q.key ≢ p.key) (remove own.partial i) × (1 ≤ uses p.key w own)
  partial_is_apart i p there is apart =
      let once = apart p.key in
      let has = keyed_at (λ (x : KeptPartial). x.key) own.partial i p there is in (
        omega (arith, once, has),
        keyed_apart (λ (x : KeptPartial). x.key) own.partial i p there is (omega (arith, once)),
        omega (arith, has),
      )

  pub sweep_is_apart : (rest : List Sweep) (sweep : Sweep) → own.sweeps ≡ rest ++ sweep ∷ [] → AreApart (claim w own)
      → (keyed (λ (k : KeptWhole). k.key) sweep.key own.whole ≡ 0)
      × AllByRecursion (λ p. p.key ≢ sweep.key) own.partial × (1 ≤ uses sweep.key w own)
  sweep_is_apart rest sweep are apart =
      let once = apart sweep.key in
      let one = one_itself sweep.key in
      let all = ap (keyed (λ (x : Sweep). x.key) sweep.key) are in
      let last = keyed-append (λ (x : Sweep). x.key) sweep.key rest (sweep ∷ []) in (
        omega (arith, once, one, all, last),
        keyed_none (λ (p : KeptPartial). p.key) sweep.key own.partial (omega (arith, once, one, all, last)),
        omega (arith, one, all, last),
      )
