-- Lists of files that are looked at one after the other.
use Rattle.std.proofs.Common.{◌≡◌, ◌≤◌, ℕ, zero, suc, ◌+◌, Bool, true, false, cond, ◌||◌, List, [], ◌∷◌, length, take}
use Rattle.std.proofs.Common.{map, find, count_by, get_or, ◌<◌, Option, Some, None, ◌==◌, slice_get, refl, sym, ap, ◌∙◌}
use Rattle.std.proofs.Common.{arith, add-one, eq-eqb, not-suc-le-zero, le_of_suc-le-suc, IsSomeAnd}
use Rattle.std.specs.List.{list_any}
use Rattle.std.proofs.lemmas.List.Sums.{sum_by-cons}
use Rattle.njh_spool.specs.CustomerSpool.{CustomerSpool, WholeFile, whole_numbered}
use Rattle.njh_spool.specs.Spools.{files_numbered}
use Rattle.njh_spool.specs.Headers.{summary}
use Rattle.njh_spool.specs.declared.file_headers.FileSummary.{FileSummary}
use Rattle.njh_stream.specs.Sending.{holds_of}
use Rattle.std.proofs.lemmas.Bool.{or_parts}
use Rattle.std.specs.Option.{option_map}

module _ (p : WholeFile → Bool) where
  count-cons : (x : WholeFile) (xs : List WholeFile) → count_by p (x ∷ xs) ≡ cond (p x) 1 0 + count_by p xs
  count-cons x xs = sum_by-cons (λ y. cond (p y) 1 0) x xs

  count_true : (x : WholeFile) (xs : List WholeFile) → p x ≡ true → count_by p (x ∷ xs) ≡ 1 + count_by p xs
  count_true x xs e = count-cons x xs ∙ ap (λ b. cond b 1 0 + count_by p xs) e

  -- a file that passes is counted
  counted_at : (xs : List WholeFile) (i : ℕ) (y : WholeFile) → slice_get xs i ≡ Some y → p y ≡ true → 1 ≤ count_by p xs
  counted_at [] i y h e = absurd (cc h)
  counted_at (x ∷ xs) zero y h e = let same : x ≡ y = cc h in let passes : p x ≡ true = ap p same ∙ e in omega
      (arith, count_true x xs passes)
  counted_at (x ∷ xs) (suc i) y h e = omega (arith, count-cons x xs, counted_at xs i y h e)

  -- where one passes at most, that is found
  only_found : (xs : List WholeFile) (i : ℕ) (y : WholeFile) → slice_get xs i ≡ Some y → p y ≡ true → count_by p xs ≤ 1
      → find p xs ≡ Some y
  only_found [] i y h e few = absurd (cc h)
  only_found (x ∷ xs) zero y h e few =
      let same : x ≡ y = cc h in ap (λ b. cond b (Some x) (find p xs)) (ap p same ∙ e) ∙ ap Some same
  only_found (x ∷ xs) (suc i) y h e few = at_test (p x) refl (only_found xs i y h e)
    where
      at_test : (b : Bool) → p x ≡ b → (count_by p xs ≤ 1 → find p xs ≡ Some y) → cond b (Some x) (find p xs) ≡ Some y
      at_test true f more = absurd (omega (arith, count_true x xs f, few, counted_at xs i y h e))
      at_test false f more = more (omega (arith, count-cons x xs, few))

  -- ---- none of the first so many passes

  none_more : (xs : List WholeFile) (i : ℕ) → list_any p (take i xs) ≡ false → holds_of p (slice_get xs i) ≡ false
      → list_any p (take (suc i) xs) ≡ false
  none_more [] i h e = refl
  none_more (x ∷ xs) zero h e = ap (λ b. b || false) e
  none_more (x ∷ xs) (suc i) h e = at_test (p x) h (none_more xs i)
    where
      at_test :
          (b : Bool) → (b || list_any p (take i xs)) ≡ false
          → (list_any p (take i xs) ≡ false → holds_of p (slice_get xs i) ≡ false
          → list_any p (take (suc i) xs) ≡ false)
          → (b || list_any p (take (suc i) xs)) ≡ false
      at_test true f more = absurd (cc f)
      at_test false f more = more f e

  pub found_here : (xs : List WholeFile) (i : ℕ) → list_any p (take i xs) ≡ false → holds_of p (slice_get xs i) ≡ true
      → find p xs ≡ slice_get xs i
  found_here [] i h e = absurd (cc e)
  found_here (x ∷ xs) zero h e = ap (λ b. cond b (Some x) (find p xs)) e
  found_here (x ∷ xs) (suc i) h e = at_test (p x) h (found_here xs i)
    where
      at_test :
          (b : Bool) → (b || list_any p (take i xs)) ≡ false
          → (list_any p (take i xs) ≡ false → holds_of p (slice_get xs i) ≡ true → find p xs ≡ slice_get xs i)
          → cond b (Some x) (find p xs) ≡ slice_get xs i
      at_test true f more = absurd (cc f)
      at_test false f more = more f e

  pub found_nowhere : (xs : List WholeFile) (i : ℕ) → list_any p (take i xs) ≡ false → length xs ≤ i
      → find p xs ≡ slice_get xs (length xs)
  found_nowhere [] i h all = refl
  found_nowhere (x ∷ xs) zero h all = absurd (not-suc-le-zero all)
  found_nowhere (x ∷ xs) (suc i) h all = at_test (p x) h (λ e. found_nowhere xs i e (le_of_suc-le-suc all))
    where
      at_test :
          (b : Bool) → (b || list_any p (take i xs)) ≡ false
          → (list_any p (take i xs) ≡ false → find p xs ≡ slice_get xs (length xs))
          → cond b (Some x) (find p xs) ≡ slice_get xs (length xs)
      at_test true f more = absurd (cc f)
      at_test false f more = more f

  pub one_more : (xs : List WholeFile) (i : ℕ) → list_any p (take i xs) ≡ false → holds_of p (slice_get xs i) ≡ false
      → list_any p (take (i + 1) xs) ≡ false
  one_more xs i h e = ap (λ n. list_any p (take n xs)) (add-one i) ∙ none_more xs i h e

  pub some_here : (xs : List WholeFile) (i : ℕ) → holds_of p (slice_get xs i) ≡ true → list_any p xs ≡ true
  some_here [] i e = absurd (cc e)
  some_here (x ∷ xs) zero e = ap (λ b. b || list_any p xs) e
  some_here (x ∷ xs) (suc i) e = at_test (p x) (some_here xs i e)
    where
      at_test : (b : Bool) → list_any p xs ≡ true → (b || list_any p xs) ≡ true
      at_test true f = refl
      at_test false f = f

  -- the files are changed, and none that didn't pass passes for it
  pub none_changed :
      (g : WholeFile → WholeFile) (xs : List WholeFile) (i : ℕ) → ((x : WholeFile) → p x ≡ false → p (g x) ≡ false)
      → list_any p (take i xs) ≡ false → list_any p (take i (map g xs)) ≡ false
  none_changed g [] i keeps h = h
  none_changed g (x ∷ xs) zero keeps h = refl
  none_changed g (x ∷ xs) (suc i) keeps h = at_test (p x) refl h (none_changed g xs i keeps)
    where
      at_test :
          (b : Bool) → p x ≡ b → (b || list_any p (take i xs)) ≡ false
          → (list_any p (take i xs) ≡ false → list_any p (take i (map g xs)) ≡ false)
          → (p (g x) || list_any p (take i (map g xs))) ≡ false
      at_test true e f more = absurd (cc f)
      at_test false e f more = ap (λ b. b || list_any p (take i (map g xs))) (keeps x e) ∙ more f

-- the file at an index is the one of its number
pub file_is : (s : CustomerSpool) (i n : ℕ) → ((m : ℕ) → files_numbered m s ≤ 1)
    → IsSomeAnd (slice_get s.whole i) (λ f. n ≡ f.number)
    → whole_numbered n s ≡ slice_get s.whole i
file_is s i n apart at = at_file (slice_get s.whole i) refl at
  where
    at_file : (o : Option WholeFile) → slice_get s.whole i ≡ o → IsSomeAnd o (λ f. n ≡ f.number)
        → whole_numbered n s ≡ o
    at_file None e is = absurd (search is)
    at_file (Some y) e is =
        only_found (λ f. f.number == n) s.whole i y e (eq-eqb y.number n (sym (search is))) (omega (arith, apart n))

-- a test by what is known of a file is one of the file
pub by_summary :
    (p : WholeFile → Bool) (q : FileSummary → Bool) → ((f : WholeFile) → q (summary f) ≡ p f)
    → (o : Option WholeFile) (x : FileSummary)
    → option_map summary o ≡ Some x → q x ≡ holds_of p o
by_summary p q same None x is = absurd (cc is)
by_summary p q same (Some f) x is = let here : summary f ≡ x = cc is in ap q (sym here) ∙ same f

-- a test that no node passes, at one of them
pub none_at : (nodes : List (List ℕ)) (i : ℕ) (test : List ℕ → Bool) → i < length nodes → list_any test nodes ≡ false
    → test (get_or nodes i []) ≡ false
none_at [] i test within none = absurd (omega arith)
none_at (x ∷ xs) zero test within none = (or_parts (test x) (list_any test xs) none).0
none_at (x ∷ xs) (suc i) test within none =
    none_at xs i test (omega arith) (or_parts (test x) (list_any test xs) none).1
