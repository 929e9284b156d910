-- Files that pass a test get a state, one after the other.
use Rattle.std.proofs.Common.{◌≡◌, ◌<◌, ◌≤◌, ℕ, zero, suc, Bool, true, false, cond, List, [], ◌∷◌, ◌++◌, length, take}
use Rattle.std.proofs.Common.{drop, map, set, get_or, count_by, Option, Some, None, ◌==◌, slice_get, refl, sym, ap}
use Rattle.std.proofs.Common.{subst, ◌∙◌, arith, IsSomeAnd, zero-lt-suc, suc-le-suc, eq-eqb}
use Rattle.std.proofs.lemmas.List.{set-get_or}
use Rattle.njh_spool.specs.Spools.{IsSound}
use Rattle.njh_spool.specs.declared.State.{State}
use Rattle.njh_stream.proofs.OnlyOneLaws.{only_found, only_changed, changed_more, not_yet, as_long}
use Rattle.njh_spool.specs.CustomerSpool.{CustomerSpool, WholeFile, whole_numbered, with_state}
use Rattle.njh_stream.specs.Sending.{holds_of}

-- the first so many files were looked at
abbrev pub restated : (WholeFile → Bool) → State → WholeFile → WholeFile
restated p state f = cond (p f) (record f { state = state }) f

abbrev pub restated_up_to : (WholeFile → Bool) → State → ℕ → CustomerSpool → CustomerSpool
restated_up_to p state i s = record s { whole = map (restated p state) (take i s.whole) ++ drop i s.whole }

pub got : (xs : List WholeFile) (i : ℕ) (y d : WholeFile) → slice_get xs i ≡ Some y
    → (i < length xs) × (get_or xs i d ≡ y)
got [] i y d h = absurd (cc h)
got (x ∷ xs) zero y d h = (zero-lt-suc (length xs), some_is h)
  where
    or_d : Option WholeFile → WholeFile
    or_d o = elim o [ Some f ↦ f | None ↦ d ]

    some_is : Some x ≡ Some y → x ≡ y
    some_is e = ap (λ o. elim o [ Some f ↦ f | None ↦ d ]) e
got (x ∷ xs) (suc i) y d h = (suc-le-suc (got xs i y d h).0, (got xs i y d h).1)

abbrev pub restated_where : State → ℕ → Bool → CustomerSpool → CustomerSpool
restated_where state n b x = elim b [ true ↦ with_state n state x | false ↦ x ]

-- the whole file of a number, where it passes
abbrev pub restated_numbered : (WholeFile → Bool) → State → ℕ → CustomerSpool → CustomerSpool
restated_numbered p state n s = restated_where state n (holds_of p (whole_numbered n s)) s

-- the file at an index has a number of its own
pub one_more :
    (p : WholeFile → Bool) (state : State) (s : CustomerSpool) (i n : ℕ) (y : WholeFile)
    → IsSound (restated_up_to p state i s)
    → slice_get (restated_up_to p state i s).whole i ≡ Some y → n ≡ y.number
    → restated_numbered p state n (restated_up_to p state i s) ≡ restated_up_to p state (suc i) s
one_more p state s i n y sound at number =
    ap (λ o. restated_where state n (holds_of p o) x) (found ∙ ap Some at_y)
    ∙ by_test (p y) refl
    ∙ sym (ap (λ files. record s { whole = files })
    (changed_more (restated p state) i s.whole y inside
    ∙ ap (λ f. set x.whole i (restated p state f)) (sym first ∙ at_y)))
  where
    x : CustomerSpool
    x = restated_up_to p state i s

    there : (i < length x.whole) × (get_or x.whole i y ≡ y)
    there = got x.whole i y y at

    at_y : get_or x.whole i y ≡ y
    at_y = there.1

    inside : i < length s.whole
    inside = subst (λ k. i < k) (as_long (restated p state) i s.whole) there.0

    first : get_or x.whole i y ≡ get_or s.whole i y
    first = not_yet (restated p state) i s.whole y inside

    passes : (get_or x.whole i y).number == n ≡ true
    passes = eq-eqb (get_or x.whole i y).number n (ap (λ f. f.number) at_y ∙ sym number)

    few : count_by (λ f. f.number == n) x.whole ≤ 1
    few = omega (arith, sound.apart n)

    found : whole_numbered n x ≡ Some (get_or x.whole i y)
    found = only_found (λ f. f.number == n) x.whole i y there.0 passes few

    by_test : (b : Bool) → p y ≡ b → restated_where state n b x
        ≡ record s { whole = set x.whole i (cond b (record y { state = state }) y) }
    by_test true e =
        ap (λ files. record s { whole = files })
        (only_changed (λ f. f.number == n) (λ f. record f { state = state }) x.whole i y there.0 passes few
        ∙ ap (λ (f : WholeFile). set x.whole i (record f { state = state })) at_y)
    by_test false e = ap (λ files. record s { whole = files })
        (sym (ap (λ f. set x.whole i f) (sym at_y) ∙ set-get_or x.whole i y))

pub one_more_at :
    (p : WholeFile → Bool) (state : State) (s : CustomerSpool) (i n : ℕ) → IsSound (restated_up_to p state i s)
    → IsSomeAnd (slice_get (restated_up_to p state i s).whole i) (λ f. n ≡ f.number)
    → restated_numbered p state n (restated_up_to p state i s) ≡ restated_up_to p state (suc i) s
one_more_at p state s i n sound at = at_file (slice_get (restated_up_to p state i s).whole i) refl at
  where
    at_file :
        (o : Option WholeFile) → slice_get (restated_up_to p state i s).whole i ≡ o → IsSomeAnd o (λ f. n ≡ f.number)
        → restated_numbered p state n (restated_up_to p state i s) ≡ restated_up_to p state (suc i) s
    at_file None e is = absurd (search is)
    at_file (Some y) e is = one_more p state s i n y sound e (search is)
