-- The keeper goes through a customer's files: those that left are taken out, and each other one is found by its number.
use Rattle.njh_keeper.proofs.Words
use Words.{◌≡◌, ℕ, ◌<◌, ◌≤◌, ◌==◌, List, length, get_or, remove, sym, ap, ◌∙◌, arith, cases_lt, inl, inr}
use Words.{SpoolContents, WholeFile, HasFiles, IsAt, Memory, own_rows, IsKept, KeptWhole, IsWalkedTo, ◌≢◌, suc}
use Words.{◌+◌, [], ◌∷◌, ◌++◌, set, take, drop, count_by, refl, subst, drop_all, drop_more, length-set}
use Words.{length-take-le, take-append-le, take-take, take_all, take_more, length-remove, is_sum_by, IsStill, Survive}
use Words.{leaves, none, keyed, one_if, AreNumbered}
use Rattle.std.proofs.lemmas.List.{drop-set-lt, drop_at, take_more_set}
use Rattle.{njh_customer.specs.Surviving.stays, njh_keeper.proofs.ListLaws.{BesideAt, beside_at, beside_lengths}}
use Rattle.njh_keeper.proofs.UsesLaws.{one_itself}

abbrev number : WholeFile → ℕ
number f = f.number

-- ---- those that are still there

-- no more files have a number than had it
pub no_more_numbered : (n : ℕ) (fs still : List WholeFile) → Survive fs still → keyed number n still ≤ keyed number n fs
no_more_numbered n _ _ none = omega arith
no_more_numbered n _ _ (stays f g fs gs one more) =
    omega (arith, ap (λ m. one_if (m == n)) one.number, no_more_numbered n fs gs more)
no_more_numbered n _ _ (leaves f fs gs more) = omega (arith, no_more_numbered n fs gs more)

-- one that is there now was there
was_there : (fs : List WholeFile) (g : WholeFile) (still : List WholeFile) → Survive fs (g ∷ still)
    → 1 ≤ keyed number g.number fs
was_there fs g still all = omega (arith, no_more_numbered g.number fs (g ∷ still) all, one_itself g.number)

record IsFound (f g : WholeFile) (fs still : List WholeFile) : Type 0 where
  one : IsStill f g
  rest : Survive fs still

-- the first one that has its number is it
is_found : (f g : WholeFile) (fs still : List WholeFile) → Survive (f ∷ fs) (g ∷ still) → AreNumbered (f ∷ fs)
    → f.number ≡ g.number → IsFound f g fs still
is_found f g fs still (stays _ _ _ _ one more) once same = record { one = one; rest = more }
is_found f g fs still (leaves _ _ _ more) once same =
    absurd (
    let there = was_there fs g still more in
    let all = once g.number in
    let first : one_if (f.number == g.number) ≡ 1 = ap (λ n. one_if (n == g.number)) same ∙ one_itself g.number in
    omega (arith, there, all, first))

-- one whose number the next one hasn't has left
has_left : (f : WholeFile) (fs still : List WholeFile) → Survive (f ∷ fs) still
    → ((g : WholeFile) (rest : List WholeFile) → still ≡ g ∷ rest → f.number ≢ g.number) → Survive fs still
has_left f fs _ (stays _ g _ still one more) other = absurd (other g still refl (sym one.number))
has_left f fs _ (leaves _ _ _ more) other = more

numbered_behind : (f : WholeFile) (fs : List WholeFile) → AreNumbered (f ∷ fs) → AreNumbered fs
numbered_behind f fs once n = omega (arith, once n)

pub as_counted : (n : ℕ) (files : List WholeFile) → keyed number n files ≡ count_by (λ f. f.number == n) files
as_counted n files = is_sum_by (keyed number n) (λ f. one_if (f.number == n)) refl (λ _ _. refl) files

pub are_numbered : (files : List WholeFile) → ((n : ℕ) → count_by (λ f. f.number == n) files ≤ 1) → AreNumbered files
are_numbered files once n = omega (arith, as_counted n files, once n)

-- ---- the walk

pub walk_begins : (still files : List WholeFile) → Survive files still → AreNumbered files → IsWalkedTo still files 0
walk_begins still files survive once = record { reaches = omega arith; front = refl; survive = survive; once = once }

next_is : (files : List WholeFile) (i : ℕ) (f : WholeFile) → i < length files → f ≡ get_or files i f
    → drop i files ≡ f ∷ drop (i + 1) files
next_is files i f there is = drop_more files i f there ∙ ap (λ x. x ∷ drop (i + 1) files) (sym is)

first_is : (files : List WholeFile) (i : ℕ) (g : WholeFile) (rest : List WholeFile) → drop i files ≡ g ∷ rest
    → IsAt files i g
first_is files i g rest is =
    elim (cases_lt i (length files)) [
      | inl more ↦
          record { there = more; is = let here : g ≡ get_or files i g = cc (sym is ∙ drop_more files i g more) in here }
      | inr last ↦
          absurd (let never : g ∷ rest ≡ [] = sym is ∙ drop_all i files last in cc never)
    ]

module _ (still files : List WholeFile) (i : ℕ) (walk : IsWalkedTo still files i) where
  -- after the last there is none
  pub walk_ends : length still ≤ i → length files ≤ i → files ≡ still
  walk_ends last none_left = sym (take_all i files none_left) ∙ walk.front ∙ take_all i still last

  module _ (f : WholeFile) (there : i < length files) (is : f ≡ get_or files i f) where
    numbered : AreNumbered (f ∷ drop (i + 1) files)
    numbered = subst AreNumbered (next_is files i f there is) walk.once

    survivors : Survive (f ∷ drop (i + 1) files) (drop i still)
    survivors = subst (λ fs. Survive fs (drop i still)) (next_is files i f there is) walk.survive

    long : length (take i files) ≡ i
    long = length-take-le i files walk.reaches

    without_it : Survive (drop (i + 1) files) (drop i still) → IsWalkedTo still (remove files i) i
    without_it left =
        let behind : drop i (remove files i) ≡ drop (i + 1) files =
        (let next : suc i ≡ i + 1 = omega arith in drop_at (take i files) (drop (suc i) files) i long
        ∙ ap (λ n. drop n files) next) in
        record {
          reaches = omega (arith, length-remove files i there, there);
          front = take-append-le i (take i files) (drop (suc i) files) (omega (arith, long))
              ∙ take-take i i files (omega arith) ∙ walk.front;
          survive = subst (λ fs. Survive fs (drop i still)) (sym behind) left;
          once = subst AreNumbered (sym behind) (numbered_behind f (drop (i + 1) files) numbered);
        }

    -- one that has left is taken out
    pub walk_drops : ((g : WholeFile) → IsAt still i g → f.number ≢ g.number) → IsWalkedTo still (remove files i) i
    walk_drops other =
        without_it (has_left f (drop (i + 1) files) (drop i still) survivors
        (λ g rest is. other g (first_is still i g rest is)))

    module _ (g : WholeFile) (more : i < length still) (here : g ≡ get_or still i g) (same : f.number ≡ g.number) where
      found : IsFound f g (drop (i + 1) files) (drop (i + 1) still)
      found = is_found f g (drop (i + 1) files) (drop (i + 1) still)
          (subst (Survive (f ∷ drop (i + 1) files)) (next_is still i g more here) survivors) numbered same

      -- one that has the number of the next one is that
      pub walk_finds : IsStill f g
      walk_finds = found.one

      -- and becomes it
      pub walk_goes_on : IsWalkedTo still (set files i g) (i + 1)
      walk_goes_on =
          let behind : drop (i + 1) (set files i g) ≡ drop (i + 1) files =
          drop-set-lt (i + 1) files i g (omega arith) in
          record {
            reaches = omega (arith, length-set files i g, there);
            front = take_more_set files i g there ∙ (λ j. walk.front j ++ here j ∷ []) ∙ sym (take_more still i g more);
            survive = subst (λ fs. Survive fs (drop (i + 1) still)) (sym behind) found.rest;
            once = subst AreNumbered (sym behind) (numbered_behind f (drop (i + 1) files) numbered);
          }

-- ---- beside what the hub has

module _ (m : Memory) (s : SpoolContents) (files : List WholeFile) (has : HasFiles m s files) where
  pub as_many : length files ≡ length m.own.whole
  as_many = (beside_lengths (IsKept s) m.own.whole (own_rows m.own.name s) files has.mirrored).1

  module _ (place : ℕ) (k : KeptWhole) (there : place < length m.own.whole) (is : k ≡ get_or m.own.whole place k) where
    pub kept_at : BesideAt (IsKept s) (own_rows m.own.name s) files place k
    kept_at = beside_at (IsKept s) m.own.whole (own_rows m.own.name s) files place k has.mirrored there is
