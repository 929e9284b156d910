-- Sources one after the other.
use Rattle.std.proofs.Common.{◌≡◌, ◌<◌, ℕ, zero, suc, ◌+◌, Bool, true, false, List, [], ◌∷◌, ◌++◌, length, drop, map}
use Rattle.std.proofs.Common.{replicate, Some, None, slice_get, find, cond, refl, sym, ap, ◌∙◌, not-suc-le-zero}
use Rattle.std.proofs.Common.{le_of_suc-le-suc, add-one}
use Rattle.njh_block.specs.Writing.{Writing}
use Rattle.njh_spool.specs.CustomerSpool.{CustomerSpool, WholeFile}
use Rattle.njh_sched.specs.NextBlock.{Outlet, Source, Filling, filling, after_source, after_sources, streams}
use Rattle.njh_sched.specs.code.Filling.{filling_where}

pub stream_at : (place : ℕ) → place < 8 → slice_get streams place ≡ Some place
unfolding streams
stream_at zero h = refl
stream_at (suc zero) h = refl
stream_at (suc (suc zero)) h = refl
stream_at (suc (suc (suc zero))) h = refl
stream_at (suc (suc (suc (suc zero)))) h = refl
stream_at (suc (suc (suc (suc (suc zero))))) h = refl
stream_at (suc (suc (suc (suc (suc (suc zero)))))) h = refl
stream_at (suc (suc (suc (suc (suc (suc (suc zero))))))) h = refl
stream_at (suc (suc (suc (suc (suc (suc (suc (suc n)))))))) h =
    absurd (not-suc-le-zero (le_of_suc-le-suc (le_of_suc-le-suc (le_of_suc-le-suc (le_of_suc-le-suc
    (le_of_suc-le-suc (le_of_suc-le-suc (le_of_suc-le-suc (le_of_suc-le-suc h)))))))))

pub no_streams : (place : ℕ) → place ≡ 8 → drop place streams ≡ []
unfolding streams
no_streams place e = ap (λ n. drop n streams) e

-- the element at an index, and those behind it
pub drop_at : (xs : List ℕ) (i x : ℕ) → slice_get xs i ≡ Some x → drop i xs ≡ x ∷ drop (i + 1) xs
drop_at xs i x h = at_suc xs i h ∙ ap (λ n. x ∷ drop n xs) (sym (add-one i))
  where
    at_suc : (ys : List ℕ) (j : ℕ) → slice_get ys j ≡ Some x → drop j ys ≡ x ∷ drop (suc j) ys
    at_suc [] j e = absurd (cc e)
    at_suc (y ∷ ys) zero e = let same : y ≡ x = cc e in ap (λ z. z ∷ ys) same
    at_suc (y ∷ ys) (suc j) e = at_suc ys j e

-- looked for among the streams from one on
module _ (p : ℕ → Bool) (f : ℕ → ℕ) where
  pub turn_found : (place k : ℕ) → place < 8 → k ≡ f place → p k ≡ true → find p (map f (drop place streams)) ≡ Some k
  turn_found place k h at e =
      ap (λ more. find p (map f more)) (drop_at streams place place (stream_at place h))
      ∙ ap (λ b. cond b (Some (f place)) (find p (map f (drop (place + 1) streams)))) (ap p (sym at) ∙ e)
      ∙ ap Some (sym at)

  pub turn_passed : (place k : ℕ) → place < 8 → k ≡ f place → p k ≡ false
      → find p (map f (drop place streams)) ≡ find p (map f (drop (place + 1) streams))
  turn_passed place k h at e =
      ap (λ more. find p (map f more)) (drop_at streams place place (stream_at place h))
      ∙ ap (λ b. cond b (Some (f place)) (find p (map f (drop (place + 1) streams)))) (ap p (sym at) ∙ e)

  pub no_turn : (place : ℕ) → place ≡ 8 → find p (map f (drop place streams)) ≡ None
  no_turn place e = ap (λ more. find p (map f more)) (no_streams place e)

module _ (goes : WholeFile → Bool) where
  pub nothing_left : (x : Filling) → after_sources goes [] x ≡ x
  unfolding after_sources
  nothing_left x = refl

  pub one_more : (source : Source) (more : List Source) (x y : Filling) → after_source goes source x ≡ y
      → after_sources goes (source ∷ more) x ≡ after_sources goes more y
  unfolding after_sources
  one_more source more x y e = ap (after_sources goes more) e

  pub one_behind_others : (first then : List Source) (x : Filling)
      → after_sources goes (first ++ then) x ≡ after_sources goes then (after_sources goes first x)
  unfolding after_sources
  one_behind_others [] then x = refl
  one_behind_others (source ∷ more) then x = one_behind_others more then (after_source goes source x)

  -- nothing more comes where the block is full
  pub full_stays : (more : List Source) (w : Writing) (o : Outlet) (s : CustomerSpool)
      → after_sources goes more (filling_where false w o s) ≡ filling_where false w o s
  unfolding after_sources after_source
  full_stays [] w o s = refl
  full_stays (source ∷ more) w o s = full_stays more w o s

  -- the first of those that wait in a queue
  pub first_of_queue : {X : Type 0} (xs : List X) (a : X) (source : Source) (x y : Filling) → slice_get xs 0 ≡ Some a
      → after_source goes source x ≡ y
      → after_sources goes (replicate (length xs) source) x
      ≡ after_sources goes (replicate (length (drop 1 xs)) source) y
  first_of_queue [] a source x y h e = absurd (cc h)
  first_of_queue (b ∷ xs) a source x y h e = one_more source (replicate (length xs) source) x y e

  pub empty_queue : {X : Type 0} (xs : List X) (source : Source) (x : Filling) → slice_get xs 0 ≡ None
      → after_sources goes (replicate (length xs) source) x ≡ x
  empty_queue [] source x h = nothing_left x
  empty_queue (b ∷ xs) source x h = absurd (cc h)

  -- the streams of a list, each a source
  module _ (of : ℕ → Source) (ks : List ℕ) where
    -- one stream more, and it had room or nothing to send
    pub stream_went_on :
        (i k : ℕ) (b : Bool) (x : Filling) (w : Writing) (o : Outlet) (s : CustomerSpool) → slice_get ks i ≡ Some k
        → b ≡ true
        → after_source goes (of k) x ≡ filling_where b w o s
        → after_sources goes (map of (drop i ks)) x ≡ after_sources goes (map of (drop (i + 1) ks)) (filling w o s)
    stream_went_on i k b x w o s at room e =
        ap (λ more. after_sources goes (map of more) x) (drop_at ks i k at)
        ∙ one_more (of k) (map of (drop (i + 1) ks)) x (filling w o s) (e ∙ ap (λ v. filling_where v w o s) room)

    -- one stream more, and it had no room
    pub stream_stopped :
        (i k : ℕ) (b : Bool) (x : Filling) (w : Writing) (o : Outlet) (s : CustomerSpool) → slice_get ks i ≡ Some k
        → b ≡ false
        → after_source goes (of k) x ≡ filling_where b w o s
        → after_sources goes (map of (drop i ks)) x ≡ filling_where false w o s
    stream_stopped i k b x w o s at room e =
        ap (λ more. after_sources goes (map of more) x) (drop_at ks i k at)
        ∙ one_more (of k) (map of (drop (i + 1) ks)) x (filling_where false w o s)
        (e ∙ ap (λ v. filling_where v w o s) room)
        ∙ full_stays (map of (drop (i + 1) ks)) w o s

    pub streams_done : (i : ℕ) (x : Filling) → drop i ks ≡ [] → after_sources goes (map of (drop i ks)) x ≡ x
    streams_done i x e = ap (λ more. after_sources goes (map of more) x) e ∙ nothing_left x
