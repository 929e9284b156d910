-- A block takes the longest front of what may come that has room.
use Rattle.std.proofs.Common.{◌≡◌, ℕ, Bool, true, false, List, [], ◌∷◌, ◌++◌, Option, Some, None, refl, ap, sym, subst}
use Rattle.std.proofs.Common.{◌∙◌}
use Rattle.njh_block.specs.Writing.{Writing, has_room, with_last}
use Rattle.njh_spool.specs.CustomerSpool.{CustomerSpool, WholeFile}
use Rattle.njh_sched.specs.NextBlock.{Outlet, Candidate, Filling, Source, candidate, filling, added_where}
use Rattle.njh_sched.specs.NextBlock.{after_candidate}
use Rattle.njh_sched.specs.NextBlock.{after_source, after_sources}
use Rattle.njh_sched.specs.Fronts.{TakesLongestFront, LongestFrontsFill, candidates, candidate_first, HaveRoom}
use Rattle.njh_sched.specs.Fronts.{with_items}

abbrev full_with : Writing → Outlet → CustomerSpool → Filling
full_with w o s = record { block = w; outlet = o; spool = s; full = true }

-- a block that is full stays as it is
full_stays : (goes : WholeFile → Bool) (sources : List Source) (w : Writing) (o : Outlet) (s : CustomerSpool) →
    after_sources goes sources (full_with w o s) ≡ full_with w o s
unfolding after_sources after_source
full_stays goes [] w o s = refl
full_stays goes (source ∷ more) w o s = full_stays goes more w o s

-- a candidate that has room comes before the front of those behind it
with_first : {later : List Candidate} {w : Writing} {after : Filling} (c : Candidate) → has_room w c.item ≡ true →
    TakesLongestFront later (with_last c.item w) c.outlet c.spool after → (o : Outlet) (s : CustomerSpool) →
    TakesLongestFront (c ∷ later) w o s after
with_first c room t o s = record {
  front = c ∷ t.front;
  behind = t.behind;
  are = ap (λ (cs : List Candidate). c ∷ cs) t.are;
  fits = (room, t.fits);
  next = t.next;
  block = t.block;
  outlet = t.outlet;
  spool = t.spool;
}

module _ (goes : WholeFile → Bool) where
  -- so many of the sources, from any block
  abbrev Fill : List Source → Type 0
  Fill sources = (w : Writing) (o : Outlet) (s : CustomerSpool) →
      TakesLongestFront (candidates goes sources o s) w o s (after_sources goes sources (filling w o s))

  by_room : (b : Bool) (c : Candidate) (more : List Source) (w : Writing) (o : Outlet) (s : CustomerSpool) →
      has_room w c.item ≡ b → Fill more →
      TakesLongestFront (c ∷ candidates goes more c.outlet c.spool) w o s
      (after_sources goes more (added_where b c (filling w o s)))
  by_room true c more w o s room later = with_first c room (later (with_last c.item w) c.outlet c.spool) o s
  by_room false c more w o s room later =
      subst (λ (y : Filling). TakesLongestFront (c ∷ candidates goes more c.outlet c.spool) w o s y)
      (sym (full_stays goes more w o s)) (record {
        front = [];
        behind = c ∷ candidates goes more c.outlet c.spool;
        are = refl;
        fits = tt;
        next = room;
        block = refl;
        outlet = refl;
        spool = refl;
      })

  by_candidate : (a : Option Candidate) (more : List Source) (w : Writing) (o : Outlet) (s : CustomerSpool)
      → Fill more →
      TakesLongestFront (candidate_first a (λ outlet spool. candidates goes more outlet spool) o s) w o s
      (after_sources goes more (after_candidate a (filling w o s)))
  by_candidate None more w o s later = later w o s
  by_candidate (Some c) more w o s later = by_room (has_room w c.item) c more w o s refl later

  pub fills : (sources : List Source) → Fill sources
  unfolding after_sources after_source
  fills [] w o s = record {
    front = [];
    behind = [];
    are = refl;
    fits = tt;
    next = tt;
    block = refl;
    outlet = refl;
    spool = refl;
  }
  fills (source ∷ more) w o s = by_candidate (candidate goes source o s) more w o s (fills more)

pub longest_fronts_fill : LongestFrontsFill
longest_fronts_fill goes sources w o s = fills goes sources w o s
