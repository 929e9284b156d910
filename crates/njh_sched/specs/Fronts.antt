-- The longest front of what may come that a block has room for.
use Rattle.std.specs.Prelude.{◌≡◌, ℕ, Bool, true, false, List, [], ◌∷◌, ◌++◌, Option, Some, None, ⊤}
use Rattle.njh_block.specs.Writing.{Writing, has_room, with_last}
use Rattle.njh_spool.specs.CustomerSpool.{CustomerSpool, WholeFile}
use Rattle.njh_sched.specs.NextBlock.{Outlet, Candidate, Filling, Source, candidate, filling, after_sources}

-- a candidate, if there is one, and then those of the sources behind it
abbrev pub candidate_first : Option Candidate → (Outlet → CustomerSpool → List Candidate) → Outlet → CustomerSpool
    → List Candidate
candidate_first None later o s = later o s
candidate_first (Some c) later o s = c ∷ later c.outlet c.spool

-- All that may come of some sources, in order, whether it has room or not: each in the state that those before it
-- leave.
abbrev pub candidates : (WholeFile → Bool) → List Source → Outlet → CustomerSpool → List Candidate
candidates goes [] o s = []
candidates goes (source ∷ more) o s =
    candidate_first (candidate goes source o s) (λ outlet spool. candidates goes more outlet spool) o s

-- a block with the items of some candidates behind its own
abbrev pub with_items : List Candidate → Writing → Writing
with_items [] w = w
with_items (c ∷ more) w = with_items more (with_last c.item w)

-- each has room behind those before it
abbrev pub HaveRoom : List Candidate → Writing → Type 0
HaveRoom [] w = ⊤
HaveRoom (c ∷ more) w = (has_room w c.item ≡ true) × HaveRoom more (with_last c.item w)

-- the next one, if there is one, has no room
abbrev pub NextHasNone : List Candidate → Writing → Type 0
NextHasNone [] w = ⊤
NextHasNone (c ∷ more) w = has_room w c.item ≡ false

-- the outlet and the spool that the last of some candidates leaves
abbrev pub outlet_behind : List Candidate → Outlet → Outlet
outlet_behind [] o = o
outlet_behind (c ∷ more) o = outlet_behind more c.outlet

abbrev pub spool_behind : List Candidate → CustomerSpool → CustomerSpool
spool_behind [] s = s
spool_behind (c ∷ more) s = spool_behind more c.spool

-- Of some candidates a block took the longest front that has room: with the next one it wouldn't fit.
pub record TakesLongestFront (all : List Candidate) (w : Writing) (o : Outlet) (s : CustomerSpool) (after : Filling)
    : Type 0 where
  pub front : List Candidate
  pub behind : List Candidate
  pub are : all ≡ front ++ behind
  pub fits : HaveRoom front w
  pub next : NextHasNone behind after.block
  pub block : after.block ≡ with_items front w
  pub outlet : after.outlet ≡ outlet_behind front o
  pub spool : after.spool ≡ spool_behind front s

abbrev pub LongestFrontsFill : Type 0
LongestFrontsFill =
    (goes : WholeFile → Bool) (sources : List Source) (w : Writing) (o : Outlet) (s : CustomerSpool) →
    TakesLongestFront (candidates goes sources o s) w o s (after_sources goes sources (filling w o s))
