-- Quotas against what is used of them, added over customers.
use Rattle.std.proofs.Common.{ℕ, zero, suc, ◌+◌, ◌<◌, ◌≤◌, List, [], ◌∷◌, length, get_or, sum_by, arith}
use Rattle.std.specs.Prelude.{All}
use Rattle.std.proofs.lemmas.List.Elements.{All-head, All-tail}
use Rattle.std.proofs.lemmas.List.Sums.{sum_by-cons}
use Rattle.njh_spool.specs.CustomerSpool.{CustomerSpool, used_blocks}
use Rattle.njh_spool.specs.Spools.{no_spool}

abbrev pub IsWithin : CustomerSpool → Type 0
IsWithin s = used_blocks s ≤ s.quota

sum_by-used : (spools : List CustomerSpool) → All IsWithin spools
    → sum_by used_blocks spools ≤ sum_by (λ (s : CustomerSpool). s.quota) spools
sum_by-used [] within_all = omega arith
sum_by-used (s ∷ spools) within_all =
    omega (
      arith,
      sum_by-cons used_blocks s spools,
      sum_by-cons (λ (t : CustomerSpool). t.quota) s spools,
      All-head IsWithin s spools
          within_all,
      sum_by-used spools (All-tail IsWithin s spools within_all),
    )

-- what a customer's quota leaves it, all quotas together leave
pub room_left : (spools : List CustomerSpool) (c blocks : ℕ) → All IsWithin spools → c < length spools →
    used_blocks (get_or spools c no_spool) + blocks ≤ (get_or spools c no_spool).quota
    → sum_by used_blocks spools + blocks ≤ sum_by
    (λ (s : CustomerSpool). s.quota) spools
room_left [] c blocks within_all within room = absurd (omega arith)
room_left (s ∷ spools) zero blocks within_all within room =
    omega (
      arith,
      sum_by-cons used_blocks s spools,
      sum_by-cons (λ (t : CustomerSpool). t.quota) s spools,
      sum_by-used spools
          (All-tail IsWithin s spools within_all),
    )
room_left (s ∷ spools) (suc c) blocks within_all within room =
    omega (
      arith,
      sum_by-cons used_blocks s spools,
      sum_by-cons (λ (t : CustomerSpool). t.quota) s spools,
      All-head IsWithin s spools
          within_all,
      room_left spools c blocks (All-tail IsWithin s spools within_all) (omega arith) room,
    )

-- nor does the capacity run out, if it is at least all quotas
pub room_within : (spools : List CustomerSpool) (capacity c blocks : ℕ) → All IsWithin spools
    → sum_by (λ (s : CustomerSpool). s.quota) spools ≤ capacity → c < length spools
    → used_blocks (get_or spools c no_spool) + blocks ≤ (get_or spools c no_spool).quota
    → sum_by used_blocks spools + blocks ≤ capacity
room_within spools capacity c blocks within_all quotas within room =
    omega (arith, room_left spools c blocks within_all within room)
