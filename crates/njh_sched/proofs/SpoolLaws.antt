-- A customer's part of the spool that moves on.
use Rattle.std.proofs.Common.{◌≡◌, ◌<◌, ℕ, List, length, slice_set, sym, ap, subst, ◌∙◌}
use Rattle.std.proofs.lemmas.List.{set-get_or, set-set}
use Rattle.std.proofs.Math.ListN.{length-set}
use Rattle.njh_spool.specs.CustomerSpool.{CustomerSpool}
use Rattle.njh_spool.specs.Spools.{no_spool, spool_at}

pub unmoved : (c : ℕ) (old : List CustomerSpool) → old ≡ slice_set old c (spool_at c old)
unmoved c old = sym (set-get_or old c no_spool)

-- it moves again
pub moved_on : (c : ℕ) (old now new : List CustomerSpool) → now ≡ slice_set old c (spool_at c now)
    → new ≡ slice_set now c (spool_at c new)
    → new ≡ slice_set old c (spool_at c new)
moved_on c old now new first then =
    then ∙ ap (λ m. slice_set m c (spool_at c new)) first ∙ set-set old c (spool_at c now) (spool_at c new)

-- there are as many customers as before
pub as_long : (c : ℕ) (old new : List CustomerSpool) → c < length old → new ≡ slice_set old c (spool_at c new)
    → c < length new
as_long c old new h e = subst (λ n. c < n) (sym (ap length e ∙ simp length-set)) h
