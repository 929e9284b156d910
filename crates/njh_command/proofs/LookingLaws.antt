-- Which records of a file are looked at, and which are read.
use Rattle.std.proofs.Common.{◌≡◌, ◌<◌, ℕ, zero, suc, Bool, true, false, cond, ◌==◌, List, [], ◌∷◌, ◌++◌}
use Rattle.std.proofs.Common.{length, take, drop, Option, Some, None, refl, sym, ap, ◌∙◌, arith}
use Rattle.std.proofs.lemmas.Bool.{eqb-true}
use Rattle.njh_record.specs.Stored.{Stored}
use Rattle.njh_record.specs.declared.Kind.{Kind}
use Rattle.njh_record.specs.declared.Kind.TheVariants.{In, Out}
use Rattle.njh_header.specs.Redirecting.{destination_place, records_to_node, redirected_record}
use Rattle.njh_command.specs.code.Looking.{looked_at}
use Rattle.njh_command.proofs.UpTo.{redirected_up_to}

first_alone : (n : ℕ) → looked_at In (suc n) ≡ 1
first_alone n = by_test (suc n == 0) refl
  where
    by_test : (b : Bool) → (suc n == 0) ≡ b → cond {A = ℕ} b 0 1 ≡ 1
    by_test true e = absurd (let none : suc n ≡ 0 = eqb-true (suc n) 0 e in omega (arith, none))
    by_test false e = refl

-- only records that there are are looked at
pub looked_within : (kind : Kind) (n m : ℕ) → n < looked_at kind m → n < m
looked_within In n zero h = h
looked_within In n (suc m) h = omega (arith, h, first_alone m)
looked_within Out n m h = h

-- behind its first record a job's file names no destination
jobs_stay : (node : List ℕ) (before : ℕ) (records : List Stored)
    → records_to_node In node (Some before) records ≡ records
jobs_stay node before [] = refl
jobs_stay node before (r ∷ rs) = ap (λ rest. r ∷ rest) (jobs_stay node r.srcb rs)

all_from : (kind : Kind) (before : Option ℕ) (node : List ℕ) (records : List Stored)
    → records_to_node kind node before (take (length records) records) ++ drop (length records) records
    ≡ records_to_node kind node before records
all_from kind before node [] = refl
all_from kind before node (r ∷ rs) =
    ap (λ rest. redirected_record node (destination_place kind before r) r ∷ rest) (all_from kind (Some r.srcb) node rs)

-- so all are redirected
pub all_looked_at : (kind : Kind) (node : List ℕ) (records : List Stored)
    → redirected_up_to kind node (looked_at kind (length records)) records ≡ records_to_node kind node None records
all_looked_at In node [] = refl
all_looked_at In node (r ∷ rs) =
    ap (λ k. redirected_up_to In node k (r ∷ rs)) (first_alone (length rs))
    ∙ ap (λ rest. redirected_record node (destination_place In None r) r ∷ rest) (sym (jobs_stay node r.srcb rs))
all_looked_at Out node records = all_from Out None node records
