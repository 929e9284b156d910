-- Fields without the blanks behind them.
use Rattle.std.proofs.Common.{ℕ, suc, ◌≤◌, Bool, true, false, ◌==◌, cond, List, [], ◌∷◌, length, arith}
use Rattle.njh_ebcdic.specs.Names.{without_end_blanks}

one_more : (b : ℕ) (blank : Bool) (rest : List ℕ) (bytes : List ℕ) → length rest ≤ length bytes
    → length {A = ℕ} (elim rest as (λ _. List ℕ) [ [] ↦ cond blank [] (b ∷ []) | r ∷ rs ↦ b ∷ r ∷ rs ])
    ≤ suc (length bytes)
one_more b true [] bytes shorter = omega arith
one_more b false [] bytes shorter = omega arith
one_more b true (r ∷ rs) bytes shorter = omega arith
one_more b false (r ∷ rs) bytes shorter = omega arith

pub length-trimmed : (bytes : List ℕ) → length (without_end_blanks bytes) ≤ length bytes
length-trimmed [] = omega arith
length-trimmed (b ∷ bytes) = one_more b (b == 0x40) (without_end_blanks bytes) bytes (length-trimmed bytes)
