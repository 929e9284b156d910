-- One customer more, or one line more, of a sum.
use Rattle.std.proofs.Common.{◌≡◌, ℕ, ◌+◌, cond, arith}
use Rattle.std.proofs.lemmas.List.FromFn.{sum_by-map-range_with_len_more}
use Rattle.njh_hub.specs.WholeHub.{Part}
use Rattle.njh_answer.specs.Lines.{line_where}
use Rattle.njh_answer.specs.Status.{is_line_up, sum_to, up_to}

pub sum_more : (amount : ℕ → ℕ) (n : ℕ) → sum_to amount (n + 1) ≡ sum_to amount n + amount n
sum_more amount n = sum_by-map-range_with_len_more (λ x. x) amount 0 n n (omega arith)

pub up_more : (p : Part) (n : ℕ) → up_to p (n + 1) ≡ up_to p n + cond (is_line_up (line_where n p)) 1 0
up_more p n = sum_more (λ (index : ℕ). cond (is_line_up (line_where index p)) 1 0) n
