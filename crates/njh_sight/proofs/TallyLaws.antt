-- One answer more in front of a block.
use Rattle.std.proofs.Common.{◌≡◌, ℕ, zero, suc, ◌+◌, ◌-◌, ◌*◌, ◌<◌, Bool, true, false, List, Option, refl, sym}
use Rattle.std.proofs.Common.{ap, ◌∙◌, arith}
use Rattle.njh_sight.specs.Steps.{byte_at}
use Rattle.njh_sight.specs.Tally.{answer_counted, answers_counted, is_answer}
use Rattle.njh_sight.specs.declared.tally.Answering.{Answering}
use Rattle.njh_sight.specs.declared.tally.Tally.{Tally}

-- none may come any more
pub none_left : (left : ℕ) (frame : List ℕ) (coming : List (Option ℕ)) (known : Answering) (t : Tally) → left ≡ 0
    → answers_counted left frame coming known t ≡ t
none_left zero frame coming known t none = refl
none_left (suc left) frame coming known t none = absurd (omega (arith, none))

-- none comes any more
pub none_more : (left : ℕ) (frame : List ℕ) (coming : List (Option ℕ)) (known : Answering) (t : Tally) → 0 < left
    → is_answer (byte_at frame (5 + 3 * (32 - left))) ≡ false → answers_counted left frame coming known t ≡ t
none_more zero frame coming known t there none = absurd (omega (arith, there))
none_more (suc left) frame coming known t there none =
    let place = 5 + 3 * (32 - suc left) in
    ap (λ (b : Bool). elim (b) [
      | true ↦ answers_counted left frame coming known
          (answer_counted (byte_at frame place) (byte_at frame (place + 1)) coming known t)
      | false ↦ t
    ]) none

-- one comes
pub one_more : (left : ℕ) (frame : List ℕ) (coming : List (Option ℕ)) (known : Answering) (t : Tally) → 0 < left
    → is_answer (byte_at frame (5 + 3 * (32 - left))) ≡ true
    → answers_counted left frame coming known t
    ≡ answers_counted (left - 1) frame coming known (answer_counted (byte_at frame (5 + 3 * (32 - left)))
    (byte_at frame (5 + 3 * (32 - left) + 1)) coming known t)
one_more zero frame coming known t there comes = absurd (omega (arith, there))
one_more (suc left) frame coming known t there comes =
    let place = 5 + 3 * (32 - suc left) in
    let next = answer_counted (byte_at frame place) (byte_at frame (place + 1)) coming known t in
    let same : suc left - 1 ≡ left = omega arith in
    ap (λ (b : Bool). elim (b) [
      | true ↦ answers_counted left frame coming known next
      | false ↦ t
    ]) comes
    ∙ sym (ap (λ (n : ℕ). answers_counted n frame coming known next) same)
