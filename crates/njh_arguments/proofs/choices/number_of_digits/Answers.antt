use Rattle.std.proofs.Common.{◌≡◌, ◌∙◌, ℕ, suc, List, [], ◌∷◌, Option, Some, None, ap, drop, drop-cons, refl, sym}
use Rattle.njh_arguments.specs.Choices.{number_behind}
use Rattle.njh_arguments.proofs.choices.number_of_digits.Goals as goal

behind_none : (digits : List ℕ) → number_behind None digits ≡ None
behind_none [] = refl
behind_none (digit ∷ digits) = behind_none digits

pub returns-in-None-clause-value : goal.returns-in-None-clause-value
returns-in-None-clause-value c =
    let digits = c.args.digits.now in
    let i = c.loop-digit.digit-index in
    let rest = drop (suc i) digits in
    sym (c.loop-digit.invariant.value ∙ ap (number_behind (Some c.loop-digit.number))
    (drop-cons digits i 0 c.loop-digit-test.true)
    ∙ ap (λ (o : Option ℕ). number_behind o rest) (sym c.longer_number.ensures.value ∙ c.in-None.is) ∙ behind_none rest)
