use Rattle.std.proofs.Common.{List, ℕ, rules, subst, sym}
use Rattle.json.proofs.Printed.Decimals.{IsNumber-decimal}
use Rattle.json.specs.Print.{IsNumber}
use Rattle.njh_ctl.proofs.bodies.digits_of.Goals as goal

pub returns-clause-number : goal.returns-clause-number
returns-clause-number c =
    subst (λ (digits : List ℕ). IsNumber digits) (sym c.in_ok-text.ensures.ok) (IsNumber-decimal c.args.number (search rules))
