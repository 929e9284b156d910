use Rattle.std.proofs.Common.{◌≤◌, ◌^◌, arith, lit<}
use Rattle.std.proofs.Math.Nat.{pow-le-pow_right}
use Rattle.njh_request.proofs.numbers.value_of.Goals as goal

pub overflow_mul-value : goal.overflow_mul-value
overflow_mul-value c =
    let few : c.loop-digit.digit-index ≤ 17 = omega arith in
    let small : 10 ^ c.loop-digit.digit-index ≤ 10 ^ 17 = pow-le-pow_right {n = 10} (lit< tt) few in
    omega (arith, c.loop-digit.invariant.small)

pub overflow_add-value : goal.overflow_add-value
overflow_add-value c =
    let few : c.loop-digit.digit-index ≤ 17 = omega arith in
    let small : 10 ^ c.loop-digit.digit-index ≤ 10 ^ 17 = pow-le-pow_right {n = 10} (lit< tt) few in
    omega (arith, c.loop-digit.invariant.small, c.from.ensures)
