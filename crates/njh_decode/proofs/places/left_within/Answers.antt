use Rattle.std.proofs.Common.{◌≡◌, ℕ, ◌+◌, ◌-◌, suc, sym, ap, ◌∙◌, arith}
use Rattle.njh_decode.specs.Frames.{left_within}
use Rattle.njh_decode.proofs.LineLaws.{left-none, left-some}
use Rattle.njh_decode.proofs.places.left_within.Goals as goal

pub loop-preserved : goal.loop-preserved
loop-preserved c =
    let k = c.args.count - (c.loop.counter + 1) in
    let e : c.args.count - c.loop.counter ≡ suc k = omega arith in
    sym (left-some k c.loop.rest.now c.in-Some.after.now (sym (rw c.in-Some.is at c.behind_record.ensures)))
    ∙ ap (λ (n : ℕ). left_within n c.loop.rest.now) (sym e) ∙ c.loop.invariant

pub returns-in-None : goal.returns-in-None
returns-in-None c =
    sym (left-none (c.args.count - c.loop.counter) c.loop.rest.now (sym (rw c.in-None.is at c.behind_record.ensures)))
    ∙ c.loop.invariant
