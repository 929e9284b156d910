use Rattle.std.{proofs.Common.{◌+◌, ◌<◌, ap, slice_get, subst, sym, ◌∙◌, IfSome}, specs.Option.IsSomeAnd}
use Rattle.njh_keeper.specs.code.Swept.{HasSweeps}
use Rattle.njh_keeper.proofs.SweptLaws.{get_behind, has_before}
use Rattle.njh_keeper.proofs.sweeping.next_to_sweep.Goals as goal

pub returns-in-Some-clause-has : goal.returns-in-Some-clause-has
returns-in-Some-clause-has c =
    let at = c.in-Some.place in
    let owns = c.args.customers.now in
    subst (λ o. IsSomeAnd o HasSweeps)
    (ap (λ xs. slice_get xs at) c.split_at.ensures.back ∙ get_behind c.min.result owns at
    ∙ ap (λ n. slice_get owns (n + at)) (sym c.split_at.ensures.front_len)) c.in-Some.ensures.has

pub returns-in-None-clause-has : goal.returns-in-None-clause-has
returns-in-None-clause-has c =
    has_before c.first_to_sweep-in-None.result c.min.result c.args.customers.now
    (subst (λ n. IfSome c.first_to_sweep-in-None.result (λ place. place < n)) c.split_at.ensures.front_len
    c.first_to_sweep-in-None.ensures.within)
    (subst (λ xs. IfSome c.first_to_sweep-in-None.result (λ place. IsSomeAnd (slice_get xs place) HasSweeps))
    c.split_at.ensures.front c.first_to_sweep-in-None.ensures.has)
