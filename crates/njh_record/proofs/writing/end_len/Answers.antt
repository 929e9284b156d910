use Rattle.std.proofs.Common.{◌≡◌, true, false, drop, sym, ◌∙◌, arith}
use Rattle.njh_record.specs.Writing.{begins_run}
use Rattle.njh_record.proofs.Runs.{NoRunBefore-more, NoRunBefore-at, NoRunBefore-limit}
use Rattle.njh_record.proofs.writing.end_len.Goals as goal

pub returns-then-begins_run-clause-front : goal.returns-then-begins_run-clause-front
returns-then-begins_run-clause-front c =
    let at : begins_run (drop c.loop-place.place c.args.bytes.now) ≡ true =
    rw (← c.split_at.ensures.back) (sym c.begins_run.ensures ∙ c.if-begins_run.true) in
    NoRunBefore-at _ _ (omega arith) at c.loop-place.invariant

pub loop-place-preserved : goal.loop-place-preserved
loop-place-preserved c =
    let past : begins_run (drop c.loop-place.place c.args.bytes.now) ≡ false =
    rw (← c.split_at.ensures.back) (sym c.begins_run.ensures ∙ c.if-begins_run.false) in
    NoRunBefore-more _ _ (omega arith) past c.loop-place.invariant

pub returns-clause-front : goal.returns-clause-front
returns-clause-front c = NoRunBefore-limit _ _ _ c.requires.limit (omega arith) (omega arith) c.loop-place.invariant
