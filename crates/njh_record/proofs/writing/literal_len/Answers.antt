use Rattle.std.proofs.Common.{◌≡◌, true, drop, sym, ◌∙◌, arith}
use Rattle.njh_record.specs.Writing.{begins_run}
use Rattle.njh_record.specs.code.Written.{NoRunBefore}
use Rattle.njh_record.proofs.Runs.{NoRunBefore-then, NoRunBefore-at, NoRunBefore-limit}
use Rattle.njh_record.proofs.writing.literal_len.Goals as goal

pub returns-then-begins_run-clause-front : goal.returns-then-begins_run-clause-front
returns-then-begins_run-clause-front c =
    let at : begins_run (drop c.loop-place.place c.args.bytes.now) ≡ true =
    rw (← c.split_at.ensures.back) (sym c.begins_run.ensures ∙ c.if-begins_run.true) in
    NoRunBefore-at _ _ (omega arith) at c.loop-place.invariant.passed

pub loop-place-preserved : goal.loop-place-preserved
loop-place-preserved c =
    let rest : NoRunBefore (drop c.loop-place.place c.args.bytes.now) c.passed_len-place-in-loop-place.result =
    rw (← c.split_at.ensures.back) c.passed_len-place-in-loop-place.ensures.passed in
    record {
      within = omega (arith, c.passed_len-place-in-loop-place.ensures.within, c.split_at.ensures.back_len);
      passed = NoRunBefore-then _ _ _ c.loop-place.invariant.passed rest;
    }

pub returns-clause-front : goal.returns-clause-front
returns-clause-front c = NoRunBefore-limit _ _ _ c.min-limit.ensures (omega arith) c.loop-place.invariant.within
    c.loop-place.invariant.passed
