use Rattle.std.proofs.Common.{◌≡◌, ◌<◌, ℕ, length, slice_get, option_map, Some, refl, sym, ap, subst, ◌∙◌, arith}
use Rattle.njh_spool.specs.Headers.{summary}
use Rattle.njh_spool.specs.Spools.{spool_at}
use Rattle.njh_table.specs.declared.LineId.{LineId}
use Rattle.njh_sched.specs.code.FileCursor.{HasPassed, files_of, goes_of, other}
use Rattle.njh_sched.proofs.CursorLaws.{known, one_passed, other_passed}
use Rattle.njh_sched.proofs.cursor.Cursor.first_likely.Goals as goal
use Rattle.njh_sched.proofs.cursor.Cursor.first_likely.Goals.{After-is_likely}

-- the file at the index
seen : (c : After-is_likely) → option_map summary
    (slice_get (files_of c.args.self.now c.args.spool.now).whole c.loop-index.index)
    ≡ Some c.summary_at-file.result
seen c =
    subst (λ (m : ℕ). option_map summary (slice_get (spool_at m c.args.spool.now).whole c.loop-index.index)
    ≡ Some c.summary_at-file.result)
    (ap (λ (i : LineId). i.customer) c.id-customer.ensures) c.summary_at-file.ensures

inside : (c : After-is_likely) → c.loop-index.index < length (files_of c.args.self.now c.args.spool.now).whole
inside c =
    let there : c.loop-index.index < length (spool_at c.id-customer.result.customer c.args.spool.now).whole
    = omega (arith, c.files-files.ensures) in
    subst (λ (m : ℕ). c.loop-index.index < length (spool_at m c.args.spool.now).whole)
    (ap (λ (i : LineId). i.customer) c.id-customer.ensures) there

others_are : (c : After-is_likely)
    → HasPassed (goes_of c.args.self.now) (other c.args.kind) c.pass_where.new.others
    (files_of c.args.self.now c.args.spool.now)
others_are c =
    subst (λ n. HasPassed (goes_of c.args.self.now) (other c.args.kind) n (files_of c.args.self.now c.args.spool.now))
    (sym c.pass_where.ensures)
    (other_passed (goes_of c.args.self.now) c.args.kind (files_of c.args.self.now c.args.spool.now) c.loop-index.index
    c.loop-index.others c.summary_at-file.result _ refl (inside c) (seen c) c.loop-index.invariant.others)

pub returns-then-is_likely-clause-others : goal.returns-then-is_likely-clause-others
returns-then-is_likely-clause-others c = others_are (goal.at.returns-then-is_likely-clause-others c).After-is_likely

pub loop-index-preserved : goal.loop-index-preserved
loop-index-preserved c = record {
  passed = one_passed (goes_of c.args.self.now) c.args.kind (files_of c.args.self.now c.args.spool.now)
      c.loop-index.index
      (inside (goal.at.loop-index-preserved c).After-is_likely) c.loop-index.invariant.passed
      (sym (known c.args.self.now c.args.kind c.args.spool.now c.loop-index.index c.summary_at-file.result
      (seen (goal.at.loop-index-preserved c).After-is_likely)) ∙ c.is_likely.ensures c.if-is_likely.false);
  others = others_are (goal.at.loop-index-preserved c).After-is_likely;
  onward = omega (arith, c.loop-index.invariant.onward);
}
