use Rattle.std.proofs.Common.{◌≡◌, ◌+◌, [], refl, length-drop, true, false, length, drop, ap, ◌∙◌, arith, rules}
use Rattle.njh_io.specs.Lines.{lines_of}
use Rattle.njh_replay.specs.Script.{can_stand}
use Rattle.njh_replay.proofs.Lines.{IsNext-from, Reads-more, Reads-bad, Reads-all}
use Rattle.njh_replay.proofs.script.events_of.Goals as goal

pub returns-then-not-branch-clause-bad : goal.returns-then-not-branch-clause-bad
returns-then-not-branch-clause-bad c = λ number same.
    let tables = c.args.tables.now in
    let line = c.in-Some.line.now in
    let loop = c.loop-line in
    let next = IsNext-from (lines_of c.args.text.now) loop.number line (lines_of c.in-Some.after.now)
    (loop.invariant.left ∙ c.in-Some.ensures.lines) in
    let bad : can_stand tables line ≡ false = search rules in
    let first = Reads-bad tables (lines_of c.args.text.now) loop.number _ line loop.invariant.reads next.within next.at
    bad in
    let counted : loop.number + 1 ≡ number = cc same in
    rw counted at first

pub loop-line-preserved : goal.loop-line-preserved
loop-line-preserved c =
    let tables = c.args.tables.now in
    let line = c.in-Some.line.now in
    let loop = c.loop-line in
    let next = IsNext-from (lines_of c.args.text.now) loop.number line (lines_of c.in-Some.after.now)
    (loop.invariant.left ∙ c.in-Some.ensures.lines) in
    let good : can_stand tables line ≡ true = search rules in
    record {
      reads = rw c.in_ok-add_event.ensures.added
          (Reads-more tables (lines_of c.args.text.now) loop.number _ _ line loop.invariant.reads next.within next.at
          good refl);
      named = search rules;
      within = omega (arith, next.within);
      left = next.left;
      start = c.start_of-start.ensures.start;
      few = omega (arith, c.in-Some.ensures.shorter);
    }

pub returns-clause-events : goal.returns-clause-events
returns-clause-events c =
    let lines = lines_of c.args.text.now in
    let none : drop c.loop-line.number lines ≡ [] = c.loop-line.invariant.left ∙ c.in_default.ensures.lines in
    Reads-all c.args.tables.now lines c.loop-line.number _ c.loop-line.invariant.reads
    (omega (arith, c.loop-line.invariant.within, ap length none, length-drop c.loop-line.number lines))
