use Rattle.std.proofs.Common.{◌∙◌, false, sym, true}
use Rattle.njh_anteroom.proofs.MemoryLaws.{found_none, found_on}
use Rattle.njh_anteroom.proofs.memory.found.Goals as goal

pub returns-then-is_of : goal.returns-then-is_of
returns-then-is_of c =
    sym (found_on c.args.number c.args.all.now c.loop-remembered.remembered-index _ true c.loop-remembered-test.true
    (sym c.if-is_of.true ∙ c.is_of.ensures))
    ∙ c.loop-remembered.invariant

pub loop-remembered-preserved : goal.loop-remembered-preserved
loop-remembered-preserved c =
    sym (found_on c.args.number c.args.all.now c.loop-remembered.remembered-index _ false c.loop-remembered-test.true
    (sym c.if-is_of.false ∙ c.is_of.ensures))
    ∙ c.loop-remembered.invariant

pub returns : goal.returns
returns c =
    sym (found_none c.args.number c.args.all.now c.loop-remembered.remembered-index c.loop-remembered-test.false)
    ∙ c.loop-remembered.invariant
