use Rattle.std.proofs.Common.{arith, refl}
use Rattle.njh_lines.proofs.ProtocolLaws.{let_same}
use Rattle.njh_lines.proofs.wires.let_leave.Goals as goal

pub returns-clause-counts : goal.returns-clause-counts
returns-clause-counts g c =
    let same = let_same _ _ c.args.wire.now c.let_leave.new.self _ refl c.let_leave.ensures.nobody
    c.let_leave.ensures.leaves in omega (arith, same.failures)

pub returns-clause-tally : goal.returns-clause-tally
returns-clause-tally g c =
    let same = let_same _ _ c.args.wire.now c.let_leave.new.self _ refl c.let_leave.ensures.nobody
    c.let_leave.ensures.leaves in same.tally

pub returns-clause-clock : goal.returns-clause-clock
returns-clause-clock g c =
    let same = let_same _ _ c.args.wire.now c.let_leave.new.self _ refl c.let_leave.ensures.nobody
    c.let_leave.ensures.leaves in same.clock
