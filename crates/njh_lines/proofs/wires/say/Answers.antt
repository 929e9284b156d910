use Rattle.std.proofs.Common.{arith}
use Rattle.njh_lines.proofs.ProtocolLaws.{said_same}
use Rattle.njh_lines.proofs.wires.say.Goals as goal

pub returns-clause-counts : goal.returns-clause-counts
returns-clause-counts g c = let same = said_same _ _ _ _ _ c.say.ensures in omega (arith, same.failures)

pub returns-clause-tally : goal.returns-clause-tally
returns-clause-tally g c = let same = said_same _ _ _ _ _ c.say.ensures in same.tally

pub returns-clause-clock : goal.returns-clause-clock
returns-clause-clock g c = let same = said_same _ _ _ _ _ c.say.ensures in same.clock

pub returns-clause-protocol : goal.returns-clause-protocol
returns-clause-protocol g c = let same = said_same _ _ _ _ _ c.say.ensures in same.protocol
