use Rattle.njh_wire.proofs.PromptLaws.{wait_unprompted, read_prompted}
use Rattle.njh_wire.proofs.TallyLaws.{wait_tallies, read_tallies}
use Rattle.njh_wire.proofs.WithheldLaws.{wait_withholds, read_withholds}
use Rattle.njh_wire.proofs.line_wire.LineWire.read_bisync.Goals as goal

pub returns-then-not-is_empty-clause-answered : goal.returns-then-not-is_empty-clause-answered
returns-then-not-is_empty-clause-answered g c =
    wait_tallies c.args.self.now c.wait_to_send.result c.args.into.now c.wait_to_send.new.self
    c.wait_to_send.ensures.answer

pub returns-then-not-is_empty-clause-withheld : goal.returns-then-not-is_empty-clause-withheld
returns-then-not-is_empty-clause-withheld g c =
    wait_withholds g.C.Connection.moved c.args.self.now c.wait_to_send.result c.wait_to_send.new.self
    c.wait_to_send.ensures.answer

pub returns-then-not-is_empty-clause-prompted : goal.returns-then-not-is_empty-clause-prompted
returns-then-not-is_empty-clause-prompted g c =
    wait_unprompted c.args.self.now c.wait_to_send.result c.wait_to_send.new.self c.wait_to_send.ensures.answer

pub returns-clause-answered : goal.returns-clause-answered
returns-clause-answered g c =
    read_tallies g.C.Connection.moved g.C.Connection.stops c.args.self.now c.args.is_prompted c.read_open.result
    c.read_open.new.into c.read_open.new.self c.read_open.ensures.read

pub returns-clause-withheld : goal.returns-clause-withheld
returns-clause-withheld g c =
    read_withholds g.C.Connection.moved g.C.Connection.stops c.args.self.now c.args.is_prompted c.read_open.result
    c.read_open.new.into c.read_open.new.self c.read_open.ensures.read

pub returns-clause-prompted : goal.returns-clause-prompted
returns-clause-prompted g c =
    read_prompted g.C.Connection.moved g.C.Connection.stops c.args.self.now c.args.is_prompted c.read_open.result
    c.read_open.new.into c.read_open.new.self c.read_open.ensures.read
