use Rattle.njh_wire.proofs.ByTcpLaws.{tcp_read_prompted, tcp_read_tallies, tcp_read_withholds, tcp_wait_tallies}
use Rattle.njh_wire.proofs.ByTcpLaws.{tcp_wait_unprompted, tcp_wait_withholds}
use Rattle.njh_wire.proofs.line_wire.LineWire.read_by_tcp.Goals as goal

pub returns-then-not-is_empty-clause-answered : goal.returns-then-not-is_empty-clause-answered
returns-then-not-is_empty-clause-answered g c =
    tcp_wait_tallies g.C.Connection.moved g.C.Connection.stops c.args.self.now c.wait_by_tcp.result c.wait_by_tcp.new.into
    c.wait_by_tcp.new.self c.wait_by_tcp.ensures.answer

pub returns-then-not-is_empty-clause-withheld : goal.returns-then-not-is_empty-clause-withheld
returns-then-not-is_empty-clause-withheld g c =
    tcp_wait_withholds g.C.Connection.moved g.C.Connection.stops c.args.self.now c.wait_by_tcp.result
    c.wait_by_tcp.new.into c.wait_by_tcp.new.self c.wait_by_tcp.ensures.answer

pub returns-then-not-is_empty-clause-prompted : goal.returns-then-not-is_empty-clause-prompted
returns-then-not-is_empty-clause-prompted g c =
    tcp_wait_unprompted g.C.Connection.moved g.C.Connection.stops c.args.self.now c.wait_by_tcp.result
    c.wait_by_tcp.new.into c.wait_by_tcp.new.self c.wait_by_tcp.ensures.answer

pub returns-clause-answered : goal.returns-clause-answered
returns-clause-answered g c =
    tcp_read_tallies g.C.Connection.moved g.C.Connection.stops c.args.self.now c.args.is_prompted
    c.read_or_acknowledge.result c.read_or_acknowledge.new.into c.read_or_acknowledge.new.self
    c.read_or_acknowledge.ensures.read

pub returns-clause-withheld : goal.returns-clause-withheld
returns-clause-withheld g c =
    tcp_read_withholds g.C.Connection.moved g.C.Connection.stops c.args.self.now c.args.is_prompted
    c.read_or_acknowledge.result c.read_or_acknowledge.new.into c.read_or_acknowledge.new.self
    c.read_or_acknowledge.ensures.read

pub returns-clause-prompted : goal.returns-clause-prompted
returns-clause-prompted g c =
    tcp_read_prompted g.C.Connection.moved g.C.Connection.stops c.args.self.now c.args.is_prompted
    c.read_or_acknowledge.result c.read_or_acknowledge.new.into c.read_or_acknowledge.new.self
    c.read_or_acknowledge.ensures.read
