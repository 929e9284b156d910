use Rattle.njh_wire.proofs.RoomLaws.{tcp_read_room, tcp_wait_room}
use Rattle.njh_wire.proofs.laws.no_write_fails.Goals as goal

pub returns-clause-waits : goal.returns-clause-waits
returns-clause-waits g c = tcp_wait_room g.C.Connection.moved g.C.Connection.stops

pub returns-clause-reads : goal.returns-clause-reads
returns-clause-reads g c = tcp_read_room g.C.Connection.moved g.C.Connection.stops
