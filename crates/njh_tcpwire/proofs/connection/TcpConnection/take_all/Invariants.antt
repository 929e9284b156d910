use Rattle.std.proofs.Common.{◌≡◌, ◌≤◌, length, [], take}
use Rattle.njh_tcpwire.specs.Moves.{IsAllGone, IsOfSend, Moves}
use Rattle.njh_tcpwire.proofs.connection.TcpConnection.take_all.Given as goal

-- so many bytes at the front were taken
abbrev pub invariant-loop : goal.invariant-loop
invariant-loop g l = record {
  moved : Moves IsOfSend g.C.Connection.moved l.fn.self l.self [] (take l.taken l.bytes);
  within : l.taken ≤ length l.bytes;
  gone : IsAllGone l.bytes l.taken l.self.link.waiting;
  place : g.C.Connection.place_of l.self.inner ≡ g.C.Connection.place_of l.fn.self.inner;
}
