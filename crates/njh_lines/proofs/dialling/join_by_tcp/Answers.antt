use Rattle.std.proofs.Common.{inr, sym}
use Rattle.njh_lines.proofs.dialling.join_by_tcp.Goals as goal

-- the line has the connection of its dial
pub returns-clause-given : goal.returns-clause-given
returns-clause-given g c = inr record {
  connection = c.in-Some.connection;
  there = sym c.in-Some.ensures.connection;
  given = record {
    made = c.in-Some-over_tcp.guest.connection;
    over = c.in-Some-over_tcp.ensures;
    stands = c.connect.ensures.taken c.if-not-connect.false;
  };
}
