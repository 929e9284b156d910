use Rattle.njh_lines.proofs.AskingLaws.{given_same}
use Rattle.njh_lines.proofs.asking.give.Goals as goal

-- the connection that was made of it carries the line's frames
pub returns-clause-given : goal.returns-clause-given
returns-clause-given g c = λ given. given_same _ _ _ _ _ _ c.without_open.ensures.connection record {
  made = c.in-Some.guest.connection;
  over = c.in-Some.ensures;
  stands = c.connect.ensures.taken c.if-not-connect.false;
}
