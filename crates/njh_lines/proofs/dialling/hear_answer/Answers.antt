use Rattle.std.proofs.Common.{inl, inr, ⊎_elim}
use Rattle.njh_lines.proofs.dialling.hear_answer.Goals as goal

-- whose OPEN was acknowledged
pub returns-in-Acknowledged-clause-given : goal.returns-in-Acknowledged-clause-given
returns-in-Acknowledged-clause-given g c = ⊎_elim (λ same. inl same)
    (λ joined. inr record {
      heard = c.hear.new.self.state;
      acknowledged = c.in-Acknowledged.ensures.heard;
      joined = joined;
    })
    c.join_by_tcp.ensures.given
