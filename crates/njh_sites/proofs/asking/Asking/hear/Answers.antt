use Rattle.std.proofs.Common.{inr, take}
use Rattle.njh_sites.proofs.ControlLaws.{answered_with, heard_then}
use Rattle.njh_sites.proofs.asking.Asking.hear.Goals as goal

-- all of the answer went out
pub returns-then-send_record-clause-answer : goal.returns-then-send_record-clause-answer
returns-then-send_record-clause-answer g c =
    let told = c.in-Some.ensures.whole in
    let heard = heard_then g.C.Connection.moved g.met.C.Connection.more _ _ _ _ _ _ c.listen-is_over.ensures.heard
    (c.send_record.ensures.sent c.if-send_record.true) in (
      told.0,
      (
        told.1,
        answered_with g.C.Connection.moved c.args.self.now _ c.in-Some.verdict c.in-Some.answer
            (λ bytes. bytes) told.2 heard,
      ),
    )

-- or a part of it did
pub returns-else-send_record-clause-answer : goal.returns-else-send_record-clause-answer
returns-else-send_record-clause-answer g c =
    let told = c.in-Some.ensures.whole in
    let went = c.send_record.ensures.went in
    let heard = heard_then g.C.Connection.moved g.met.C.Connection.more _ _ _ _ _ _ c.listen-is_over.ensures.heard
    went.1 in
    inr (
      c.in-Some.verdict,
      (
        went.0,
        (
          told.0,
          (
            told.1,
            answered_with g.C.Connection.moved c.args.self.now _
                c.in-Some.verdict c.in-Some.answer (take went.0) told.2 heard,
          ),
        ),
      ),
    )
