use Rattle.std.proofs.Common.{refl, rules, take}
use Rattle.njh_ctl.proofs.SessionLaws.{received_by}
use Rattle.njh_ctl.proofs.session.Session.read.Goals as goal

pub returns-in_ok-extend_from_slice-in-Ok-clause-received :
    goal.returns-in_ok-extend_from_slice-in-Ok-clause-received
returns-in_ok-extend_from_slice-in-Ok-clause-received g c =
    received_by _ _ _ c.self.view_is (record {
      came = take c.in-Ok.count c.read.new.buf;
      consumed = c.in-Ok.ensures.bytes.0;
      unread = search rules;
      client = refl;
    })
