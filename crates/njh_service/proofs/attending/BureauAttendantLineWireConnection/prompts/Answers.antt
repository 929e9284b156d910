use Rattle.std.proofs.Common.{◌↔◌, ap, subst}
use Rattle.std.specs.Prelude.{IsTrue}
use Rattle.njh_lines.specs.Watching.{IsToBePrompted, Watched}
use Rattle.njh_service.specs.Bureaus.{Attended}
use Rattle.njh_service.proofs.attending.BureauAttendantLineWireConnection.prompts.Goals as goal

-- as its exchange says
pub returns : goal.returns
returns g c =
    let Exchange : Attended g.row.N-Visitor.Denot → Watched = λ seen. seen.exchange in
    subst (λ (w : Watched). IsTrue c.prompts.result ↔ IsToBePrompted w c.args.place c.args.hub.now)
    (ap Exchange c.self.view_is) c.prompts.ensures
