use Rattle.njh_lines.proofs.ProtocolLaws.{same_view}
use Rattle.njh_lines.proofs.sessions.look.Goals as goal

-- a session that goes on, on which no sign-on was refused, keeps its connection
pub returns-in-Some-clause-kept : goal.returns-in-Some-clause-kept
returns-in-Some-clause-kept g c = λ there none accepted goes.
    let seen = same_view c.args.post.now.label c.args.wire.now.protocol _ c.session_of-session.result
    (c.session_of-session.ensures there) accepted goes in
    c.part-tries.ensures.kept none seen.0 seen.1

pub returns-in_default-clause-kept : goal.returns-in_default-clause-kept
returns-in_default-clause-kept g c = λ there none accepted goes.
    let seen = same_view c.args.post.now.label c.args.wire.now.protocol _ c.session_of-session.result
    (c.session_of-session.ensures there) accepted goes in
    c.part-tries.ensures.kept none seen.0 seen.1
