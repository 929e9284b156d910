-- A record ended the session.
use Rattle.{std.proofs.Common.rules, njh_customer.proofs.ReadyLaws.is_there}
use Rattle.njh_customer.proofs.shared.Shared.end_session.Goals as goal

pub close_session-requires : goal.close_session-requires
close_session-requires c =
    let h = is_there c.args.id c.args.self.now c.args.lines.now c.requires.ready in
    record { there = record { known = h.known; line = h.line; spooled = h.spooled; there = search rules } }
