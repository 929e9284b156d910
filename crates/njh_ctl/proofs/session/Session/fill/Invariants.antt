use Rattle.njh_ctl.specs.Exchanges.{Reads, reply_view}
use Rattle.njh_ctl.proofs.session.Session.fill.Given as goal

abbrev pub invariant-loop : goal.invariant-loop
invariant-loop g l = Reads l.fn.self l.self (reply_view l.reply)
