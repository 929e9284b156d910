use Rattle.std.proofs.Common.{Some}
use Rattle.njh_ctl.specs.Lists.{list_view}
use Rattle.njh_ctl.specs.Talks.{Listed}
use Rattle.njh_ctl.proofs.talk.Talk.list.Given as goal

abbrev pub invariant-loop : goal.invariant-loop
invariant-loop g l = Listed (list_view l.list) l.fn.self l.self (Some l.from)
