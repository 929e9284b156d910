use Rattle.std.proofs.Common.{refl}
use Rattle.njh_turns.specs.Keeping.{by_order}
use Rattle.tests_keeper.proofs.playing.play_order.Goals as goal

pub keep-requires : goal.keep-requires
keep-requires g c = (c.args.hub.now, c.requires, (_, by_order c.args.ordered.now.order refl, c.in_ok-order.ensures.step.hub))
