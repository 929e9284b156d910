use Rattle.std.proofs.Common.{refl}
use Rattle.njh_turns.specs.Keeping.{by_signal}
use Rattle.tests_keeper.proofs.playing.play_loss.Goals as goal

pub keep-requires : goal.keep-requires
keep-requires g c = (c.args.hub.now, c.requires, (_, by_signal c.args.id.number _ refl, c.in_ok-lost.ensures.hub))
