use Rattle.std.proofs.Common.{refl}
use Rattle.njh_turns.specs.Keeping.{by_bytes}
use Rattle.tests_keeper.proofs.playing.play_step.Goals as goal

pub keep-requires : goal.keep-requires
keep-requires g c = (
  c.args.hub.now,
  c.requires,
  (_, by_bytes c.args.id.number _ c.in_ok-taken.ensures.rests refl, c.in_ok-taken.ensures.step.hub),
)
