use Rattle.std.proofs.Common.{inr}
use Rattle.njh_subcommands.proofs.CheckLaws.{beginning_whole}
use Rattle.njh_subcommands.proofs.checking.say_script.Goals as goal

pub returns-in-Ok-false-clause-begun : goal.returns-in-Ok-false-clause-begun
returns-in-Ok-false-clause-begun g c =
    inr (c.deref.result.now, beginning_whole _ _ _ c.in-Ok-false.ensures.told)
