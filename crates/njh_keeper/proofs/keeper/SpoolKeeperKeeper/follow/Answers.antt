use Rattle.njh_keeper.proofs.keeper.SpoolKeeperKeeper.follow.Goals as goal

pub returns-in-Ok-clause-known : goal.returns-in-Ok-clause-known
returns-in-Ok-clause-known g c = c.in-Ok.ensures.known c.requires.led.0 c.requires.led.2 c.requires.led.1
