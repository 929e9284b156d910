use Rattle.tests_keeper.proofs.playing.play_bytes.Given as goal

-- what the keeper knows is the hub as it is
abbrev pub invariant-loop : goal.invariant-loop
invariant-loop g l = record { known : g.K.Keeper.says.knows l.keeper l.hub }
