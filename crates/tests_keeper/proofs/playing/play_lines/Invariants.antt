use Rattle.tests_keeper.proofs.playing.play_lines.Given as goal

-- what the keeper knows is the hub as it is
abbrev pub invariant-loop-line : goal.invariant-loop-line
invariant-loop-line g l = record { known : g.D.Keeper.says.knows l.keeper l.hub }
