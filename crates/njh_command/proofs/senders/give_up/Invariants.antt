use Rattle.std.proofs.Common.{◌≡◌, ◌++◌, map, take, drop}
use Rattle.njh_command.specs.Commands.{without_file}
use Rattle.njh_command.proofs.senders.give_up.Given as goal

abbrev pub invariant-loop-place : goal.invariant-loop-place
invariant-loop-place l = l.senders ≡ map (without_file l.file) (take l.place l.initial.senders) ++ drop l.place
    l.initial.senders
