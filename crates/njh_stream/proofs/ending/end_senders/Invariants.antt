use Rattle.std.proofs.Common.{◌≡◌, ◌++◌, take, drop, replicate, slice_set}
use Rattle.njh_spool.specs.Spools.{spool_at}
use Rattle.njh_stream.specs.declared.sender.Sender.TheVariants.{Idle}
use Rattle.njh_stream.specs.Sending.{all_ended}
use Rattle.njh_stream.proofs.ending.end_senders.Given as goal

abbrev pub invariant-loop-place : goal.invariant-loop-place
invariant-loop-place l =
    (l.senders ≡ replicate l.place Idle ++ drop l.place l.initial.senders)
    × (l.spool ≡ slice_set l.initial.spool l.customer
    (all_ended (take l.place l.initial.senders) (spool_at l.customer l.initial.spool)))
