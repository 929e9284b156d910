use Rattle.std.proofs.Common.{◌≡◌, ◌++◌, take, drop, replicate, slice_set}
use Rattle.njh_spool.specs.Spools.{spool_at}
use Rattle.njh_stream.specs.declared.receiver.Receiver.TheVariants.{Idle}
use Rattle.njh_stream.specs.Receiving.{without_all_open}
use Rattle.njh_stream.proofs.ending.end_receivers.Given as goal

abbrev pub invariant-loop-place : goal.invariant-loop-place
invariant-loop-place l =
    (l.receivers ≡ replicate l.place Idle ++ drop l.place l.initial.receivers)
    × (l.spool ≡ slice_set l.initial.spool l.customer
    (without_all_open (take l.place l.initial.receivers) (spool_at l.customer l.initial.spool)))
