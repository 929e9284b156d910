use Rattle.std.proofs.Common.{◌≡◌, false, take}
use Rattle.std.specs.List.{list_any}
use Rattle.njh_spool.specs.Spools.{spool_at}
use Rattle.njh_sched.specs.Tight.{is_being_sent}
use Rattle.njh_sched.proofs.waiting_peers.sends_a_file.Given as goal

abbrev pub invariant-loop-index : goal.invariant-loop-index
invariant-loop-index l = list_any is_being_sent (take l.index (spool_at l.customer l.spool).whole) ≡ false
