use Rattle.std.proofs.Common.{◌-◌, ◌≤◌}
use Rattle.njh_spool.specs.code.Chains.{chain_at}
use Rattle.njh_spool.specs.code.Packing.{unpacked_records}
use Rattle.njh_spool.specs.code.Slots.{IsPlace}
use Rattle.njh_spool.proofs.record_places.place_of_record.Given as goal

abbrev pub invariant-loop-place : goal.invariant-loop-place
invariant-loop-place l =
    IsPlace (unpacked_records l.slot.count (chain_at l.at l.store).bytes) (chain_at l.at l.store).keys l.place
    × (l.place.record_index ≤ l.n)

abbrev pub decreases-loop-place : goal.decreases-loop-place
decreases-loop-place l = l.n - l.place.record_index
