use Rattle.{std.proofs.Common.{◌≡◌, drop}, njh_keeper.specs.code.Apart.have_low_ids}
use Rattle.njh_keeper.proofs.numbers.ids_are_low.Given as goal

-- so many have lower ones
abbrev pub invariant-loop-stored : goal.invariant-loop-stored
invariant-loop-stored l = have_low_ids (drop l.stored-index l.files) ≡ have_low_ids l.files
