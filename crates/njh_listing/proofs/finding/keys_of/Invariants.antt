use Rattle.std.proofs.Common.{◌≡◌, map, take}
use Rattle.njh_listing.specs.Asked.{asked_in, key_in}
use Rattle.njh_listing.specs.code.Lent.{entries_of}
use Rattle.njh_listing.proofs.finding.keys_of.Given as goal

abbrev pub invariant-loop-at : goal.invariant-loop-at
invariant-loop-at l = l.keys.items ≡ map key_in (asked_in l.number l.name (entries_of (take l.at l.list)))
