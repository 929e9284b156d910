-- What a keeper notes if no hub is opened.
use Rattle.std.specs.Prelude.{◌≡◌, ◌≢◌, List, [], ◌∷◌}
use Rattle.njh_turns.specs.declared.depot.DepotFault.{DepotFault}
use Rattle.njh_turns.specs.declared.depot.DepotFault.TheVariants as depot
use Rattle.njh_keeper.specs.Refusal.{Refusal, refusal_of}
use Rattle.njh_keeper.specs.declared.fault.OpeningFault.{OpeningFault}
use Rattle.njh_keeper.specs.declared.fault.OpeningFault.TheVariants.{Memory, Store, File}

-- Why no hub is opened is told so: no whole file is refused but the one that is noted alone.
abbrev pub Notes : OpeningFault → DepotFault → (after : List Refusal) → Type 0
Notes Memory told after = told ≡ depot.Memory
Notes (Store error) told after = told ≢ depot.Refused
Notes (File refused) told after = told ≡ depot.Refused → after ≡ refusal_of refused ∷ []
