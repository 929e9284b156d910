use Rattle.std.proofs.Common.{◌≡◌, map, take}
use Rattle.serde_json.specs.View.{view}
use Rattle.njh_answer.specs.Troubles.{moment_number}
use Rattle.njh_answer.proofs.troubles.moment_values.Given as goal

abbrev pub invariant-loop-moment : goal.invariant-loop-moment
invariant-loop-moment l = map view l.values.items ≡ map moment_number (take l.moment-index l.moments)
