use Rattle.std.proofs.Common.{◌≡◌, map, take}
use Rattle.serde_json.specs.View.{view}
use Rattle.njh_answer.specs.Troubles.{trouble_data}
use Rattle.njh_answer.proofs.troubles.trouble_values.Given as goal

abbrev pub invariant-loop-trouble : goal.invariant-loop-trouble
invariant-loop-trouble l = map view l.values.items ≡ map trouble_data (take l.trouble-index l.troubles)
