use Rattle.std.proofs.Common.{◌≡◌, ◌<◌, ◌^◌, drop}
use Rattle.njh_request.specs.Paths.{value_behind}
use Rattle.njh_request.proofs.numbers.value_of.Given as goal

abbrev pub invariant-loop-digit : goal.invariant-loop-digit
invariant-loop-digit l = record {
  said : value_behind l.value (drop l.digit-index l.digits) ≡ value_behind 0 l.digits;
  small : l.value < 10 ^ l.digit-index;
}
