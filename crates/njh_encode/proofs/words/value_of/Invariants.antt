use Rattle.std.proofs.Common.{◌≡◌, ◌<◌, ◌^◌, drop}
use Rattle.njh_encode.specs.Words.{decimal_value, value_behind}
use Rattle.njh_encode.proofs.words.value_of.Given as goal

abbrev pub invariant-loop-digit : goal.invariant-loop-digit
invariant-loop-digit l = record {
  said : value_behind l.value (drop l.digit-index l.digits) ≡ decimal_value l.digits;
  small : l.value < 10 ^ l.digit-index;
}
