use Rattle.std.proofs.Common.{◌≡◌, ◌<◌, Some, drop}
use Rattle.njh_arguments.specs.Choices.{number_behind, number_of_digits}
use Rattle.njh_arguments.proofs.choices.number_of_digits.Given as goal

abbrev pub invariant-loop-digit : goal.invariant-loop-digit
invariant-loop-digit l = record {
  value : number_of_digits l.digits ≡ number_behind (Some l.number) (drop l.digit-index l.digits);
  few : l.number < 1000000;
}
