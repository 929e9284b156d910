use Rattle.njh_texts.proofs.Decimal.{digits_say}
use Rattle.njh_texts.proofs.laws.decimal_digits.Goals as goal

pub returns : goal.returns
returns c = digits_say
