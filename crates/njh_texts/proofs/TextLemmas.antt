-- What the pieces of texts rest on.
use Rattle.njh_texts.proofs.Digits.{digits-last, digits-one, length-digits}
use Rattle.njh_texts.proofs.Trimmed.{length-trimmed}

pub ruleset digit_steps = (digits-last, digits-one, length-digits)

pub ruleset trimmed_size = (length-trimmed)
