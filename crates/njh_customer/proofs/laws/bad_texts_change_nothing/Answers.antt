use Rattle.njh_customer.proofs.DisregardingLaws as laws
use Rattle.njh_customer.proofs.laws.bad_texts_change_nothing.Goals as goal

pub returns-clause-spoiled : goal.returns-clause-spoiled
returns-clause-spoiled c = laws.spoiled

pub returns-clause-bad : goal.returns-clause-bad
returns-clause-bad c = laws.bad_blocks

pub returns-clause-garbled : goal.returns-clause-garbled
returns-clause-garbled c = laws.garbled
