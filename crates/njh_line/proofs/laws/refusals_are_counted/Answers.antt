use Rattle.njh_line.proofs.RefusalLaws as laws
use Rattle.njh_line.proofs.laws.refusals_are_counted.Goals as goal

pub returns-clause-count : goal.returns-clause-count
returns-clause-count c = laws.counted

pub returns-clause-told : goal.returns-clause-told
returns-clause-told c = laws.told
