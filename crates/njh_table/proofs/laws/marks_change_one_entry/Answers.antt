use Rattle.njh_table.proofs.MarkLaws.{each_entry-unmarked, others-marked, own_entry-marked}
use Rattle.njh_table.proofs.laws.marks_change_one_entry.Goals as goal

pub returns-clause-own : goal.returns-clause-own
returns-clause-own c = own_entry-marked

pub returns-clause-others : goal.returns-clause-others
returns-clause-others c = others-marked

pub returns-clause-all : goal.returns-clause-all
returns-clause-all c = each_entry-unmarked
