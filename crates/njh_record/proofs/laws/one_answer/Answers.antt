use Rattle.njh_record.proofs.AnswerLaws.{some_answer, one_answer}
use Rattle.njh_record.proofs.laws.one_answer.Goals as goal

pub returns : goal.returns
returns c = record { some = some_answer; only = one_answer }
