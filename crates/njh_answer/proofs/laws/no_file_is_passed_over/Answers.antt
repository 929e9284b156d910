use Rattle.njh_answer.proofs.AnswerLaws as laws
use Rattle.njh_answer.proofs.laws.no_file_is_passed_over.Goals as goal

pub returns : goal.returns
returns c = laws.no_file_is_passed_over
