use Rattle.njh_answer.proofs.AnswerLaws as laws
use Rattle.njh_answer.proofs.laws.pages_tell_all.Goals as goal

pub returns : goal.returns
returns c = laws.pages_tell_all
