use Rattle.njh_answer.proofs.AnswerLaws as laws
use Rattle.njh_answer.proofs.laws.answers_are_of_the_customer.Goals as goal

pub returns : goal.returns
returns c = laws.answers_are_of_the_customer
