use Rattle.njh_tcp.proofs.TextsLaws.{gives_none, gives_more, gives_on}
use Rattle.njh_tcp.proofs.laws.texts_are_those_that_came.Goals as goal

pub returns-clause-begins : goal.returns-clause-begins
returns-clause-begins c = gives_none

pub returns-clause-goes_on : goal.returns-clause-goes_on
returns-clause-goes_on c = gives_more

pub returns-clause-contact : goal.returns-clause-contact
returns-clause-contact c = gives_on
