use Rattle.njh_header.proofs.SectionsLaw.{general_law, lack_law}
use Rattle.njh_header.proofs.laws.one_general_section.Goals as goal

pub returns-clause-found : goal.returns-clause-found
returns-clause-found c = general_law

pub returns-clause-lacks : goal.returns-clause-lacks
returns-clause-lacks c = lack_law
