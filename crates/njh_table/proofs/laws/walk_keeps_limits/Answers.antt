use Rattle.njh_table.proofs.WalkedTables.{accepted, refused}
use Rattle.njh_table.proofs.laws.walk_keeps_limits.Goals as goal

pub returns-clause-accepted : goal.returns-clause-accepted
returns-clause-accepted c = accepted

pub returns-clause-refused : goal.returns-clause-refused
returns-clause-refused c = refused
