use Rattle.njh_customer.proofs.SurvivingLaws.{files_survive, events_keep_files, takes_keep_files, first_files}
use Rattle.njh_customer.proofs.SurvivingLaws.{goes_on_then, numbered_survivors, runs_keep_files}
use Rattle.njh_customer.proofs.laws.files_survive.Goals as goal

pub returns-clause-moves : goal.returns-clause-moves
returns-clause-moves c = files_survive

pub returns-clause-events : goal.returns-clause-events
returns-clause-events c = events_keep_files

pub returns-clause-takes : goal.returns-clause-takes
returns-clause-takes c = takes_keep_files

pub returns-clause-runs : goal.returns-clause-runs
returns-clause-runs c = runs_keep_files

pub returns-clause-further : goal.returns-clause-further
returns-clause-further c = goes_on_then

pub returns-clause-first : goal.returns-clause-first
returns-clause-first c = first_files

pub returns-clause-numbers : goal.returns-clause-numbers
returns-clause-numbers c = numbered_survivors
