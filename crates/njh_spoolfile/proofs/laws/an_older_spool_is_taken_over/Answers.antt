use Rattle.njh_spoolfile.proofs.ReopeningLaws.{older_found}
use Rattle.njh_spoolfile.proofs.laws.an_older_spool_is_taken_over.Goals as goal

pub returns : goal.returns
returns c = older_found
