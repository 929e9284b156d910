use Rattle.njh_spoolfile.proofs.ReadingLaws.{if_ok}
use Rattle.njh_spoolfile.proofs.reads.number_at.Goals as goal

pub returns : goal.returns
returns c = if_ok _ _ (λ number read n is. cc) c.get.result c.get.ensures.ok
