use Rattle.njh_spoolfile.proofs.ReadingLaws.{if_ok}
use Rattle.njh_spoolfile.proofs.reads.id_at.Goals as goal

pub returns : goal.returns
returns c = if_ok _ _ (λ id read n is. cc) c.get.result c.get.ensures.ok
