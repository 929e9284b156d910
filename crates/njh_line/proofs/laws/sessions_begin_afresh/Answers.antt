use Rattle.njh_line.proofs.TableLaws as laws
use Rattle.njh_line.proofs.laws.sessions_begin_afresh.Goals as goal

pub returns : goal.returns
returns c = laws.afresh
