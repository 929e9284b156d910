use Rattle.njh_line.proofs.CountLaws as counts
use Rattle.njh_line.proofs.TableLaws as laws
use Rattle.njh_line.proofs.laws.repeats_are_tries.Goals as goal

pub returns : goal.returns
returns c = record { tries = laws.repeat_tries; stays = laws.repeat_stays; same = counts.same; always = counts.always }
