use Rattle.std.proofs.Common.{refl}
use Rattle.njh_line.proofs.TableLaws as laws
use Rattle.njh_line.proofs.laws.disregarded_changes_nothing.Goals as goal

pub returns : goal.returns
returns c = record {
  rest = λ line input. record { config = refl; last = refl; answers = refl; messages = refl };
  stays = laws.stays;
  over = laws.ends;
}
