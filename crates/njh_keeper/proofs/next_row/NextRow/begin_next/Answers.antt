use Rattle.std.proofs.Common.{arith, refl}
use Rattle.njh_keeper.proofs.next_row.NextRow.begin_next.Goals as goal

pub returns-clause-led : goal.returns-clause-led
returns-clause-led g c clean = c.in_ok-write.ensures.led clean

pub returns-clause-forward : goal.returns-clause-forward
returns-clause-forward g c = record {
  key = refl;
  place = omega arith;
  counted = (let more = c.in_ok-write.ensures.counted in omega arith);
  others = c.in_ok-write.ensures.others;
}
