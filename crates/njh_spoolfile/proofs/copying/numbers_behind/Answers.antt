use Rattle.std.proofs.Common.{arith}
use Rattle.njh_spoolfile.proofs.CopiedFiles.{numbers_more}
use Rattle.njh_spoolfile.proofs.CopyFaults.{one_below}
use Rattle.njh_spoolfile.proofs.copying.numbers_behind.Goals as goal

pub loop-stored-init : goal.loop-stored-init
loop-stored-init c = record {
  behind = tt;
  least = λ id key some low. (omega (arith, some.0), omega (arith, some.1));
  low = omega arith;
}

pub loop-stored-preserved : goal.loop-stored-preserved
loop-stored-preserved c = record {
  behind = numbers_more c.args.files.now c.loop-stored.stored-index c.stored-item.result c.loop-stored.next.id
      c.loop-stored.next.key c.in_ok-next.next.id c.in_ok-next.next.key c.loop-stored-test.true c.stored-item.is
      c.in_ok-next.ensures.above c.loop-stored.invariant.behind;
  least = λ id key some low.
      let so_far = c.loop-stored.invariant.least id key some low in
      let here = one_below id key c.args.files.now c.loop-stored.stored-index c.stored-item.result
      c.loop-stored-test.true c.stored-item.is low in
      c.in_ok-next.ensures.least id key so_far.0 so_far.1 here.0 here.1;
  low = c.in_ok-next.ensures.low c.loop-stored.invariant.low;
}
