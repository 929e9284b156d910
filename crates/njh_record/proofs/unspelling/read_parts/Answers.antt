use Rattle.std.proofs.Common.{arith}
use Rattle.std.proofs.lemmas.Result.{err_from_is_err_and}
use Rattle.njh_record.proofs.Steps.{HasRead-none, HasRead-takes, HasRead-passes, unspells-aborted, unspells-whole}
use Rattle.njh_record.proofs.Steps.{unspells-too_long, unspells-fault}
use Rattle.njh_record.proofs.unspelling.read_parts.Goals as goal

pub loop-part-preserved-then-fits : goal.loop-part-preserved-then-fits
loop-part-preserved-then-fits c =
    HasRead-takes _ _ _ _ _ _ _ _ c.if-fits.true c.loop-part.invariant (rw c.in-Item.is at c.in_ok-part.ensures)
    c.add_to-fits.ensures

pub loop-part-preserved : goal.loop-part-preserved
loop-part-preserved c =
    HasRead-passes _ _ _ _ _ _ c.if-fits.false c.loop-part.invariant (rw c.in-Item.is at c.in_ok-part.ensures)

pub returns-in_err-part : goal.returns-in_err-part
returns-in_err-part c =
    let told = err_from_is_err_and c.from_residual.result c.from_residual.ensures.1 in
    rw (told.1, told.2) (unspells-fault _ _ _ _ _ c.loop-part.invariant c.in_err-part.ensures)

pub returns-in-Abort : goal.returns-in-Abort
returns-in-Abort c = unspells-aborted _ _ _ _ _ c.loop-part.invariant
    (rw (c.in-End.is, c.in-Abort.is) at c.in_ok-part.ensures)

pub returns-then-fits-2 : goal.returns-then-fits-2
returns-then-fits-2 c =
    unspells-whole _ _ _ _ _ c.if-fits-2.true c.loop-part.invariant
    (rw (c.in-End.is, c.in-Record.is) at c.in_ok-part.ensures)

pub returns-in-Record : goal.returns-in-Record
returns-in-Record c =
    unspells-too_long _ _ _ _ _ c.if-fits-2.false c.loop-part.invariant
    (rw (c.in-End.is, c.in-Record.is) at c.in_ok-part.ensures)

pub loop-part-init : goal.loop-part-init
loop-part-init c = HasRead-none _ _ c.requires (λ place. omega (arith, c.type_inv.bytes place))
