use Rattle.std.proofs.Common.{sym, subst}
use Rattle.njh_bisync.specs.Reading.{Rest, Reads}
use Rattle.njh_bisync.specs.ByteSteps.{frames_after, rest_after}
use Rattle.njh_bisync.proofs.FedLaws.{reads_from}
use Rattle.njh_bisync.proofs.deframer.Deframer.reset.Goals as goal

pub returns-clause-afresh : goal.returns-clause-afresh
returns-clause-afresh c = λ bytes.
    subst (λ (r : Rest). Reads bytes (frames_after r bytes) (rest_after r bytes)) (sym c.reset.ensures)
    (reads_from bytes)
