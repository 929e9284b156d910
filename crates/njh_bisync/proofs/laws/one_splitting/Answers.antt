use Rattle.std.proofs.Common.{ap, sym, ◌∙◌}
use Rattle.njh_bisync.specs.Frames.{nothing}
use Rattle.njh_bisync.proofs.UnitReader.{run}
use Rattle.njh_bisync.proofs.FedLaws.{one_splitting, a_splitting}
use Rattle.njh_bisync.proofs.laws.one_splitting.Goals as goal

pub returns-clause-some : goal.returns-clause-some
returns-clause-some c = λ bytes. ((run nothing bytes).units, (run nothing bytes).partial, a_splitting bytes)

pub returns-clause-only : goal.returns-clause-only
returns-clause-only c = λ bytes units others rest other splits splits'.
    let same = sym (one_splitting bytes units rest splits) ∙ one_splitting bytes others other splits' in
    (ap (λ read. read.units) same, ap (λ read. read.partial) same)
