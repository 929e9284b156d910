use Rattle.std.proofs.Common.{[], ap, sym, ◌∙◌}
use Rattle.njh_tcp.specs.Blocks.{in_head}
use Rattle.njh_tcp.proofs.TtbRun.{Run, run}
use Rattle.njh_tcp.proofs.ReadsLaws.{run_of, a_splitting}
use Rattle.njh_tcp.proofs.laws.one_splitting.Goals as goal

pub returns-clause-some : goal.returns-clause-some
returns-clause-some c = λ bytes. ((run (in_head []) bytes).ttbs, (run (in_head []) bytes).partial, a_splitting bytes)

pub returns-clause-only : goal.returns-clause-only
returns-clause-only c = λ bytes ttbs others partial other splits splits'.
    let same = sym (run_of bytes ttbs partial splits) ∙ run_of bytes others other splits' in
    (ap (λ (r : Run). r.ttbs) same, ap (λ (r : Run). r.partial) same)
