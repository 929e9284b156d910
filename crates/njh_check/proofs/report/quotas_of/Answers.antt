use Rattle.std.proofs.Common.{rules, tests}
use Rattle.std.proofs.lemmas.Iterator.{YieldsList-from_slice, YieldsList-from_map}
use Rattle.std.proofs.lemmas.Iterator.Consumers.{sum_by_from_yields_List}
use Rattle.njh_check.proofs.report.quotas_of.Goals as goal

pub returns : goal.returns
returns c =
    sum_by_from_yields_List _ _ c.map.result _ c.sum.ensures.ran
    (YieldsList-from_map _ (λ d. d.quota) (YieldsList-from_slice c.args.customers.now cc) c.map.ensures.closure
    (λ x r q k. search (rules, tests)))
