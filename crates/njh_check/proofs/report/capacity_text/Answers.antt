use Rattle.std.proofs.Common.{◌≡◌, ◌++◌, IfOk, codes, subst}
use Rattle.std.specs.Fmt.{decimal}
use Rattle.std.specs.String.{string_bytes}
use Rattle.njh_check.specs.Reports.{capacity_text}
use Rattle.njh_check.proofs.report.capacity_text.Goals as goal

pub returns : goal.returns
unfolding capacity_text
returns c =
    subst (λ n. IfOk c.format.result (λ text. string_bytes text
    ≡ codes "capacity " ++ (decimal c.args.capacity
    ++ (codes " blocks, quotas " ++ (decimal c.args.quotas ++ (codes ", left "
    ++ (decimal n ++ codes "\n")))))))
    c.left_of-left.ensures c.format.ensures.ok
