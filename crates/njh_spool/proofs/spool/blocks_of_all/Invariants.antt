use Rattle.std.proofs.Common.{◌≡◌, ◌*◌, ◌≤◌, take, sum_by}
use Rattle.njh_spool.specs.declared.quota.Quota.{Quota}
use Rattle.njh_spool.proofs.spool.blocks_of_all.Given as goal

abbrev pub invariant-loop-quota : goal.invariant-loop-quota
invariant-loop-quota l = (l.blocks ≡ sum_by (λ (q : Quota). q.blocks) (take l.quota-index l.quotas))
    × (l.blocks ≤ 65535 * l.quota-index)
