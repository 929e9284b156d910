use Rattle.std.proofs.Common.{◌≡◌, length, take, map, vec_capacity}
use Rattle.njh_spool.proofs.OpenLaws.{opened}
use Rattle.njh_spool.proofs.customer_files.open_all.Given as goal

abbrev pub invariant-loop-quota : goal.invariant-loop-quota
invariant-loop-quota l =
    (l.customers.items ≡ map opened (take l.quota-index l.quotas)) × (vec_capacity l.customers ≡ length l.quotas)
