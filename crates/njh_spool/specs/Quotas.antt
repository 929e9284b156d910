-- The limits of a quota.
use Rattle.std.specs.Prelude.{◌≤◌}
use Rattle.njh_spool.specs.declared.quota.Quota.{Quota}
use Rattle.njh_table.specs.Limits.{max_quota, max_files}

pub record IsWithinLimits (q : Quota) : Type 0 where
  pub some_blocks : 1 ≤ q.blocks
  pub most_blocks : q.blocks ≤ max_quota
  pub some_files : 1 ≤ q.files
  pub most_files : q.files ≤ max_files
