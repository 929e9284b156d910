use Rattle.std.proofs.Common.{◌≡◌, Ok, Some, ◌∙◌}
use Rattle.njh_block.specs.Blocks.{first_record}
use Rattle.njh_block.specs.code.Skipped.{rest_behind}
use Rattle.njh_block.proofs.Skipping.{behind-less, behind-fault}
use Rattle.njh_block.proofs.front_record.check_each.Goals as goal

pub loop-after-smaller : goal.loop-after-smaller
loop-after-smaller c =
    let found : Ok (Some c.in-Some.after.now) ≡ rest_behind (first_record c.loop-after.rest.now)
    = rw (c.in_ok-after.was, c.in-Some.is) at c.skip_first.ensures in
    behind-less c.loop-after.rest.now c.in-Some.after.now found

pub loop-after-preserved : goal.loop-after-preserved
loop-after-preserved c =
    let found : Ok (Some c.in-Some.after.now) ≡ rest_behind (first_record c.loop-after.rest.now)
    = rw (c.in_ok-after.was, c.in-Some.is) at c.skip_first.ensures in
    behind-fault c.loop-after.rest.now c.in-Some.after.now found ∙ c.loop-after.invariant
