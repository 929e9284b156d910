use Rattle.njh_block.proofs.EndLaws.{none_left, left_none}
use Rattle.njh_block.proofs.block.Block.is_empty.Goals as goal

pub returns : goal.returns
returns c =
    let rest = c.self.inside.rest.now in (
      λ ends. rw (← c.self.view_is) (left_none rest (c.ends.ensures.0 ends)),
      λ empty. c.ends.ensures.1 (none_left rest c.self.invariant (rw (← c.self.view_is) at empty)),
    )
