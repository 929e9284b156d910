use Rattle.std.proofs.Common.{◌≡◌, List, Ok, Some, drop, sym, ap}
use Rattle.njh_block.specs.Blocks.{Item, first_record}
use Rattle.njh_block.specs.ItemViews.{given_item}
use Rattle.njh_block.proofs.ReadingLaws.{takes_first}
use Rattle.njh_block.proofs.block.Block.next.Goals as goal

pub invariant_of-self : goal.invariant_of-self
invariant_of-self c =
    let first : first_record c.self.inside.rest.now
    ≡ Ok (Some (record {
      item = given_item c.read_first.new.contents.items c.in_ok-item.item;
      rest = c.in_ok-item.rest.now;
    }))
    = sym (rw (c.in-Ok.is, c.in_ok-item.was) at c.read_first.ensures.first) in
    (takes_first c.self.inside.rest.now c.in_ok-item.rest.now _ first c.self.invariant).0

pub returns-clause-rest : goal.returns-clause-rest
returns-clause-rest c =
    let first : first_record c.self.inside.rest.now
    ≡ Ok (Some (record {
      item = given_item c.read_first.new.contents.items c.in_ok-item.item;
      rest = c.in_ok-item.rest.now;
    }))
    = sym (rw (c.in-Ok.is, c.in_ok-item.was) at c.read_first.ensures.first) in
    let took = (takes_first c.self.inside.rest.now c.in_ok-item.rest.now _ first c.self.invariant).1 in
    rw (← c.self.view_is)
    (ap (λ (items : List Item). record { bcb = c.self.inside.bcb; fcs = c.self.inside.fcs; items = items })
    (sym (ap (drop 1) took)))
