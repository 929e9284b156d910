-- One record more acted.
use Rattle.{std.proofs.Common.{◌≡◌, None, Some, slice_get, drop, ap, ◌∙◌, rules}, njh_block.specs.ItemViews.given_item}
use Rattle.njh_customer.proofs.{ReadyLaws.{next_ready, others_twice, one_acted}, SessionLaws.acted_stays}
use Rattle.njh_customer.specs.{Acting.{after_record, all_acted}, CustomerSteps.customer_of}
use Rattle.njh_customer.proofs.shared.Shared.all_act.Goals as goal

pub loop-item-preserved : goal.loop-item-preserved
loop-item-preserved c =
    let id = c.args.id in
    let r = c.loop-item in
    let before = customer_of id.customer r.self r.lines in
    let item = given_item c.deref.result.now c.in-Some.item in
    let first : Some item ≡ slice_get r.block.items 0 = search rules in
    let others : c.next.new.self.items ≡ drop 1 r.block.items = search rules in
    let none : None ≡ c.of_record.result = search rules in
    let one = one_acted id.number r.block.items c.next.new.self.items item c.of_record.result before first others none
    (c.of_record.ensures c.deref.result.now) in
    record {
      rest = ap (all_acted id.number c.next.new.self.items) c.act.ensures.customer ∙ one ∙ r.invariant.rest;
      others = others_twice c.args.self.now.spool r.self.spool c.act.new.self.spool id.customer r.invariant.others
          c.act.ensures.others;
      tables = c.act.ensures.tables ∙ r.invariant.tables;
      ready = next_ready id r.self c.act.new.self r.lines c.act.new.lines
          (after_record id.number item before) r.invariant.ready c.act.ensures
          (acted_stays id.number before r.invariant.ready.there r.invariant.ready.coherent item);
    }
