use Rattle.njh_listing.specs.code.Lent.{entries_of}
use Rattle.njh_listing.proofs.OrderLaws.{own_more}
use Rattle.njh_listing.proofs.order.put_customer.Goals as goal

pub loop-stored-preserved : goal.loop-stored-preserved
loop-stored-preserved c =
    own_more c.args.customer.now c.args.files.now c.loop-stored.stored-index c.stored-item.result
    (entries_of c.args.list.now.items) (entries_of c.loop-stored.list.items) (entries_of c.put_own.new.list.items)
    c.loop-stored-test.true c.stored-item.is c.loop-stored.invariant c.in_ok-put_own.ensures
