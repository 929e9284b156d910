use Rattle.njh_listing.proofs.AskedLaws.{keys_more}
use Rattle.njh_listing.proofs.finding.keys_of.Goals as goal

pub loop-at-preserved : goal.loop-at-preserved
loop-at-preserved c =
    keys_more c.args.number c.args.name.now c.args.list.now c.loop-at.at c.index-list-at.result c.loop-at.keys.items
    c.put_key.new.keys.items c.loop-at-test.true c.index-list-at.is c.loop-at.invariant c.in_ok-put_key.ensures
