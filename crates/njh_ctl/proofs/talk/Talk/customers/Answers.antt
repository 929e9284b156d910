use Rattle.std.proofs.Common.{refl, subst}
use Rattle.njh_ctl.proofs.TalkLaws.{headed_by}
use Rattle.njh_ctl.specs.Lists.{Customers}
use Rattle.njh_ctl.specs.Orders.{TalkView}
use Rattle.njh_ctl.specs.Shown.{customers_head}
use Rattle.njh_ctl.specs.Talks.{ListedWhole}
use Rattle.njh_ctl.proofs.talk.Talk.customers.Goals as goal

pub returns-clause-done : goal.returns-clause-done
returns-clause-done g c = (
  subst (λ (old : TalkView). ListedWhole Customers old c.list.new.self)
      (headed_by customers_head c.self.inside.asker c.self.inside.teller c.set_head.new.self c.self.inside.moment
      c.args.self.now c.set_head.ensures c.self.view_is) c.in_ok-list.ensures.done,
  refl,
)
