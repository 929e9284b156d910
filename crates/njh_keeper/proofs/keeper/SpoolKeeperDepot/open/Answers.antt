use Rattle.njh_keeper.proofs.Words
use Words.{List, Result, Ok, Err, IfOk, OnOk, ◌∙◌, HasCleanDisk, StandsAsFound, shown, Part, DepotFault, IsSettledFrom}
use Words.{KnowsHub, MayLeaveOf}
use Rattle.njh_turns.specs.Keeping.{IsSettled}
use Rattle.njh_keeper.proofs.keeper.SpoolKeeperDepot.open.Goals as goal

pub returns-clause-settled : goal.returns-clause-settled
returns-clause-settled g c =
    by c.open_hub.result c.open_hub.ensures.settled c.open_hub.ensures.known c.open_hub.ensures.stood
    c.open_hub.ensures.clean
  where
    by : (r : Result (List Part) DepotFault)
        → IfOk r (λ hub. IsSettledFrom g.S.Store c.args.self.now c.open_hub.new.self c.args.tables hub)
        → IfOk r (λ hub. KnowsHub g.S.Store g.S.Origin.found c.open_hub.new.self hub)
        → OnOk r (StandsAsFound g.S.Store g.S.Origin.found c.args.self.now.store)
        → (HasCleanDisk (shown g.S.Store c.open_hub.new.self.store)
        → OnOk r (HasCleanDisk (shown g.S.Store c.args.self.now.store)))
        → IfOk r (λ hub. IsSettled (record {
          may_leave = MayLeaveOf g.S.Store g.S.Origin.found;
          knows = KnowsHub g.S.Store g.S.Origin.found;
          count = λ keeper. keeper.failures;
        }) c.open_hub.new.self hub)
    by (Err e) settled known stood early = tt
    by (Ok hub) settled known stood early = record {
      known = known;
      leaves = λ left m.
          let done = settled.committed m.0.clean _ (stood (early m.0.clean) m.1.0 m.1.1) in
          c.a_crash_leaves_what_was_committed.ensures c.open_hub.new.self _ left done.stands m.0 ∙ done.left;
    }

pub returns-clause-spared : goal.returns-clause-spared
returns-clause-spared g c = record { crash = c.open_hub.ensures.crash; refused = c.open_hub.ensures.spared }
