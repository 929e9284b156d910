use Rattle.std.proofs.Common.{◌∙◌, List, OnOk, subst}
use Rattle.njh_hub.specs.WholeHub.{Part, AreTaken}
use Rattle.njh_replay.proofs.PrintSteps.{fresh_prints}
use Rattle.njh_replay.proofs.ReplayLaws.{all_named, opened_customers}
use Rattle.njh_replay.proofs.replaying.print_events.Goals as goal

pub print_all-requires-clause-named : goal.print_all-requires-clause-named
print_all-requires-clause-named g c =
    all_named c.args.tables c.in_ok-hub.hub c.args.events.now c.in_ok-hub.ensures.opened c.requires

pub print_all-requires-clause-all : goal.print_all-requires-clause-all
print_all-requires-clause-all g c =
    opened_customers c.args.tables c.in_ok-hub.hub c.deref.result.now c.in_ok-hub.ensures.opened
    (c.deref.ensures.value ∙ c.in_ok-customers.ensures.names)

pub returns-clause-printed : goal.returns-clause-printed
returns-clause-printed g c =
    let contents = g.W.Write.contents in
    fresh_prints c.args.tables c.in_ok-names.names c.in_ok-hub.hub c.args.events.now c.deref.result.now
    c.print_all.result
    (contents c.args.out.now) (contents c.print_all.new.out) c.in_ok-names.ensures c.in_ok-hub.ensures.opened
    (c.deref.ensures.value ∙ c.in_ok-customers.ensures.names) c.print_all.ensures.printed

pub returns-clause-orders : goal.returns-clause-orders
returns-clause-orders g c =
    subst (λ (ps : List Part). OnOk c.print_all.result (AreTaken ps c.args.events.now)) c.in_ok-hub.ensures.opened
    c.print_all.ensures.orders
