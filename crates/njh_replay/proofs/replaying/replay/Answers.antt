use Rattle.std.proofs.Common.{OnOk, map, subst}
use Rattle.njh_hub.specs.Parts.{entries_of}
use Rattle.njh_hub.specs.WholeHub.{AreTaken, part_at_open}
use Rattle.njh_replay.proofs.PrintSteps.{no_message, replayed-begun, replayed-memory, replayed-taken}
use Rattle.njh_replay.proofs.PrintSteps.{replayed-to_message, replayed-whole, PrintsRun}
use Rattle.njh_replay.proofs.replaying.replay.Goals as goal

pub returns-clause-replayed : goal.returns-clause-replayed
returns-clause-replayed g c =
    let left = g.R.Read.remaining c.args.script.now in
    let old = g.W.Write.contents c.args.out.now in
    let new = g.W.Write.contents c.print_events.new.out in
    let printed = subst (λ events. PrintsRun c.args.tables events c.print_events.result old new) c.deref.ensures.value
    c.print_events.ensures.printed in
    replayed-whole c.args.tables left old new c.in_ok-events.events.items c.in_ok-events.ensures.good
    c.print_events.result printed

pub returns-clause-begun : goal.returns-clause-begun
returns-clause-begun g c =
    let left = g.R.Read.remaining c.args.script.now in
    let old = g.W.Write.contents c.args.out.now in
    let new = g.W.Write.contents c.print_events.new.out in
    let printed = subst (λ events. PrintsRun c.args.tables events c.print_events.result old new) c.deref.ensures.value
    c.print_events.ensures.printed in
    replayed-begun c.args.tables left old new c.in_ok-events.events.items c.in_ok-events.ensures.good
    c.print_events.result printed

pub returns-clause-memory : goal.returns-clause-memory
returns-clause-memory g c =
    let left = g.R.Read.remaining c.args.script.now in
    let old = g.W.Write.contents c.args.out.now in
    let new = g.W.Write.contents c.print_events.new.out in
    let printed = subst (λ events. PrintsRun c.args.tables events c.print_events.result old new) c.deref.ensures.value
    c.print_events.ensures.printed in
    replayed-memory c.args.tables left old new c.in_ok-events.events.items c.in_ok-events.ensures.good
    c.print_events.result printed

pub returns-clause-message : goal.returns-clause-message
returns-clause-message g c = λ why of_message stopped.
    let left = g.R.Read.remaining c.args.script.now in
    let old = g.W.Write.contents c.args.out.now in
    let new = g.W.Write.contents c.print_events.new.out in
    let printed = subst (λ events. PrintsRun c.args.tables events c.print_events.result old new) c.deref.ensures.value
    c.print_events.ensures.printed in
    replayed-to_message c.args.tables left old new c.in_ok-events.events.items c.in_ok-events.ensures.good
    c.print_events.result printed why of_message stopped

pub returns-clause-orders : goal.returns-clause-orders
returns-clause-orders g c =
    let left = g.R.Read.remaining c.args.script.now in
    let old = g.W.Write.contents c.args.out.now in
    let new = g.W.Write.contents c.print_events.new.out in
    let parts = map part_at_open (entries_of c.args.tables) in
    let taken = subst (λ events. OnOk c.print_events.result (AreTaken parts events)) c.deref.ensures.value
    c.print_events.ensures.orders in
    replayed-taken c.args.tables left old new c.in_ok-events.events.items c.in_ok-events.ensures.good
    c.print_events.result taken

-- a script that isn't read ends no run at a message
pub returns-in_err-events-clause-message : goal.returns-in_err-events-clause-message
returns-in_err-events-clause-message g c = λ why of_message stopped.
    no_message c.from_residual.result _ why _ c.from_residual.ensures.1 c.in_err-events.ensures.memory of_message
    stopped
