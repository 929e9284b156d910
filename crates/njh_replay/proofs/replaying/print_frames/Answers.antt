use Rattle.std.proofs.Common.{◌≡◌, sym, ◌∙◌}
use Rattle.njh_hub.specs.OwnEvents.{first_events}
use Rattle.njh_hub.specs.WholeHub.{hub_run}
use Rattle.njh_hub.proofs.OrderLaws.{sent_in_order}
use Rattle.njh_hub.proofs.RunLaws.{each_is_alone}
use Rattle.njh_io.specs.Written.{AppendsBeginning}
use Rattle.njh_replay.specs.Printed.{frames_text}
use Rattle.njh_replay.proofs.PrintedParts.{beginning-part}
use Rattle.njh_replay.proofs.ReplayLaws.{led_to, MayStop-stopped, printed_begins, sink_or_memory, stopped_begun}
use Rattle.njh_replay.proofs.ReplayLaws.{stopped_short}
use Rattle.njh_replay.proofs.replaying.print_frames.Goals as goal

-- the hub is what the run over all events leaves
pub returns-in-Ok-clause-after : goal.returns-in-Ok-clause-after
returns-in-Ok-clause-after g c =
    let start = c.args.hub.now in
    led_to start c.run.new.self c.args.events.now c.run.ensures.customers
    (λ customer there. c.in-Ok.ensures.parts customer there
    ∙ sym (each_is_alone customer start c.args.events.now there).after)

pub returns-in-Err-clause-printed : goal.returns-in-Err-clause-printed
returns-in-Err-clause-printed g c =
    let fault = c.in-Err.fault in
    let contents = g.W.Write.contents in
    let names = c.args.printer.now.names.now in
    let start = c.args.hub.now in
    let events = c.args.events.now in
    let sent = (hub_run start (first_events events fault.events fault.bytes)).sent in
    let whole = (hub_run start events).sent in
    let begins = sent_in_order start events fault.events fault.bytes in
    let begun : AppendsBeginning (contents c.args.printer.now.out.now) (contents c.run.new.sink.out.now)
    (frames_text names whole) =
    stopped_begun _ _ fault.cause _ _ sent whole _ c.in-Err.ensures.handed begins
    (λ front more printed all. printed_begins names _ _ _ front more whole printed.1 all)
    (λ front last between more printed part all. beginning-part names _ _ _ _ front last more whole printed.1 _ part.1
    all) in
    let so = sink_or_memory start events fault.events c.requires.named c.requires.without fault.cause
    c.in-Err.ensures.causes in (
      begun,
      rw c.fault_after.ensures (MayStop-stopped fault.cause so),
      rw c.fault_after.ensures
          (stopped_short _ _ names start events fault.events fault.bytes fault.cause _ _ _ _ so c.in-Err.ensures.handed
          c.in-Err.ensures.causes c.in-Err.ensures.memory (λ printed. printed.1.1)),
    )

-- it writes on where it wrote
pub returns-in-Err-clause-same_reference : goal.returns-in-Err-clause-same_reference
returns-in-Err-clause-same_reference g c =
    let fault = c.in-Err.fault in
    let start = c.args.hub.now in
    let events = c.args.events.now in
    let sent = (hub_run start (first_events events fault.events fault.bytes)).sent in
    stopped_begun _ _ fault.cause _ _ sent (hub_run start events).sent
    (c.run.new.sink.out.ghost_name ≡ c.args.printer.now.out.ghost_name) c.in-Err.ensures.handed
    (sent_in_order start events fault.events fault.bytes)
    (λ front more printed all. printed.0)
    (λ front last between more printed part all. part.0 ∙ printed.0)
