use Rattle.std.proofs.Common.{ap, sym, ◌∙◌, take}
use Rattle.std.specs.Prelude.{◌||◌, option_map, Some, None}
use Rattle.njh_bisync.specs.LentFrames.{received_of}
use Rattle.njh_link.specs.Links.{LinkState, after_written}
use Rattle.njh_link.proofs.StepLaws.{written_state, frame_state, coming_over, coming_same}
use Rattle.njh_link.proofs.link.Link.write.Goals as goal

pub returns-in_default-clause-written : goal.returns-in_default-clause-written
returns-in_default-clause-written c =
    let inside = c.self.inside in
    let s : LinkState = record {
      coming = inside.reader;
      giving = inside.giving;
      written = inside.deframer;
      waiting = inside.waiting;
      talk = inside.talk;
      broken = inside.broken;
    } in
    written_state s c.args.bytes.now c.feed.result.0 None c.feed.follows.lender-at-none c.feed.ensures.taken
    (sym (ap (option_map received_of) c.in_default.is) ∙ c.feed.ensures.frame) c.feed.follows.holds-at-none
    ∙ ap (after_written (take c.feed.result.0 c.args.bytes.now)) c.self.view_is

pub returns-then-is_some-clause-written : goal.returns-then-is_some-clause-written
returns-then-is_some-clause-written c =
    let inside = c.self.inside in
    let frame = received_of c.in-Some.frame in
    let talk = c.act-breaks.new.talk in
    let s : LinkState = record {
      coming = inside.reader;
      giving = inside.giving;
      written = inside.deframer;
      waiting = inside.waiting;
      talk = inside.talk;
      broken = inside.broken;
    } in
    let next : LinkState = record s { written = c.feed.follows.lender-at-none } in
    frame_state next frame c.end_contact.new.self c.act-breaks.new.waiting talk (inside.broken || c.act-breaks.result)
    (c.end_contact.ensures ∙ coming_over talk.bcb inside.reader (sym c.is_some.ensures ∙ c.if-is_some.true))
    c.act-breaks.ensures.waiting c.act-breaks.ensures.talk (ap (λ b. inside.broken || b) c.act-breaks.ensures.breaks)
    ∙ (written_state s c.args.bytes.now c.feed.result.0 (Some frame) c.feed.follows.lender-at-none c.feed.ensures.taken
    (sym (ap (option_map received_of) c.in-Some.is) ∙ c.feed.ensures.frame) c.feed.follows.holds-at-none
    ∙ ap (after_written (take c.feed.result.0 c.args.bytes.now)) c.self.view_is)

pub returns-else-is_some-clause-written : goal.returns-else-is_some-clause-written
returns-else-is_some-clause-written c =
    let inside = c.self.inside in
    let frame = received_of c.in-Some.frame in
    let talk = c.act-breaks.new.talk in
    let s : LinkState = record {
      coming = inside.reader;
      giving = inside.giving;
      written = inside.deframer;
      waiting = inside.waiting;
      talk = inside.talk;
      broken = inside.broken;
    } in
    let next : LinkState = record s { written = c.feed.follows.lender-at-none } in
    frame_state next frame inside.reader c.act-breaks.new.waiting talk (inside.broken || c.act-breaks.result)
    (coming_same talk.bcb inside.reader (sym c.is_some.ensures ∙ c.if-is_some.false))
    c.act-breaks.ensures.waiting c.act-breaks.ensures.talk (ap (λ b. inside.broken || b) c.act-breaks.ensures.breaks)
    ∙ (written_state s c.args.bytes.now c.feed.result.0 (Some frame) c.feed.follows.lender-at-none c.feed.ensures.taken
    (sym (ap (option_map received_of) c.in-Some.is) ∙ c.feed.ensures.frame) c.feed.follows.holds-at-none
    ∙ ap (after_written (take c.feed.result.0 c.args.bytes.now)) c.self.view_is)
