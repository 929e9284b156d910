use Rattle.std.proofs.Common.{ap, ◌∙◌, take}
use Rattle.std.specs.Prelude.{option_map}
use Rattle.njh_tcp.specs.LentFrames.{outcome_of}
use Rattle.njh_link.specs.Links.{LinkState, after_came}
use Rattle.njh_link.proofs.StepLaws.{heard_state}
use Rattle.njh_link.proofs.link.Link.hear.Goals as goal

pub returns-clause-heard : goal.returns-clause-heard
returns-clause-heard c =
    let inside = c.self.inside in
    let s : LinkState = record {
      coming = inside.reader;
      giving = inside.giving;
      written = inside.deframer;
      waiting = inside.waiting;
      talk = inside.talk;
      broken = inside.broken;
    } in
    heard_state s c.args.piece.now c.keep.new.giving c.feed.result.0 (option_map outcome_of c.feed.result.1)
    c.feed.follows.lender-at-none c.keep.new.talk c.feed.ensures.taken c.feed.ensures.outcome
    c.feed.follows.holds-at-none c.keep.ensures.giving c.keep.ensures.talk
    ∙ ap (after_came (take c.feed.result.0 c.args.piece.now)) c.self.view_is
