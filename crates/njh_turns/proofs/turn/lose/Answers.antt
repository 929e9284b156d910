use Rattle.std.proofs.Common.{refl}
use Rattle.njh_turns.specs.Keeping.{by_signal}
use Rattle.njh_turns.proofs.turn.lose.Goals as goal

pub follow-requires : goal.follow-requires
follow-requires g c = record {
  led = (c.args.hub.now, c.requires.follows, (_, by_signal c.args.at.line.number _ refl, c.take_signal.ensures.hub));
  asked = c.requires.asked;
}

pub returns-clause-follows : goal.returns-clause-follows
returns-clause-follows g c = record {
  known = c.follow.ensures.known;
  leaves = c.follow.ensures.leaves;
  faultless = c.follow.ensures.faultless;
  counts = c.follow.ensures.counts;
  counted = c.follow.ensures.counted;
}
