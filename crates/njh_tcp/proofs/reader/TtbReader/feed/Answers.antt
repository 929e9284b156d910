use Rattle.std.proofs.Common.{rules, ◌≡◌, refl}
use Rattle.std.specs.Prelude.{Some, None}
use Rattle.njh_tcp.specs.ByteSteps.{feed_outcome}
use Rattle.njh_tcp.specs.LentFrames.{outcome_of}
use Rattle.njh_tcp.proofs.ReadsLaws.{feeds}
use Rattle.njh_tcp.proofs.reader.TtbReader.feed.Goals as goal

pub returns-in-Some : goal.returns-in-Some
returns-in-Some c =
    let f = feed_outcome c.args.self.now c.args.piece.now in
    let taken : c.scan-taken.result.0 ≡ f.taken = cc in
    let outcome : Some (outcome_of c.frame.result) ≡ f.outcome = search rules in
    let told = feeds c.args.self.now c.args.piece.now c.scan-taken.result.0 (Some (outcome_of c.frame.result)) taken
    outcome in (
      (refl, λ _. tt, search rules),
      record {
        taken = taken;
        outcome = outcome;
        progress = (told.goes_on.within, told.goes_on.some);
        first = told.first;
        goes_on = told.goes_on;
        short = c.frame.ensures.short;
        rest = tt;
      },
    )

pub returns-in-None : goal.returns-in-None
returns-in-None c =
    let f = feed_outcome c.args.self.now c.args.piece.now in
    let taken : c.scan-taken.result.0 ≡ f.taken = cc in
    let outcome : None ≡ f.outcome = search rules in
    let told = feeds c.args.self.now c.args.piece.now c.scan-taken.result.0 None taken outcome in (
      (refl, λ _. tt, search rules),
      record {
        taken = taken;
        outcome = outcome;
        progress = (told.goes_on.within, told.goes_on.some);
        first = told.first;
        goes_on = told.goes_on;
        short = tt;
        rest = tt;
      },
    )
