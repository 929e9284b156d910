use Rattle.std.proofs.Common.{rules, ◌≡◌, refl}
use Rattle.std.specs.Prelude.{Some, None}
use Rattle.njh_bisync.specs.ByteSteps.{feed_outcome}
use Rattle.njh_bisync.specs.LentFrames.{received_of}
use Rattle.njh_bisync.proofs.FedLaws.{feeds}
use Rattle.njh_bisync.proofs.deframer.Deframer.feed.Goals as goal

pub returns-in-Some : goal.returns-in-Some
returns-in-Some c =
    let f = feed_outcome c.args.self.now c.args.piece.now in
    let taken : c.scan-taken.result.0 ≡ f.taken = cc in
    let frame : Some (received_of c.frame.result) ≡ f.frame = search rules in
    let told = feeds c.args.self.now c.args.piece.now c.scan-taken.result.0 (Some (received_of c.frame.result)) taken
    frame in (
      (refl, λ _. tt, search rules),
      record {
        taken = taken;
        frame = frame;
        progress = (told.goes_on.within, told.goes_on.some);
        first = told.first;
        goes_on = told.goes_on;
        short = c.frame.ensures.short;
        rest = tt;
      },
    )

pub returns-in-None : goal.returns-in-None
returns-in-None c =
    let f = feed_outcome c.args.self.now c.args.piece.now in
    let taken : c.scan-taken.result.0 ≡ f.taken = cc in
    let frame : None ≡ f.frame = search rules in
    let told = feeds c.args.self.now c.args.piece.now c.scan-taken.result.0 None taken frame in (
      (refl, λ _. tt, search rules),
      record {
        taken = taken;
        frame = frame;
        progress = (told.goes_on.within, told.goes_on.some);
        first = told.first;
        goes_on = told.goes_on;
        short = tt;
        rest = tt;
      },
    )
