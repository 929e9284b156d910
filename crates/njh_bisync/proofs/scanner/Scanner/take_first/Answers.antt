use Rattle.std.proofs.Common.{◌∙◌, ap, drop, refl}
use Rattle.njh_bisync.specs.ByteSteps.{feed_outcome}
use Rattle.njh_bisync.specs.Reading.{Nothing}
use Rattle.njh_bisync.proofs.RunLaws.{fed-begin}
use Rattle.njh_bisync.proofs.scanner.Scanner.take_first.Goals as goal

pub returns-then-begins_text-clause-goes_on : goal.returns-then-begins_text-clause-goes_on
returns-then-begins_text-clause-goes_on c =
    let bytes = c.args.bytes.now in
    rw (c.requires.place, c.begin_text.ensures.none, c.begin_text.ensures.rest)
    (ap (feed_outcome Nothing) (c.if-begins_text.ensures refl) ∙ fed-begin (drop 2 bytes))
