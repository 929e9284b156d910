use Rattle.std.proofs.Common.{length}
use Rattle.njh_record.specs.code.Parts.{HasRead}
use Rattle.njh_record.proofs.unspelling.read_parts.Given as goal

abbrev pub invariant-loop-part : goal.invariant-loop-part
invariant-loop-part l = HasRead l.bytes l.rest l.contents.items l.fits

abbrev pub decreases-loop-part : goal.decreases-loop-part
decreases-loop-part l = length l.rest
