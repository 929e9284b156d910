use Rattle.njh_ebcdic.proofs.Blanks.{padded-overlay}
use Rattle.njh_ebcdic.proofs.fields.pad.Goals as goal

pub returns : goal.returns
returns c = padded-overlay c.copy_from_slice.new.self c.args.word.now c.copy_from_slice.ensures.after
