use Rattle.std.proofs.Common.{length}
use Rattle.std.specs.Str.{chars}
use Rattle.njh_ebcdic.proofs.Filled.{IsFilledTo}
use Rattle.njh_ebcdic.proofs.name.Name.of_text.Given as goal

abbrev pub invariant-loop-place : goal.invariant-loop-place
invariant-loop-place l = IsFilledTo (chars l.text) l.word (length l.yielded)
