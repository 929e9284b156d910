use Rattle.std.proofs.Common.{◌≡◌, map, take}
use Rattle.njh_ebcdic.specs.Names.{upper}
use Rattle.njh_command.proofs.words.capitals.Given as goal

abbrev pub invariant-loop-byte : goal.invariant-loop-byte
invariant-loop-byte g l = l.folded.items ≡ map upper (take l.byte-index l.word)
