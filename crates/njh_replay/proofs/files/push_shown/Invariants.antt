use Rattle.std.proofs.Common.{◌≡◌, ◌++◌, take}
use Rattle.njh_ebcdic.specs.Characters.{shown_text}
use Rattle.njh_replay.proofs.files.push_shown.Given as goal

abbrev pub invariant-loop-byte : goal.invariant-loop-byte
invariant-loop-byte l = l.line.items ≡ l.initial.line.items ++ shown_text (take l.byte-index l.ebcdic)
