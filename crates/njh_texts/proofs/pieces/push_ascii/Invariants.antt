use Rattle.std.proofs.Common.{◌≡◌, ◌++◌, take}
use Rattle.njh_ebcdic.specs.Names.{ebcdic}
use Rattle.njh_texts.proofs.pieces.push_ascii.Given as goal

abbrev pub invariant-loop-character : goal.invariant-loop-character
invariant-loop-character l = l.text.items ≡ l.fn.text.items ++ ebcdic (take l.character-index l.character-items)
