use Rattle.std.proofs.Common.{◌≡◌, ◌++◌, take}
use Rattle.njh_ebcdic.specs.CodePage.{text_words}
use Rattle.njh_ebcdic.proofs.code_page.put_characters.Given as goal

abbrev pub invariant-loop-byte : goal.invariant-loop-byte
invariant-loop-byte l = l.text.items ≡ l.fn.text.items ++ text_words (take l.byte-index l.bytes)
