use Rattle.std.proofs.Common.{◌≡◌, ◌++◌, take}
use Rattle.njh_check.specs.ScriptChecks.{shown_word}
use Rattle.njh_check.proofs.script_words.put_shown.Given as goal

abbrev pub invariant-loop-byte : goal.invariant-loop-byte
invariant-loop-byte l = l.words.items ≡ l.initial.words.items ++ shown_word (take l.byte-index l.word)
