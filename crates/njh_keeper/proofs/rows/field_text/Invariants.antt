use Rattle.{std.proofs.Common.{◌≡◌, take, string_bytes}, njh_ebcdic.specs.Characters.shown_text}
use Rattle.njh_keeper.proofs.rows.field_text.Given as goal

abbrev pub invariant-loop-byte : goal.invariant-loop-byte
invariant-loop-byte l = string_bytes l.text ≡ shown_text (take l.byte-index l.byte-items)
