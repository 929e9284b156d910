use Rattle.std.proofs.Common.{◌≡◌, map}
use Rattle.njh_ebcdic.specs.CodePage.{page_byte}
use Rattle.njh_replay.proofs.script_orders.bytes_of.Given as goal

abbrev pub invariant-loop-character : goal.invariant-loop-character
invariant-loop-character l = l.bytes.items ≡ map page_byte (map (λ c. c) l.yielded)
