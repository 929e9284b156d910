use Rattle.std.proofs.Common.{take}
use Rattle.std.specs.Fmt.{HasWritten, IsPlainFormatter}
use Rattle.njh_request.specs.Quotes.{shown_bytes}
use Rattle.njh_request.proofs.quote.QuoteDisplay.fmt.Given as goal

abbrev pub invariant-loop-byte : goal.invariant-loop-byte
invariant-loop-byte g l =
    IsPlainFormatter l.initial.f → HasWritten g.W.Write.write_str_gives l.initial.f
    (shown_bytes (take l.byte-index l.byte-items)) l.f
