use Rattle.std.proofs.Common.{refl, arith}
use Rattle.std.proofs.lemmas.List.Elements.{All-from_get_or}
use Rattle.std.proofs.lemmas.Str.{is_utf8-from_IsUtf8}
use Rattle.percent_encoding.proofs.PercentLemmas.{round_trip, IsByte}
use Rattle.njh_ctl.proofs.request_text.escaped.Goals as goal

pub returns-clause-plain : goal.returns-clause-plain
returns-clause-plain c =
    let small = All-from_get_or IsByte c.args.path.now 0 (λ i within. omega (arith, c.type_inv.path i)) in
    rw (c.in_ok-append_to.ensures.ok, c.new-text.ensures.bytes, c.utf8_percent_encode.ensures.text)
    (round_trip _ _ refl small)

pub returns-clause-text : goal.returns-clause-text
returns-clause-text c = is_utf8-from_IsUtf8 c.args.path.now c.utf8.path

pub returns-in_err-append_to-clause-text : goal.returns-in_err-append_to-clause-text
returns-in_err-append_to-clause-text c = is_utf8-from_IsUtf8 c.args.path.now c.utf8.path
