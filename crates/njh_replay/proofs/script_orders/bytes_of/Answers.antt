use Rattle.std.proofs.Common.{◌≡◌, ◌∙◌, ap, arith, length, lit<, map}
use Rattle.std.proofs.lemmas.List.{length-map}
use Rattle.std.proofs.lemmas.Iterator.{YieldsList-from_chars}
use Rattle.std.proofs.lemmas.Iterator.Consumers.{YieldsList-end, YieldsList-turn}
use Rattle.njh_ebcdic.specs.CodePage.{page_byte}
use Rattle.njh_replay.proofs.script_orders.bytes_of.Goals as goal

pub push-requires : goal.push-requires
push-requires c =
    let turn = YieldsList-turn (YieldsList-from_chars c.args.text.now c.utf8.text cc)
    c.loop-character.yielded _ c.loop-character.yielded_by _ _ c.in-Some.character c.in-Some.is c.next.ensures.steps in
    let same : length c.loop-character.bytes.items ≡ length c.loop-character.yielded =
    ap length c.loop-character.invariant ∙ length-map (map (λ c. c) c.loop-character.yielded) page_byte
    ∙ length-map c.loop-character.yielded (λ c. c) in
    (lit< tt, omega (arith, turn.0, same, c.requires))

pub returns : goal.returns
returns c =
    let ended = YieldsList-end (YieldsList-from_chars c.args.text.now c.utf8.text cc)
    c.loop-character.yielded _ c.loop-character.yielded_by _ _ c.in-None.is c.next.ensures.steps in
    c.loop-character.invariant ∙ ap (map page_byte) ended.0
