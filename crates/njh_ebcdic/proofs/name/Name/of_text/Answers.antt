use Rattle.std.proofs.Common.{ap, ◌∙◌, arith, unwrap_or, take}
use Rattle.std.specs.Str.{chars}
use Rattle.std.proofs.lemmas.Iterator.{YieldsList-from_chars}
use Rattle.std.proofs.lemmas.Iterator.Consumers.{YieldsList-turn, YieldsList-end, YieldsList-from_enumerate}
use Rattle.std.proofs.lemmas.List.{length_push}
use Rattle.std.proofs.lemmas.List.FromFn.{length-enumerate_from}
use Rattle.njh_ebcdic.specs.Reading.{name_of_word}
use Rattle.njh_ebcdic.proofs.Filled.{IsTurn-enumerated, IsFilledTo-more, IsFilledTo-all}
use Rattle.njh_ebcdic.proofs.name.Name.of_text.Goals as goal

pub bounds-word-place : goal.bounds-word-place
bounds-word-place c =
    let item = YieldsList-turn
    (YieldsList-from_enumerate
    (YieldsList-from_chars c.args.text.now c.utf8.text cc) cc) c.loop-place.yielded _ c.loop-place.yielded_by _ _
    (c.in-Some.place, c.in-Some.character) c.in-Some.is c.next.ensures.steps in
    let turn = IsTurn-enumerated _ _ _ _ item.0 item.1 in
    omega (arith, turn.more, turn.there)

pub loop-place-preserved : goal.loop-place-preserved
loop-place-preserved c =
    let item = YieldsList-turn
    (YieldsList-from_enumerate
    (YieldsList-from_chars c.args.text.now c.utf8.text cc) cc) c.loop-place.yielded _ c.loop-place.yielded_by _ _
    (c.in-Some.place, c.in-Some.character) c.in-Some.is c.next.ensures.steps in
    let turn = IsTurn-enumerated _ _ _ _ item.0 item.1 in
    let byte = c.unwrap_or.ensures ∙ ap (λ o. unwrap_or o 64) c.byte_of.ensures in
    rw length_push (IsFilledTo-more _ _ _ _ _ _ turn (omega (arith, turn.more)) byte c.loop-place.invariant)

pub returns : goal.returns
returns c =
    let ended = YieldsList-end
    (YieldsList-from_enumerate
    (YieldsList-from_chars c.args.text.now c.utf8.text cc) cc)
    c.loop-place.yielded _ c.loop-place.yielded_by _ _ c.in-None.is c.next.ensures.steps in
    let count = ended.1 ∙ length-enumerate_from 0 (chars c.args.text.now) in
    let same = IsFilledTo-all _ _ (rw count at c.loop-place.invariant) in
    c.of_word.ensures ∙ (ap (λ n. name_of_word (take n c.loop-place.word)) c.count_characters-count.ensures
    ∙ ap name_of_word same)
