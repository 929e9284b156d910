use Rattle.std.proofs.Common.{◌≡◌, ◌<◌, length, drop, ap, ◌∙◌, refl, arith, rules}
use Rattle.njh_record.proofs.WritingLaws.{length-spelling_of-step, length-spelling_of-done, length-spelling_of-record}
use Rattle.njh_record.proofs.writing.spelled_len.Goals as goal

pub overflow_add-len : goal.overflow_add-len
overflow_add-len c =
    let some : 0 < length c.loop-rest.rest.now = search rules in
    let step = length-spelling_of-step c.loop-rest.rest.now _ _ some refl refl in
    omega (arith, step, c.first_lens-spells.ensures.takes, length-spelling_of-record c.args.contents.now c.requires)

pub loop-rest-preserved : goal.loop-rest-preserved
loop-rest-preserved c =
    let some : 0 < length c.loop-rest.rest.now = search rules in
    let left = c.split_at.ensures.back ∙ ap (λ n. drop n c.loop-rest.rest.now) c.first_lens-spells.ensures.spells in
    omega (arith, c.first_lens-spells.ensures.takes, length-spelling_of-step _ _ _ some refl left)

pub returns : goal.returns
returns c =
    let done : length c.loop-rest.rest.now ≡ 0 = search rules in
    omega (arith, length-spelling_of-done _ done)
