use Rattle.std.proofs.Common.{◌≡◌, ◌<◌, ◌≤◌, ◌++◌, ◌∷◌, [], length, drop, ap, ◌∙◌, arith, rules, length-append}
use Rattle.njh_record.specs.Writing.{spelling_of}
use Rattle.njh_record.proofs.WritingLaws.{spelling_of-step, spelling_of-room, spelling_of-done}
use Rattle.njh_record.proofs.writing.add_spelling.Goals as goal

pub put-requires : goal.put-requires
put-requires g c =
    let some : 0 < length c.loop-rest.rest.now = search rules in
    let fits : length (c.args.out.now.items ++ spelling_of c.args.contents.now) ≤ g.row.N =
    omega (arith, c.requires, length-append c.args.out.now.items (spelling_of c.args.contents.now)) in
    let room = spelling_of-room _ _ _ _ _ some c.first_item-item.ensures.item fits c.loop-rest.invariant in
    (omega arith, (search rules, room))

pub loop-rest-preserved : goal.loop-rest-preserved
loop-rest-preserved g c =
    let some : 0 < length c.loop-rest.rest.now = search rules in
    let left = c.split_at.ensures.back ∙ ap (λ n. drop n c.loop-rest.rest.now) c.len.ensures in
    ap (λ out. out ++ spelling_of c.split_at.result.1.now) c.put.ensures
    ∙ spelling_of-step _ _ _ _ _ some c.first_item-item.ensures.item left c.loop-rest.invariant

pub push-requires : goal.push-requires
push-requires g c =
    let done : length c.loop-rest.rest.now ≡ 0 = search rules in
    let written = spelling_of-done _ _ _ done c.loop-rest.invariant in
    omega (
      arith,
      c.requires,
      ap length written,
      length-append c.loop-rest.out.items (0 ∷ []),
      length-append c.args.out.now.items (spelling_of c.args.contents.now),
    )

pub returns : goal.returns
returns g c =
    let done : length c.loop-rest.rest.now ≡ 0 = search rules in
    c.push.ensures.items ∙ spelling_of-done _ _ _ done c.loop-rest.invariant
