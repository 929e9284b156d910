use Rattle.njh_keeper.proofs.Words
use Words.{ℕ, ◌+◌, List, sym, subst, Stored}
use Rattle.njh_keeper.proofs.GatheringLaws.{one_more_gathered}
use Rattle.njh_keeper.specs.{code.Gathering.{Gathers, IsRecordAt}}
use Rattle.njh_keeper.proofs.next_row.NextRow.add.Goals as goal

pub returns-clause-gathers : goal.returns-clause-gathers
returns-clause-gathers g c =
    let mid = c.make_room.new.self in
    let r : Stored = record { srcb = c.args.srcb; bytes = c.args.bytes.now } in
    λ all has is. subst (λ (bs : List ℕ). Gathers all (record mid { count = mid.count + 1; pack = bs }))
    (sym c.push.ensures) (one_more_gathered all mid (c.in_ok-make_room.ensures.gathers all has) r
    (subst (λ n. IsRecordAt all n r) (sym c.in_ok-make_room.ensures.next) is))

pub returns-clause-led : goal.returns-clause-led
returns-clause-led g c clean = λ all has is. c.in_ok-make_room.ensures.led clean all has

pub returns-clause-forward : goal.returns-clause-forward
returns-clause-forward g c =
    let forward = c.in_ok-make_room.ensures.forward in
    record { key = forward.key; place = forward.place; counted = forward.counted; others = forward.others }
