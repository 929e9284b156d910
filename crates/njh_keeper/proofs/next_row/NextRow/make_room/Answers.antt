use Rattle.njh_keeper.proofs.Words
use Words.{length, refl, ap, on_ok_weaker, arith}
use Rattle.njh_keeper.proofs.GatheringLaws.{no_row_leads, none_gathered, stays_there}
use Rattle.njh_keeper.specs.declared.next_row.NextRow.{NextRow}
use Rattle.njh_keeper.proofs.next_row.NextRow.make_room.Goals as goal

pub returns-then-has_room-clause-led : goal.returns-then-has_room-clause-led
returns-then-has_room-clause-led g c =
    let row = c.args.self.now in λ clean all has. no_row_leads row.key all row.place row.place refl

pub returns-then-has_room-clause-forward : goal.returns-then-has_room-clause-forward
returns-then-has_room-clause-forward g c = stays_there c.args.self.now c.args.writer.now

pub returns-clause-gathers : goal.returns-clause-gathers
returns-clause-gathers g c =
    on_ok_weaker c.begin_next.result (λ next all has. none_gathered all c.begin_next.new.self
    (ap (λ (r : NextRow). r.count) next) (ap (λ (r : NextRow). r.pack) next)) c.begin_next.ensures.next

pub returns-clause-next : goal.returns-clause-next
returns-clause-next g c =
    on_ok_weaker c.begin_next.result
    (λ next. omega (arith, ap (λ (r : NextRow). r.count) next, ap (λ (r : NextRow). r.place) next))
    c.begin_next.ensures.next

pub returns-clause-room : goal.returns-clause-room
returns-clause-room g c =
    on_ok_weaker c.begin_next.result (λ next. omega (arith, ap (λ (r : NextRow). length r.pack) next))
    c.begin_next.ensures.next
