use Rattle.njh_keeper.proofs.Words
use Words.{ℕ, ◌+◌, List, subst, on_ok_weaker, arith, Record, with_record, Changes, shown}
use Rattle.njh_keeper.proofs.GatheringLaws.{no_row_leads, row_leads}
use Rattle.njh_keeper.proofs.next_row.NextRow.write.Goals as goal

pub returns-then-self-eq0-clause-led : goal.returns-then-self-eq0-clause-led
returns-then-self-eq0-clause-led g c =
    let row = c.args.self.now in
    λ clean all has. no_row_leads row.key all row.place (row.place + row.count) (omega arith)

pub returns-clause-led : goal.returns-clause-led
returns-clause-led g c =
    let row = c.args.self.now in
    let old = shown g.S.Store c.args.writer.now.store in
    let new = shown g.S.Store c.add_records.new.self.store in
    let kept : List ℕ → Record = λ bytes. record { key = row.key; place = row.place; srcb = 256; bytes = bytes } in
    λ clean. on_ok_weaker c.add_records.result (λ made all has. row_leads all row has (omega arith) (omega arith)
    (subst (λ bytes. Changes (with_record (kept bytes)) old new) c.bytes.ensures made))
    (c.add_records.ensures.changed clean)
