use Rattle.njh_keeper.proofs.Words
use Words.{◌≡◌, ◌+◌, ◌≤◌, List, length, drop, slice_get, refl, sym, ap, subst, ◌∙◌, arith}
use Words.{on_ok_weaker, Stored, shown, records_numbered, records_in, part}
use Words.{Leads, option_map}
use Rattle.njh_keeper.proofs.GatheringLaws.{no_row_leads, none_gathered, rows_lead}
use Rattle.njh_keeper.proofs.LeadingLaws.{clean_before, survives_both, survives_here}
use Rattle.njh_keeper.proofs.ReachLaws.{bytes_read, next_stands, nothing_left, rest_is_read}
use Rattle.njh_keeper.proofs.ReachLaws.{one_fewer_left, only_waits, rest_done}
use Rattle.njh_keeper.specs.code.Gathering.{Continues, IsRecordAt}
use Rattle.njh_keeper.specs.declared.next_row.NextRow.{NextRow}
use Rattle.njh_keeper.proofs.hub_records.write_rest.Goals as goal

pub returns-then-written-count-clause-led : goal.returns-then-written-count-clause-led
returns-then-written-count-clause-led g c =
    let all = records_in c.args.file.now.number (part c.args.file.now.customer c.args.hub.now).customer.spool in
    λ clean. nothing_left c.args.key c.args.written all
    (omega (arith, c.record_count-count.ensures, c.if-written-count.true))

pub loop-init : goal.loop-init
loop-init g c =
    let spool = (part c.args.file.now.customer c.args.hub.now).customer.spool in
    let all = records_in c.args.file.now.number spool in
    let old = shown g.S.Store c.args.writer.now.store in
    let row = c.new-row.result in
    let place = ap (λ (r : NextRow). r.place) c.new-row.ensures in
    let count = ap (λ (r : NextRow). r.count) c.new-row.ensures in
    record {
      crash = survives_here old (λ _. ⊥);
      led = λ clean. no_row_leads c.args.key all c.args.written row.place (sym place);
      left = rest_is_read c.args.file.now.number c.args.written spool c.in-Some.records
          (sym {b = option_map (λ records. drop c.args.written records) (records_numbered c.args.file.now.number spool)}
          c.read_file_from.ensures ∙ c.in-Some.is);
      others = refl;
      counted = omega (arith, place);
      gathers = none_gathered all row count (ap (λ (r : NextRow). r.pack) c.new-row.ensures);
      behind = omega (arith, place);
      next = omega (arith, place, count);
      key = ap (λ (r : NextRow). r.key) c.new-row.ensures;
    }

pub loop-preserved : goal.loop-preserved
loop-preserved g c =
    let all = records_in c.args.file.now.number (part c.args.file.now.customer c.args.hub.now).customer.spool in
    let at = c.loop.counter in
    let row = c.loop.row in
    let so_far = c.loop.invariant in
    let mid = shown g.S.Store c.loop.writer.store in
    let r : Stored = record { srcb = c.in-Some-next.srcb; bytes = c.next.new.into.items } in
    let stands = next_stands all at r (c.in-Some-next.ensures.first
    ∙ ap (λ (rs : List Stored). slice_get rs 0) so_far.left) in
    let bytes = c.deref-bytes.result.now in
    let is = bytes_read all at c.in-Some-next.srcb c.next.new.into.items bytes c.deref-bytes.ensures.0 stands.1 in
    let now = c.add.new.self in
    let new = shown g.S.Store c.add.new.writer.store in
    let here : row.place + row.count ≡ at = so_far.next in
    let read : Stored = record { srcb = c.in-Some-next.srcb; bytes = bytes } in
    let next_is : IsRecordAt all (row.place + row.count) read =
    subst (λ n. IsRecordAt all n read) (sym here) (stands.0, is) in
    let forward = c.in_ok-add.ensures.forward in
    let next = c.in_ok-add.ensures.next in
    record {
      crash = survives_both so_far.crash c.add.ensures.crash;
      led = λ clean. rows_lead c.args.key all c.args.written row.place now.place so_far.behind
          (so_far.led (clean_before c.add.ensures.crash clean))
          (subst (λ k. Leads (Continues k all row.place now.place) mid new) so_far.key
          (c.in_ok-add.ensures.led clean all so_far.gathers next_is));
      left = c.in-Some-next.ensures.rest ∙ ap (λ (rs : List Stored). drop 1 rs) so_far.left ∙ one_fewer_left all at;
      others = only_waits c.args.writer.now c.loop.writer c.add.new.writer c.add.new.writer.waiting
          so_far.others forward.others;
      counted = omega (arith, so_far.counted, forward.counted, forward.place, so_far.behind);
      gathers = c.in_ok-add.ensures.gathers all so_far.gathers next_is;
      behind = omega (arith, so_far.behind, forward.place);
      next = omega (arith, next, here);
      key = forward.key ∙ so_far.key;
    }

-- ---- none is left

pub returns-clause-led : goal.returns-clause-led
returns-clause-led g c =
    let all = records_in c.args.file.now.number (part c.args.file.now.customer c.args.hub.now).customer.spool in
    let row = c.loop.row in
    let so_far = c.loop.invariant in
    let mid = shown g.S.Store c.loop.writer.store in
    let new = shown g.S.Store c.write.new.writer.store in
    let end = row.place + row.count in
    let past : length all ≤ c.loop.counter =
    omega (arith, c.loop.auto.counter-end, c.loop-test.false, c.record_count-count.ensures) in
    λ clean. on_ok_weaker c.write.result
    (λ more. rest_done c.args.key c.args.written all end
    (omega (arith, c.record_count-count.ensures, c.if-written-count.false)) (omega (arith, so_far.next, past))
    (rows_lead c.args.key all c.args.written row.place end so_far.behind
    (so_far.led (clean_before c.write.ensures.crash clean))
    (subst (λ k. Leads (Continues k all row.place end) mid new) so_far.key (more all so_far.gathers))))
    (c.write.ensures.led clean)

pub returns-clause-others : goal.returns-clause-others
returns-clause-others g c =
    on_ok_weaker c.write.result (only_waits c.args.writer.now c.loop.writer c.write.new.writer
    c.write.new.writer.waiting c.loop.invariant.others) c.write.ensures.others

pub returns-clause-counted : goal.returns-clause-counted
returns-clause-counted g c =
    let all = records_in c.args.file.now.number (part c.args.file.now.customer c.args.hub.now).customer.spool in
    let so_far = c.loop.invariant in
    let past : length all ≤ c.loop.counter =
    omega (arith, c.loop.auto.counter-end, c.loop-test.false, c.record_count-count.ensures) in
    on_ok_weaker c.write.result (λ more. omega (arith, more, past, so_far.counted, so_far.next, so_far.behind))
    c.write.ensures.counted

pub returns-clause-crash : goal.returns-clause-crash
returns-clause-crash g c = survives_both c.loop.invariant.crash c.write.ensures.crash

pub returns-in_err-add-clause-crash : goal.returns-in_err-add-clause-crash
returns-in_err-add-clause-crash g c = survives_both c.loop.invariant.crash c.add.ensures.crash
