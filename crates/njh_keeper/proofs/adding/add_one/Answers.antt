use Rattle.njh_keeper.proofs.Words
use Words.{◌≡◌, length, sym, ap, subst, ◌∙◌, arith, AllByRecursion, ok_then, shown, FileSummaryView, Writes}
use Words.{AddsRow, Leads, memory_of, stage_of, numbers_of, FitsHub, part, records_in, clean_before, survives_both}
use Rattle.njh_keeper.proofs.HandLaws.{add_leads}
use Rattle.njh_keeper.proofs.adding.add_one.Goals as goal

pub returns-clause-led : goal.returns-clause-led
returns-clause-led g c f hub_file clean =
    let mid = shown g.S.Store c.place_for.new.writer.store in
    let mid2 = shown g.S.Store c.write_rest.new.writer.store in
    let later = clean_before c.add_row.ensures.crash clean in
    let summary = c.args.summary.now in
    let before = stage_of g.S.Store c.args.writer.now c.args.own.now in
    let placed = stage_of g.S.Store c.place_for.new.writer c.place_for.new.own in
    let after = stage_of g.S.Store c.add_row.new.writer c.add_row.new.own in
    let m1 = placed.memory in
    let same : memory_of c.write_rest.new.writer c.place_for.new.own ≡ m1 =
    λ j. record { numbers = ap numbers_of c.in_ok-write_rest.ensures.others j; own = m1.own; text = m1.text } in
    let place = c.in_ok-place.place in
    let hand = c.in_ok-place.ensures.led f hub_file.number_is
    (ap (λ (x : FileSummaryView). x.records) hub_file.summary_is) (clean_before c.write_rest.ensures.crash later) in
    let finish = subst (λ rs. Leads (Writes place.key place.written rs) mid mid2) hub_file.records_are
    (c.in_ok-write_rest.ensures.led later) in
    let fits = subst (AllByRecursion FitsHub) hub_file.records_are c.see_storable.ensures in
    ok_then c.add_row.result _ _ (λ row.
    add_leads before placed f place.key place.written after summary hub_file.summary_is hub_file.headers fits hand
    finish
    (subst (λ x. AddsRow place.key place.written summary f (record { memory = x; shows = mid2 }) after) same row))
    (c.add_row.ensures.added f hub_file clean)

pub returns-clause-grows : goal.returns-clause-grows
returns-clause-grows g c f hub_file =
    let all = records_in c.args.file.now.number (part c.args.file.now.customer c.args.hub.now).customer.spool in
    let long : c.args.summary.now.records ≡ length all =
    ap (λ (x : FileSummaryView). x.records) hub_file.summary_is ∙ sym (ap length hub_file.records_are) in
    let placed = c.in_ok-place.ensures in
    let counted = c.in_ok-write_rest.ensures.counted in
    ok_then c.add_row.result _ _ (λ added. omega (arith, placed.rows, placed.waits)) c.add_row.ensures.rows

pub returns-in_err-write_rest-clause-crash : goal.returns-in_err-write_rest-clause-crash
returns-in_err-write_rest-clause-crash g c =
    survives_both c.place_for.ensures.crash c.write_rest.ensures.crash

pub returns-clause-crash : goal.returns-clause-crash
returns-clause-crash g c = survives_both c.place_for.ensures.crash
    (survives_both c.write_rest.ensures.crash c.add_row.ensures.crash)
