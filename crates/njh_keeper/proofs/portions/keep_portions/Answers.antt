use Rattle.njh_keeper.proofs.Words
use Words.{map, sym, ap, subst, arith, AllByRecursion, HasCleanDisk, ok_then, shown, part, own_of, partial_of}
use Words.{IsUpToDate, on_ok, clean_before, survives_both, rows_of}
use Rattle.njh_keeper.proofs.{CountingLaws.{inr_then, ok_both}, PortionLaws.{closed_are_seen, keeps_still, keeps_then}}
use Rattle.njh_keeper.specs.declared.own_files.OwnFiles.{OwnFiles}
use Rattle.njh_keeper.proofs.portions.keep_portions.Goals as goal

pub returns-clause-kept : goal.returns-clause-kept
returns-clause-kept g c =
    let now = (part c.args.customer c.args.hub.now).customer.spool in
    let old = c.args.writer.now in
    let one = c.keep_of_lines.new.writer in
    let own1 = c.keep_of_lines.new.own in
    let own2 = c.drop_given_up.new.own in
    let both = keeps_then g.S.Store now old one one c.args.own.now own1 own2
    (λ (clean : HasCleanDisk (shown g.S.Store one.store)). clean) c.in_ok-keep_of_lines.ensures.kept
    (keeps_still g.S.Store now one own1 own2 (c.in_ok-drop_given_up.ensures.kept now)) in
    ok_then c.sweep.result _ _
    (λ swept. keeps_then g.S.Store now old one c.sweep.new.writer c.args.own.now own2 c.sweep.new.own
    (clean_before c.sweep.ensures.crash) both swept) (c.sweep.ensures.kept now)

pub returns-clause-seen : goal.returns-clause-seen
returns-clause-seen g c closed =
    let now = (part c.args.customer c.args.hub.now).customer.spool in
    let seen = c.in_ok-drop_given_up.ensures.seen now
    (c.in_ok-keep_of_lines.ensures.kept.seen (closed_are_seen now (own_of c.args.own.now) closed)) in
    on_ok c.sweep.result (subst (AllByRecursion (IsUpToDate now))
    (sym (ap (λ (o : OwnFiles). map partial_of o.partial.items) c.sweep.ensures.others)) seen)

pub returns-clause-bounded : goal.returns-clause-bounded
returns-clause-bounded g c low =
    let now = (part c.args.customer c.args.hub.now).customer.spool in
    let still = c.in_ok-drop_given_up.ensures.kept now in
    let rows = ap rows_of c.sweep.ensures.others in
    ok_then c.sweep.result _ _ (λ swept. inr_then (λ less. omega
    (arith, c.in_ok-keep_of_lines.ensures.kept.grows, still.rows, swept.0.grows)) swept.1)
    (ok_both c.sweep.result _ _ (c.sweep.ensures.kept now) c.sweep.ensures.swept)

pub returns-clause-crash : goal.returns-clause-crash
returns-clause-crash g c = survives_both c.keep_of_lines.ensures.crash c.sweep.ensures.crash
