use Rattle.std.proofs.Common.{refl}
use Rattle.{std.proofs.lemmas.Result.{IfErr-weaker, IfOk-weaker, on_ok_weaker}}
use Rattle.njh_keeper.proofs.LeadingLaws.{clean_before, survives_both}
use Rattle.njh_keeper.proofs.StepLaws.{come_back, found_in, ok_both, opens, stands_so, tells, told_of}
use Rattle.njh_keeper.proofs.opening.open_from.Goals as goal

pub returns-clause-hub : goal.returns-clause-hub
returns-clause-hub g c clean =
    let early = clean_before c.fill.ensures.crash clean in
    IfOk-weaker c.fill.result _ _ (λ opened is spool held.
    let f = found_in c.args.tables (c.in-Ok.ensures.same early) c.find.ensures.distinct c.in-Ok.ensures.names
    c.in-Ok-open.ensures.opened (c.in-Ok.ensures.files early) spool held in
    opens f.0 opened.hub (is spool f.1 f.0.files_are).hub) (c.fill.ensures.ok clean)

pub returns-clause-back : goal.returns-clause-back
returns-clause-back g c clean =
    let early = clean_before c.fill.ensures.crash clean in
    on_ok_weaker c.fill.result (λ keeps spool held.
    let f = found_in c.args.tables (c.in-Ok.ensures.same early) c.find.ensures.distinct c.in-Ok.ensures.names
    c.in-Ok-open.ensures.opened (c.in-Ok.ensures.files early) spool held in
    come_back f.0) (c.fill.ensures.keeps clean)

pub returns-clause-aside : goal.returns-clause-aside
returns-clause-aside g c clean =
    let early = clean_before c.fill.ensures.crash clean in
    IfOk-weaker c.fill.result _ _ (λ opened is spool held.
    let f = found_in c.args.tables (c.in-Ok.ensures.same early) c.find.ensures.distinct c.in-Ok.ensures.names
    c.in-Ok-open.ensures.opened (c.in-Ok.ensures.files early) spool held in
    told_of f.0 _ (is spool f.1 f.0.files_are).told_are) (c.fill.ensures.ok clean)

pub returns-clause-now : goal.returns-clause-now
returns-clause-now g c clean =
    let early = clean_before c.fill.ensures.crash clean in
    let same = c.in-Ok.ensures.same early in
    ok_both c.fill.result (c.fill.ensures.ok clean) (c.fill.ensures.keeps clean) (λ opened is keeps s stands.
    let f = found_in c.args.tables same c.find.ensures.distinct c.in-Ok.ensures.names
    c.in-Ok-open.ensures.opened (c.in-Ok.ensures.files early) s.now stands.now in
    stands_so f.0 s _ _ _ refl same keeps stands (is s.now f.1 f.0.files_are).holds)

pub returns-clause-refused : goal.returns-clause-refused
returns-clause-refused g c clean =
    let early = clean_before c.fill.ensures.crash clean in
    IfErr-weaker c.fill.result _ _ (λ fault stops spool held.
    let f = found_in c.args.tables (c.in-Ok.ensures.same early) c.find.ensures.distinct c.in-Ok.ensures.names
    c.in-Ok-open.ensures.opened (c.in-Ok.ensures.files early) spool held in
    tells f.0 fault (stops spool f.1 f.0.files_are)) (c.fill.ensures.fault clean)

pub returns-clause-crash : goal.returns-clause-crash
returns-clause-crash g c = survives_both c.find.ensures.crash c.fill.ensures.crash
