use Rattle.njh_keeper.proofs.Words
use Words.{sym, ap, ◌∙◌, arith, HasCleanDisk, ok_then, shown, memory_of, part, survives_both}
use Rattle.{std.specs.Prelude.string_bytes, njh_keeper.proofs.CountingLaws.{inr_then, ok_both}}
use Rattle.njh_keeper.proofs.{GrowthLaws.numbered_of_sound, KnownLaws.ok_given, OneStepLaws.step_leads}
use Rattle.njh_keeper.specs.declared.own_files.OwnFiles.{OwnFiles}
use Rattle.njh_keeper.proofs.step.keep_step.Goals as goal

pub returns-clause-led : goal.returns-clause-led
returns-clause-led g c sound headers clean =
    ok_given c.keep_portions.result _ _ _ _ c.keep_portions.ensures.kept c.keep_portions.ensures.seen
    (λ kept seen before led known.
    let now = part c.args.customer c.args.hub.now in
    let w = c.args.writer.now in
    let w1 = c.follow.new.writer in
    let w2 = c.keep_portions.new.writer in
    let own1 = c.follow.new.own in
    let own2 = c.keep_portions.new.own in
    let mid : HasCleanDisk (shown g.S.Store w1.store) = omega (arith, clean, c.keep_portions.ensures.crash.clean) in
    step_leads (memory_of w c.args.own.now) (memory_of w1 own1) (memory_of w2 own2) w.is_changed w2.is_changed
    before now led known (shown g.S.Store w.store) (shown g.S.Store w1.store) (shown g.S.Store w2.store)
    (c.in_ok-follow.ensures.led (numbered_of_sound now.customer.spool sound) mid) c.in_ok-follow.ensures.arrived
    (kept.led clean) seen
    (ap (λ (o : OwnFiles). string_bytes o.text) kept.others) (ap (λ (o : OwnFiles). o.name) kept.others)
    (ap (λ (o : OwnFiles). o.arrived) kept.others)
    (λ unchanged. let q = c.in_ok-follow.ensures.quiet (sym (ap (λ x. x.is_changed) kept.numbers) ∙ unchanged)
    in (q.0, ap (λ st. shown g.S.Store st) q.1)))

pub returns-clause-bounded : goal.returns-clause-bounded
returns-clause-bounded g c sound low =
    let numbered = numbered_of_sound (part c.args.customer c.args.hub.now).customer.spool sound in
    ok_then c.keep_portions.result _ _ (λ kept. inr_then (λ less. omega
    (arith, c.in_ok-follow.ensures.grows numbered, kept.0.grows)) kept.1)
    (ok_both c.keep_portions.result _ _ c.keep_portions.ensures.kept (c.keep_portions.ensures.bounded low))

pub returns-clause-crash : goal.returns-clause-crash
returns-clause-crash g c = survives_both c.follow.ensures.crash c.keep_portions.ensures.crash
