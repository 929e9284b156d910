use Rattle.{njh_spoolfile.proofs.ReadingLaws.ok_then, njh_hub.specs.WholeHub.part}
use Rattle.njh_keeper.proofs.{LeadingLaws.{clean_before, survives_both}, PortionLaws.keeps_with_taken}
use Rattle.njh_keeper.proofs.portions.keep_portion.Goals as goal

pub returns-in_ok-key-in-None-clause-kept : goal.returns-in_ok-key-in-None-clause-kept
returns-in_ok-key-in-None-clause-kept g c =
    let now = (part c.args.file.now.customer c.args.hub.now).customer.spool in
    ok_then c.begin.result _ _ (λ kept.
    keeps_with_taken g.S.Store now c.args.writer.now c.take_key.new.self c.begin.new.writer c.args.own.now
    c.begin.new.own c.in_ok-key-in-None.key (clean_before c.begin.ensures.crash) c.in_ok-key-in-None.ensures.taken
    c.take_key.ensures.others c.in_ok-key-in-None.ensures.emptied kept) c.begin.ensures.kept

pub returns-in_ok-key-in-None-clause-crash : goal.returns-in_ok-key-in-None-clause-crash
returns-in_ok-key-in-None-clause-crash g c = survives_both c.take_key.ensures.crash c.begin.ensures.crash
