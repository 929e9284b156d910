use Rattle.{njh_hub.specs.WholeHub.part, njh_keeper.proofs.LeadingLaws.{clean_before, survives_both}}
use Rattle.njh_keeper.proofs.PortionLaws.{keeps_then}
use Rattle.njh_keeper.proofs.portions.keep_of_lines.Goals as goal

pub loop-number-preserved : goal.loop-number-preserved
loop-number-preserved g c =
    let now = (part c.args.customer c.args.hub.now).customer.spool in
    let so_far = c.loop-number.invariant in
    record {
      crash = survives_both so_far.crash c.keep_of_line.ensures.crash;
      kept = keeps_then g.S.Store now c.args.writer.now c.loop-number.writer c.keep_of_line.new.writer c.args.own.now
          c.loop-number.own c.keep_of_line.new.own (clean_before c.keep_of_line.ensures.crash) so_far.kept
          c.in_ok-keep_of_line.ensures.kept;
    }

pub returns-in_err-keep_of_line-clause-crash : goal.returns-in_err-keep_of_line-clause-crash
returns-in_err-keep_of_line-clause-crash g c = survives_both c.loop-number.invariant.crash c.keep_of_line.ensures.crash
