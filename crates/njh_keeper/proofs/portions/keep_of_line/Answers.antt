use Rattle.{njh_hub.specs.WholeHub.part, njh_keeper.proofs.LeadingLaws.{clean_before, survives_both}}
use Rattle.njh_keeper.proofs.{PortionLaws.keeps_then, portions.keep_of_line.Goals.in-Open+in_ok-keep_portion}
use Rattle.njh_keeper.proofs.portions.keep_of_line.Goals.{in_default}
use Rattle.njh_keeper.proofs.portions.keep_of_line.Goals as goal

pub loop-receiver-preserved : goal.loop-receiver-preserved
loop-receiver-preserved g c =
    let now = (part c.args.customer c.args.hub.now).customer.spool in
    let so_far = c.loop-receiver.invariant in
    elim c.match-receiver.branch [
      | in-Open+in_ok-keep_portion w ↦
          rw (w.writer-is, w.own-is) (record {
            crash = survives_both so_far.crash w.keep_portion.ensures.crash;
            kept = keeps_then g.S.Store now c.args.writer.now c.loop-receiver.writer w.keep_portion.new.writer
                c.args.own.now
                c.loop-receiver.own w.keep_portion.new.own (clean_before w.keep_portion.ensures.crash) so_far.kept
                w.in_ok-keep_portion.ensures.kept;
          })
      | in_default w ↦ rw (w.writer-is, w.own-is) so_far
    ]

pub returns-in_err-keep_portion-clause-crash : goal.returns-in_err-keep_portion-clause-crash
returns-in_err-keep_portion-clause-crash g c =
    survives_both c.loop-receiver.invariant.crash c.keep_portion.ensures.crash
