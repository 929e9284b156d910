use Rattle.std.proofs.Common.{◌++◌, ◌∙◌, ap, rules, sym}
use Rattle.njh_trace.specs.Sources.{dropped_at}
use Rattle.njh_trace.proofs.MappedLaws.{mapped_upto-end, mapped_upto-step}
use Rattle.njh_trace.proofs.sources.drop_marked.Goals as goal

pub loop-source-preserved : goal.loop-source-preserved
loop-source-preserved c =
    mapped_upto-step (dropped_at (c.args.name.now ++ c.args.direction.now)) c.loop-source.source-index
    c.args.sources.now
    c.loop-source.sources c.source-item.result c.drop_at.new.self c.loop-source.invariant (search rules)
    c.source-item.is
    (c.drop_at.ensures ∙ sym (ap (dropped_at (c.args.name.now ++ c.args.direction.now)) c.source-item.is))

pub returns : goal.returns
returns c =
    mapped_upto-end (dropped_at (c.args.name.now ++ c.args.direction.now)) c.loop-source.source-index c.args.sources.now
    c.loop-source.sources c.loop-source.invariant (search rules) (search rules)
