use Rattle.njh_trace.proofs.PartLaws.{parted-none, parted-some, split-parted, split-whole}
use Rattle.njh_trace.proofs.parts.parted.Goals as goal

pub returns-in-None-clause-parts : goal.returns-in-None-clause-parts
returns-in-None-clause-parts c = parted-none c.args.byte c.args.text.now c.in-None.ensures

pub returns-in-None-clause-split : goal.returns-in-None-clause-split
returns-in-None-clause-split c = split-whole c.args.byte c.args.text.now c.in-None.ensures

pub returns-in-Some-clause-parts : goal.returns-in-Some-clause-parts
returns-in-Some-clause-parts c =
    let parted = parted-some c.args.byte c.in-Some.place c.args.text.now c.split_at.result.0.now c.split_at.result.1.now
    c.split_at-in-Some.result.1.now c.in-Some.ensures c.split_at.ensures.front c.split_at.ensures.back
    c.split_at-in-Some.ensures.back in
    (parted.whole, parted.none)

pub returns-in-Some-clause-split : goal.returns-in-Some-clause-split
returns-in-Some-clause-split c =
    split-parted c.args.byte c.args.text.now c.split_at.result.0.now c.split_at-in-Some.result.1.now
    (parted-some c.args.byte c.in-Some.place c.args.text.now c.split_at.result.0.now c.split_at.result.1.now
    c.split_at-in-Some.result.1.now c.in-Some.ensures c.split_at.ensures.front c.split_at.ensures.back
    c.split_at-in-Some.ensures.back)
