use Rattle.std.proofs.Common.{◌≡◌, ◌-◌, sym, ◌∙◌, arith}
use Rattle.njh_table.specs.code.Buckets.{bucket_at, end_of}
use Rattle.njh_table.proofs.BucketLaws.{end-le, left_first, left_next, found}
use Rattle.njh_table.proofs.nodes.is_among.Goals as goal

pub loop-count-init : goal.loop-count-init
loop-count-init c =
    left_first c.args.names.now c.args.name.now c.from-count.result (c.from-count.ensures ∙ c.requires.end)

pub returns-then-eq : goal.returns-then-eq
returns-then-eq c =
    sym (found c.args.names.now c.args.name.now c.loop-count.count c.loop-count.invariant c.loop-count-test.true
    (sym c.eq.ensures ∙ c.if-eq.true))

pub loop-count-smaller : goal.loop-count-smaller
loop-count-smaller c =
    let bucket = bucket_at c.args.names.now (c.loop-count.count - 1) in
    let is : c.from-count-in-loop-count.result ≡ end_of c.args.names.now bucket (c.loop-count.count - 1) =
    c.from-count-in-loop-count.ensures ∙ c.requires.before (c.loop-count.count - 1) (omega arith) in
    omega (arith, is, end-le c.args.names.now bucket (c.loop-count.count - 1))

pub loop-count-preserved : goal.loop-count-preserved
loop-count-preserved c =
    left_next c.args.names.now c.args.name.now c.loop-count.count c.from-count-in-loop-count.result
    c.loop-count.invariant c.loop-count-test.true
    (c.from-count-in-loop-count.ensures ∙ c.requires.before (c.loop-count.count - 1) (omega arith))
    (sym c.eq.ensures ∙ c.if-eq.false)
