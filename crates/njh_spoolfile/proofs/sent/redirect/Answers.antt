use Rattle.std.proofs.Common.{◌<◌, ◌+◌, ◌++◌, ◌∙◌, Some, length, set, take, drop, arith}
use Rattle.std.proofs.lemmas.List.{length-set}
use Rattle.njh_header.specs.Redirecting.{records_to_node}
use Rattle.njh_spoolfile.proofs.SentLaws.{all_stored, redirects_one}
use Rattle.njh_spoolfile.proofs.sent.redirect.Goals as goal

pub loop-n-preserved : goal.loop-n-preserved
loop-n-preserved c =
    let n = c.loop-n.n in
    let xs = c.loop-n.records.items in
    let old = c.index_mut.result.now in
    let new = c.redirect_one.new.stored in
    let so_far = c.loop-n.invariant in
    let ys = all_stored (set xs n new) in
    let there : n < length xs = omega (arith, c.loop-n-test.true, c.len-n-end.ensures, so_far.0) in (
      length-set xs n new ∙ so_far.0,
      (λ i. take (n + 1) ys
          ++ records_to_node c.args.kind c.args.node (Some (c.redirect_one.ensures.srcb i)) (drop (n + 1) ys))
          ∙ redirects_one c.args.kind c.args.node c.loop-n.before xs n old new there c.index_mut.ensures.value
          c.redirect_one.ensures.record
          ∙ so_far.1,
    )
