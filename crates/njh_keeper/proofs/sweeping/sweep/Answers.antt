use Rattle.std.proofs.{Common.{◌≡◌, ◌++◌, [], ◌∷◌, length, refl, sym, ap, ◌∙◌, arith}, lemmas.List.append-nil}
use Rattle.{sqlite.specs.State.HasCleanDisk, njh_spoolfile.specs.Shelf.shown}
use Rattle.njh_keeper.proofs.{CountingLaws.sum-push, LeadingLaws.{clean_before, survives_both}, PortionLaws.dead_after}
use Rattle.njh_keeper.proofs.PortionLaws.{keeps_one_swept, keeps_still, keeps_then, still_swept, sweeps_fewer}
use Rattle.njh_keeper.specs.code.Writing.{dead_in, dead_of}
use Rattle.njh_keeper.specs.declared.own_files.OwnFiles.{OwnFiles}
use Rattle.njh_keeper.proofs.sweeping.sweep.Goals as goal

pub loop-left-preserved : goal.loop-left-preserved
loop-left-preserved g c =
    let so_far = c.loop-left.invariant in
    let own = c.loop-left.own in
    let w = c.loop-left.writer in
    let last = c.in-Some.sweep in
    let before = c.pop.new.self.items in
    let are : own.sweeps.items ≡ before ++ last ∷ [] = c.in-Some.ensures.items in
    let w1 = c.sweep_some.new.writer in
    let own1 = c.sweep_some.new.own in
    let left = c.in_ok-left.ensures.left in
    let most = c.loop-left.left in
    let less = ap dead_of left.0 in
    let after = dead_after most before last in
    let all = ap dead_of are ∙ sum-push dead_in before last in
    record {
      crash = survives_both so_far.crash c.sweep_some.ensures.crash;
      kept = λ now. keeps_then g.S.Store now c.args.writer.now w w1 c.args.own.now own own1
          (clean_before c.sweep_some.ensures.crash) (so_far.kept now)
          (keeps_one_swept g.S.Store now w w1 own own1 c.sweep_some.ensures.writer c.sweep_some.ensures.others most
          before last are left.0 left.1 c.sweep_some.ensures.counts (omega (arith, less, after, all))
          c.in_ok-left.ensures.dropped);
      others = c.sweep_some.ensures.others ∙ ap (λ (x : OwnFiles). record x { sweeps = own1.sweeps }) so_far.others;
      dead = omega (arith, so_far.dead, less, after, all, c.in_ok-left.ensures.count);
    }

pub loop-left-smaller : goal.loop-left-smaller
loop-left-smaller g c =
    let most = c.loop-left.left in
    let last = c.in-Some.sweep in
    let before = c.pop.new.self.items in
    let fewer = sweeps_fewer most before last c.loop-left-test.true in
    let now = ap length c.in_ok-left.ensures.left.0 in
    let all = ap length c.in-Some.ensures.items in
    omega (arith, fewer, now, all, c.in_ok-left.ensures.count)

-- none is left
pub returns-in_default-clause-kept : goal.returns-in_default-clause-kept
returns-in_default-clause-kept g c now =
    let own = c.loop-left.own in
    let own1 : OwnFiles = record own { sweeps = c.pop.new.self } in
    let w = c.loop-left.writer in
    let same : own1.sweeps.items ≡ own.sweeps.items =
    sym (c.in_default.ensures.items ∙ append-nil c.pop.new.self.items) in
    keeps_then g.S.Store now c.args.writer.now w w c.args.own.now own own1
    (λ (clean : HasCleanDisk (shown g.S.Store w.store)). clean) (c.loop-left.invariant.kept now)
    (keeps_still g.S.Store now w own own1 (still_swept now own own1 refl same))
