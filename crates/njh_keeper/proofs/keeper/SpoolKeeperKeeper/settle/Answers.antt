use Rattle.{std.proofs.Common.{ap, inl, ◌∙◌}, njh_keeper.proofs.KnownLaws.{either_leaves, known_leaves, known_settled}}
use Rattle.njh_keeper.{proofs.KnownLaws.{may_leave_before, may_leave_same}, specs.Keeper.left_in}
use Rattle.njh_keeper.proofs.keeper.SpoolKeeperKeeper.settle.Goals as goal

pub returns-in-Err-clause-crash : goal.returns-in-Err-clause-crash
returns-in-Err-clause-crash g c before parts only knows left m =
    let mid = c.sweep_in_turn.new.self in
    let others = c.fail.ensures.others in
    inl (only left (
      may_leave_before g.S.Store c.args.self.now mid left c.sweep_in_turn.ensures.crash
          c.sweep_in_turn.ensures.same.1
          (may_leave_same g.S.Store mid c.fail.new.self left (ap (λ k. k.store) others) (ap (λ k. k.names) others) m.0),
      m.1,
    ))

pub returns-in-Ok-settle_files-clause-settled : goal.returns-in-Ok-settle_files-clause-settled
returns-in-Ok-settle_files-clause-settled g c parts knows =
    let mid = c.sweep_in_turn.new.self in
    let new = c.settle_files.new.self in
    let same = c.settle_files.ensures.same in
    let knew = c.in-Ok.ensures.known parts knows in
    record {
      known = λ clean began found.
          let k = knew (c.settle_files.ensures.clean clean) began found in
          known_settled g.S.Store mid new parts k same.1 c.in-Ok-settle_files.ensures.numbers same.2
          (c.in-Ok-settle_files.ensures.settled clean k.standing k.stands k.as_kept);
      leaves = λ left m.
          let k = knew (c.settle_files.ensures.clean m.0.clean) m.1.0 m.1.1 in
          let done = c.in-Ok-settle_files.ensures.settled m.0.clean k.standing k.stands k.as_kept in
          c.a_crash_leaves_what_was_committed.ensures new (record { now = k.standing.now; kept = done.kept }) left
          done.stands m.0
          ∙ done.same ∙ ap (λ ns. left_in ns k.standing.now) same.1 ∙ known_leaves g.S.Store mid parts k;
    }

pub returns-in-Ok-settle_files-clause-crash : goal.returns-in-Ok-settle_files-clause-crash
returns-in-Ok-settle_files-clause-crash g c before parts only knows =
    let mid = c.sweep_in_turn.new.self in
    either_leaves g.S.Store g.S.Origin.found mid c.settle_files.new.self before parts c.settle_files.ensures.clean
    c.settle_files.ensures.crash (λ left m. only left (
      may_leave_before g.S.Store c.args.self.now mid left
          c.sweep_in_turn.ensures.crash c.sweep_in_turn.ensures.same.1 m.0,
      m.1,
    )) (c.in-Ok.ensures.known parts knows)

pub returns-in-Err-settle_files-clause-crash : goal.returns-in-Err-settle_files-clause-crash
returns-in-Err-settle_files-clause-crash g c before parts only knows left m =
    let mid = c.sweep_in_turn.new.self in
    let new = c.settle_files.new.self in
    let others = c.fail-in-Err-settle_files.ensures.others in
    either_leaves g.S.Store g.S.Origin.found mid new before parts c.settle_files.ensures.clean
    c.settle_files.ensures.crash (λ left m. only left (
      may_leave_before g.S.Store c.args.self.now mid left
          c.sweep_in_turn.ensures.crash c.sweep_in_turn.ensures.same.1 m.0,
      m.1,
    )) (c.in-Ok.ensures.known parts knows) left (
      may_leave_same g.S.Store new c.fail-in-Err-settle_files.new.self left (ap (λ k. k.store) others)
          (ap (λ k. k.names) others) m.0,
      m.1,
    )
