use Rattle.njh_keeper.proofs.Words
use Words.{◌<◌, length, get_or, take, ap, arith, length-map, length-remove, length-take-le, shown, part, memory_of}
use Words.{whole_of, clean_before, leads_nothing, survives_both, survives_here}
use Rattle.njh_keeper.proofs.{FollowingLaws.{goes_nowhere, quiet_changed, quiet_same, quiet_then}}
use Rattle.njh_keeper.proofs.{ListLaws.within_seen, NewFilesLaws.{any_file, is_at, is_at_of_first, walked_on}}
use Rattle.njh_keeper.proofs.{NewFilesLaws.{walked_past, walked_to_end}, WalkLaws.walk_begins}
use Rattle.njh_keeper.proofs.following.follow_old.Goals as goal

pub loop-index-init : goal.loop-index-init
loop-index-init g c =
    let at = shown g.S.Store c.args.writer.now.store in
    let m = memory_of c.args.writer.now c.args.own.now in
    let still = take c.args.old (part c.args.customer c.args.hub.now).customer.spool.whole in
    record {
      crash = survives_here at (λ _. ⊥);
      led = λ numbered clean. leads_nothing (λ s files has given.
          (files, walk_begins still files given.0 given.1, goes_nowhere m s files has));
      grows = omega arith;
      quiet = quiet_same c.args.writer.now;
    }

-- it is there still
pub loop-index-preserved-then-is_there : goal.loop-index-preserved-then-is_there
loop-index-preserved-then-is_there g c =
    let whole = (part c.args.customer c.args.hub.now).customer.spool.whole in
    let still = take c.args.old whole in
    let items = c.loop-index.own.whole.items in
    let i = c.loop-index.index in
    let low : i < c.args.old = c.is_there.ensures.low c.if-is_there.true in
    let there : i < length items = omega (arith, c.loop-index-test.true, c.len.ensures) in
    let f = get_or whole i any_file in
    let here = is_at whole i (omega (arith, low, c.requires)) in
    let next = is_at_of_first whole c.args.old i f c.requires low here in
    let sought = c.is_there.ensures.sought in
    record {
      crash = survives_both c.loop-index.invariant.crash c.follow_at.ensures.crash;
      led = λ numbered clean. walked_on still i
          (c.loop-index.invariant.led numbered (clean_before c.follow_at.ensures.crash clean)) sought.kept
          (within_seen whole_of items i there) sought.is f next (sought.same c.if-is_there.true f next)
          (c.in_ok-follow_at.ensures.led f numbered here clean);
      grows = omega (arith, c.loop-index.invariant.grows, c.in_ok-follow_at.ensures.grows);
      quiet = quiet_then c.args.writer.now c.loop-index.writer c.follow_at.new.writer c.loop-index.invariant.quiet
          c.in_ok-follow_at.ensures.quiet;
    }

-- it has left
pub loop-index-preserved : goal.loop-index-preserved
loop-index-preserved g c =
    let still = take c.args.old (part c.args.customer c.args.hub.now).customer.spool.whole in
    let items = c.loop-index.own.whole.items in
    let i = c.loop-index.index in
    let there : i < length items = omega (arith, c.loop-index-test.true, c.len.ensures) in
    let sought = c.is_there.ensures.sought in
    record {
      crash = survives_both c.loop-index.invariant.crash c.drop_at.ensures.crash;
      led = λ numbered clean. walked_past still i
          (c.loop-index.invariant.led numbered (clean_before c.drop_at.ensures.crash clean)) sought.kept
          (within_seen whole_of items i there) sought.is (sought.other c.if-is_there.false)
          (c.in_ok-drop_at.ensures.led clean);
      grows = omega (arith, c.loop-index.invariant.grows, c.in_ok-drop_at.ensures.rows);
      quiet = quiet_changed c.args.writer.now c.drop_at.new.writer c.drop_at.ensures.due;
    }

pub loop-index-smaller : goal.loop-index-smaller
loop-index-smaller g c =
    let less = length-remove c.loop-index.own.whole.items c.loop-index.index
    (omega (arith, c.loop-index-test.true, c.len.ensures)) in
    let now = ap length c.drop_at.ensures.memory in
    omega (arith, less, now, c.loop-index-test.true, c.len.ensures)

pub returns-clause-led : goal.returns-clause-led
returns-clause-led g c numbered clean =
    let whole = (part c.args.customer c.args.hub.now).customer.spool.whole in
    let i = c.loop-index.index in
    let long = length-take-le c.args.old whole c.requires in
    let seen = length-map c.loop-index.own.whole.items whole_of in
    walked_to_end (take c.args.old whole) i (omega (arith, long, c.if-index-old.false))
    (omega (arith, seen, c.loop-index-test.false, c.len.ensures)) (c.loop-index.invariant.led numbered clean)

pub returns-clause-quiet : goal.returns-clause-quiet
returns-clause-quiet g c = c.loop-index.invariant.quiet

pub returns-in_err-follow_at-clause-crash : goal.returns-in_err-follow_at-clause-crash
returns-in_err-follow_at-clause-crash g c = survives_both c.loop-index.invariant.crash c.follow_at.ensures.crash

pub returns-in_err-drop_at-clause-crash : goal.returns-in_err-drop_at-clause-crash
returns-in_err-drop_at-clause-crash g c = survives_both c.loop-index.invariant.crash c.drop_at.ensures.crash

pub follow_at-requires-clause-there : goal.follow_at-requires-clause-there
follow_at-requires-clause-there g c = omega (arith, c.is_there.ensures.low c.if-is_there.true, c.requires)
