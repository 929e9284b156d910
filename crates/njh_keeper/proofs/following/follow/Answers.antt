use Rattle.njh_keeper.proofs.Words
use Words.{◌≡◌, ◌∙◌, arith, part, clean_before, survives_both}
use Rattle.njh_keeper.proofs.{FollowingLaws.quiet_then, NewFilesLaws.{first_survive, followed_all}}
use Rattle.njh_keeper.proofs.following.follow.Goals as goal

pub returns-clause-led : goal.returns-clause-led
returns-clause-led g c numbered clean =
    let customer = (part c.args.customer c.args.hub.now).customer in
    let count = c.file_count-count.result in
    let arrived = c.arrived-arrived.result in
    let new_files = c.new_files.result in
    let old = c.saturating_sub-old.result in
    let is : arrived ≡ customer.spool.arrived = c.arrived-arrived.ensures in
    followed_all arrived customer c.args.own.now.arrived old (λ files go_on.
    first_survive customer files c.args.own.now.arrived count new_files old
    c.file_count-count.ensures c.file_count-count.type_inv (omega (arith, is, c.arrived-arrived.type_inv))
    (λ all. c.new_files.ensures.all (is ∙ all))
    (λ less. omega (arith, is, less, c.new_files.ensures.some (omega (arith, is, less))))
    (omega (arith, c.saturating_sub-old.ensures)) go_on)
    (c.in_ok-follow_old.ensures.led numbered (clean_before c.add_new.ensures.crash clean))
    (c.in_ok-add_new.ensures.led numbered clean)

pub returns-clause-quiet : goal.returns-clause-quiet
returns-clause-quiet g c = quiet_then c.args.writer.now c.follow_old.new.writer c.add_new.new.writer
    c.in_ok-follow_old.ensures.quiet c.in_ok-add_new.ensures.quiet

pub returns-in_err-add_new-clause-crash : goal.returns-in_err-add_new-clause-crash
returns-in_err-add_new-clause-crash g c = survives_both c.follow_old.ensures.crash c.add_new.ensures.crash

pub returns-clause-crash : goal.returns-clause-crash
returns-clause-crash g c = survives_both c.follow_old.ensures.crash c.add_new.ensures.crash
