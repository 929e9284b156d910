-- The customer's files are led on three times.
use Rattle.njh_customer.proofs.Words
use Words.{slice_set, ap, spool_at, entry_of, without_all_open, all_ended, tried_again, spool_over}
use Rattle.{std.proofs.Common.◌∙◌, njh_customer.proofs.ReadyLaws.moved_twice}
use Rattle.njh_customer.proofs.customer_line.CustomerLine.end_session.Goals as goal

pub returns-clause-spool : goal.returns-clause-spool
returns-clause-spool c =
    let id = c.args.id in
    let old = c.args.spool.now in
    let entry = entry_of c.customer.result.now in
    let files = spool_at id.customer old in
    let ended = all_ended c.self.inside.senders files in
    let tried = tried_again entry id.number ended in
    moved_twice old c.retry_refused.new.spool c.end_receivers.new.spool id.customer tried
    (without_all_open c.self.inside.receivers) c.requires.spooled
    (moved_twice old c.end_senders.new.spool c.retry_refused.new.spool id.customer ended
    (tried_again entry id.number) c.requires.spooled
    c.end_senders.ensures.spool c.retry_refused.ensures) c.end_receivers.ensures.spool
    ∙ ap (λ x. slice_set old id.customer (spool_over entry id.number x files)) c.self.view_is
    ∙ ap (λ x. slice_set old id.customer (spool_over (entry_of x) id.number c.args.self.now files)) c.customer.ensures
