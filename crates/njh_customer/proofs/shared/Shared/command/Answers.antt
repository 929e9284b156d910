-- What the command leaves of the files, and who is told.
use Rattle.njh_customer.proofs.Words
use Words.{fold, refl, slice_set, ap, sym, get_or-set_same, sender_of, spool_at, no_spool, customer_at, entry_of}
use Words.{CommandOutcome, message_outcome, spool_after, without_sending, customer_with, all_said}
use Rattle.std.proofs.Common.{◌≡◌, ◌∙◌}
use Rattle.njh_customer.proofs.shared.Shared.command.Goals as goal

pub returns : goal.returns
returns c =
    let entry = entry_of (customer_at c.args.self.now.tables c.args.id.customer) in
    let spools = c.args.self.now.spool in
    let files = spool_at c.args.id.customer spools in
    let n = c.args.message.now in
    let done = message_outcome entry (sender_of n) n.message files in
    let same : message_outcome entry (record { node = c.origin-node.result; user = c.user-user.result })
    c.message.result.now files ≡ done =
    λ i. message_outcome entry (record { node = c.origin-node.ensures i; user = c.user-user.ensures i })
    (c.message.ensures.value i) files in
    let spool =
    c.obey.ensures.spool ∙ ap (λ (o : CommandOutcome). slice_set spools c.args.id.customer (spool_after o files))
    same in
    let files_are = ap (spool_at c.args.id.customer) spool
    ∙ get_or-set_same spools c.args.id.customer (spool_after done files) no_spool c.requires.ready.spooled in
    let replies = c.obey.ensures.replies ∙ ap (λ (o : CommandOutcome). o.replies) same in
    let cancelled = ap (λ (o : CommandOutcome). fold without_sending c.args.lines.now o.cancelled) same in
    let lines = c.say_all.ensures ∙ (λ i. all_said (entry_of (c.customer.ensures i)) (record
    { node = c.origin-node.ensures i; user = c.user-user.ensures i }) (replies i)
    ((c.obey.ensures.senders ∙ cancelled) i)) in
    record {
      customer = λ i. customer_with entry (files_are i) (lines i);
      others = spool ∙ ap (slice_set spools c.args.id.customer) (sym files_are);
      tables = refl;
    }
