-- The stream agrees with its file.
use Rattle.njh_customer.proofs.Words
use Words.{ap, sym, subst, kind_of, spool_at, Agrees, receiver_at, customer_of}
use Rattle.{std.proofs.Common.◌∙◌, njh_customer.proofs.CoherenceLaws.agrees_there}
use Rattle.njh_customer.proofs.shared.Shared.arrive.Goals as goal

pub step-step-requires-clause-agrees : goal.step-step-requires-clause-agrees
step-step-requires-clause-agrees c =
    let id = c.args.id in
    let stream = c.in-Some.stream in
    subst (λ r. Agrees (kind_of stream) r (spool_at id.customer c.args.self.now.spool))
    (sym (c.receiver-receiver.ensures ∙ ap (receiver_at stream) c.line.ensures))
    (agrees_there id.number stream (customer_of id.customer c.args.self.now c.args.lines.now) c.requires.ready.coherent)
