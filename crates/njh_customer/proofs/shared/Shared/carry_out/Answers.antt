-- If the session ends, it does so after what was sent.
use Rattle.njh_customer.proofs.Words
use Words.{sym, length-set, replied_to, customer_of, true, false}
use Rattle.njh_customer.proofs.ReadyLaws.{is_there, still_there, carried_by, unmarked}
use Rattle.njh_customer.proofs.shared.Shared.carry_out.Goals as goal

pub close_session-requires : goal.close_session-requires
close_session-requires c =
    let id = c.args.id in
    let old = customer_of id.customer c.args.self.now c.args.lines.now in
    let replied = (replied_to id.number c.args.verdict.reply old).after in
    record {
      there = still_there id c.args.self.now c.send_reply.new.shared c.args.lines.now c.send_reply.new.self replied
          (is_there id c.args.self.now c.args.lines.now c.requires.ready) c.send_reply.ensures.after
          (length-set c.args.lines.now id.number _);
    }

pub returns-then-verdict : goal.returns-then-verdict
returns-then-verdict c =
    let sent = c.send_reply in
    carried_by true c.args.id c.args.self.now sent.new.shared _ c.args.lines.now sent.new.self _ _ c.args.verdict
    (sym c.if-verdict.true) sent.ensures.after sent.ensures.frame c.close_session.ensures

pub returns-else-verdict : goal.returns-else-verdict
returns-else-verdict c =
    let sent = c.send_reply in
    carried_by false c.args.id c.args.self.now sent.new.shared _ c.args.lines.now sent.new.self _ _ c.args.verdict
    (sym c.if-verdict.false) sent.ensures.after sent.ensures.frame (unmarked c.args.id.customer sent.new.shared
    sent.new.self)
