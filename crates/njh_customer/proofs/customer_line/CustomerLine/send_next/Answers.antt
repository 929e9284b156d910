-- Filling leaves the block's function control sequence.
use Rattle.njh_customer.proofs.Words
use Words.{ap, spool_at, customer_at, entry_of, filling, outlet_of}
use Rattle.{std.proofs.Common.◌∙◌, njh_customer.proofs.SendingMoves.filled_kept}
use Rattle.njh_customer.proofs.customer_line.CustomerLine.send_next.Goals as goal

pub send_written-requires : goal.send_written-requires
send_written-requires c =
    let id = c.args.id in
    let entry = entry_of (customer_at c.args.shared.now.tables id.customer) in
    ap (λ w. w.fcs) c.fill.ensures.block
    ∙ (filled_kept entry id.number (filling c.begin_block.new.block (outlet_of c.args.self.now)
    (spool_at id.customer c.args.shared.now.spool))).fcs ∙ ap (λ w. w.fcs) c.begin_block.ensures.begun
