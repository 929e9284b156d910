-- Whether a line's next block would be sent.
use Rattle.std.specs.Prelude.{ℕ, Bool, ◌||◌, not}
use Rattle.njh_block.specs.Blocks.{all_suspended, same_fcs}
use Rattle.njh_block.specs.Writing.{Writing}
use Rattle.njh_spool.specs.CustomerSpool.{CustomerSpool}
use Rattle.njh_table.specs.Entries.{CustomerEntry}
use Rattle.njh_line.specs.Lines.{LineState}
use Rattle.njh_sched.specs.Having.{has_items}
use Rattle.njh_customer.specs.Customer.{CustomerLine}
use Rattle.njh_customer.specs.Sending.{next_block}

-- Whether a block that was written is sent: it has a record, or it tells a new function control sequence and the peer
-- doesn't suspend all.
abbrev pub is_sent : Writing → LineState → Bool
is_sent w x = not (all_suspended x.session.peer_fcs || same_fcs w.fcs x.session.own_fcs) || has_items w.items

-- whether a line's next block would be sent, were it asked for now
abbrev pub has_next : CustomerEntry → ℕ → CustomerSpool → CustomerLine → Bool
has_next entry l s x = is_sent (next_block entry l s x).block x.state
