use Rattle.std.specs.Prelude.{◌≡◌, ℕ, ◌<◌, ◌≤◌}
use Rattle.njh_lines.specs.Attention.{watch_at}
use Rattle.njh_lines.specs.Resting.{AreWoken, IsLinesMoment}
use Rattle.njh_lines.specs.Watching.{IsToBeWoken}
use Rattle.njh_lines.proofs.waking.wake_row.Given as goal

-- the lines are the same, some were woken, the attendant waits for the first of them, and of those so far each that is
-- to be woken is looked at at this moment, if not before
abbrev pub invariant-loop-place : goal.invariant-loop-place
invariant-loop-place g l = record {
  lines : l.exchange.lines ≡ l.fn.exchange.lines;
  noted : l.exchange.noted ≡ l.fn.exchange.noted;
  now : l.exchange.now ≡ l.fn.exchange.now;
  customers : l.exchange.customers ≡ l.fn.exchange.customers;
  calls : AreWoken l.fn.exchange l.hub l.exchange.watches;
  waits : IsLinesMoment l.fn.exchange l.fn.exchange.next → IsLinesMoment l.exchange l.exchange.next;
  woken : (p : ℕ) → l.fn.row.first ≤ p → p < l.place → IsToBeWoken l.fn.exchange p l.fn.row.customer l.hub
      → (watch_at l.exchange.watches p).moment ≤ l.fn.exchange.now;
}
