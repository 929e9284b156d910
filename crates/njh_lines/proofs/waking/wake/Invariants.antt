use Rattle.std.specs.Prelude.{◌≡◌, ℕ, ◌≤◌, slice_get}
use Rattle.njh_lines.specs.Resting.{AreServedBy, AreWoken, IsLinesMoment}
use Rattle.njh_lines.proofs.waking.wake.Given as goal

-- the lines are the same, some were woken, the attendant waits for the first of them, those of the customers so far
-- were woken that are to be, and nothing changed of the customers to come
abbrev pub invariant-loop-customer : goal.invariant-loop-customer
invariant-loop-customer g l = record {
  lines : l.exchange.lines ≡ l.fn.exchange.lines;
  noted : l.exchange.noted ≡ l.fn.exchange.noted;
  now : l.exchange.now ≡ l.fn.exchange.now;
  calls : AreWoken l.fn.exchange l.hub l.exchange.watches;
  waits : IsLinesMoment l.fn.exchange l.fn.exchange.next → IsLinesMoment l.exchange l.exchange.next;
  woken : AreServedBy l.fn.exchange l.hub l.customer l.exchange.watches;
  later : (k : ℕ) → l.customer ≤ k → slice_get l.exchange.customers k ≡ slice_get l.fn.exchange.customers k;
}
