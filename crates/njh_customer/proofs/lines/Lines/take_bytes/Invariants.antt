use Rattle.njh_customer.proofs.Words
use Words.{length, set, slice_set, spool_at, IsReady, KeepsOtherEntries, customer_of, take_step, or_later, rest_at}
use Rattle.std.proofs.Common.{◌≡◌, ◌+◌, ◌<◌}
use Rattle.njh_customer.proofs.lines.Lines.take_bytes.Given as goal

-- what is taken so far, and then the step by what is left, is the step by all
abbrev pub invariant-loop-out : goal.invariant-loop-out
invariant-loop-out l = record {
  taken : or_later l.taken (rest_at l.id.number l.self.rests)
      (record { after = customer_of l.id.customer l.shared l.self.lines; frame = l.out })
      (take_step (rest_at l.id.number l.self.rests) (customer_of l.id.customer l.shared l.self.lines) l.id.number
      l.left) ≡ take_step (rest_at l.id.number l.fn.self.rests) (customer_of l.id.customer l.fn.shared l.fn.self.lines)
      l.id.number l.piece;
  rests : l.self.rests ≡ set l.fn.self.rests l.id.number (rest_at l.id.number l.self.rests);
  others : l.shared.spool ≡ slice_set l.fn.shared.spool l.id.customer (spool_at l.id.customer l.shared.spool);
  entries : KeepsOtherEntries l.id.customer l.fn.shared.tables l.shared.tables;
  ready : IsReady l.id l.shared l.self.lines;
  count : length l.self.lines ≡ length l.fn.self.lines;
  few : l.taken + length l.left ≡ length l.piece;
  progress : 0 < length l.out → 0 < l.taken;
}

abbrev pub decreases-loop-out : goal.decreases-loop-out
decreases-loop-out l = length l.left
