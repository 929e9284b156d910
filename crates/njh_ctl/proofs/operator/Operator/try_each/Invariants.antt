use Rattle.std.proofs.Common.{◌≡◌, ◌+◌, ◌≤◌, map}
use Rattle.njh_ctl.specs.Many.{Tried, entry_view, many_view}
use Rattle.njh_ctl.proofs.operator.Operator.try_each.Given as goal

abbrev pub invariant-loop-at : goal.invariant-loop-at
invariant-loop-at g l = record {
  tried : Tried (many_view l.many) l.fn.self.giver (map entry_view l.entries) l.fn.self.talk l.at l.self.talk l.counts;
  few : l.counts.done + l.counts.not_done + l.counts.refused + l.counts.passed_over ≤ l.at;
  giver : l.self.giver ≡ l.fn.self.giver;
}
