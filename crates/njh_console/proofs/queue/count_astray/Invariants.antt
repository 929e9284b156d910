use Rattle.std.proofs.Common.{◌≡◌, ◌≤◌, length, take}
use Rattle.njh_console.specs.Seats.{gone_astray}
use Rattle.njh_console.proofs.queue.count_astray.Given as goal

abbrev pub invariant-loop-visitor : goal.invariant-loop-visitor
invariant-loop-visitor g l = record {
  counted : l.count ≡ length (gone_astray l.now (take l.visitor-index l.seats));
  within : l.count ≤ l.visitor-index;
}
