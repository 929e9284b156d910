use Rattle.{std.proofs.Common.{◌≡◌, map, take}, njh_bisync.specs.Reading.Nothing, njh_table.specs.TableFile.entry_of}
use Rattle.njh_customer.specs.Customer.{config_of, idle_line}
use Rattle.njh_customer.proofs.lines.Lines.open.Given as goal

-- so many lines are open
abbrev pub invariant-loop-line : goal.invariant-loop-line
invariant-loop-line l = record {
  rests : l.deframers.items ≡ map (λ line. Nothing) (take l.line-index l.customer.lines);
  states : l.lines ≡ map (λ line. idle_line (config_of (entry_of l.customer) line.entry) line.entry.streams)
      (take l.line-index l.customer.lines);
}
