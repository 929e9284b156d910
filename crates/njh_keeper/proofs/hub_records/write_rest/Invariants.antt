use Rattle.njh_keeper.proofs.Words
use Words.{◌≡◌, ◌+◌, ◌-◌, ◌≤◌, drop, HasCleanDisk, Survives, shown, records_in, part}
use Words.{Leads}
use Rattle.njh_keeper.specs.code.{Counting.CountsMore, Gathering.{Continues, Gathers}}
use Rattle.njh_keeper.proofs.hub_records.write_rest.Given as goal

-- So many records were gone through, and those are left. All of them stand there but those that wait in the row.
abbrev pub invariant-loop : goal.invariant-loop
invariant-loop g l =
    let old = shown g.S.Store l.fn.writer.store in
    let now = shown g.S.Store l.writer.store in
    let all = records_in l.file.number (part l.file.customer l.hub).customer.spool in
    record {
      crash : Survives old now (λ _. ⊥);
      led : HasCleanDisk now → Leads (Continues l.key all l.written l.row.place) old now;
      left : l.records ≡ drop l.counter all;
      others : l.writer ≡ record l.fn.writer { store = l.writer.store; waiting = l.writer.waiting };
      counted : CountsMore (l.row.place - l.written) l.fn.writer l.writer;
      gathers : Gathers all l.row;
      behind : l.written ≤ l.row.place;
      next : l.row.place + l.row.count ≡ l.counter;
      key : l.row.key ≡ l.key;
    }
