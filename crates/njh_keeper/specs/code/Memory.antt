-- What a keeper's memory says of a customer's files and of the numbers, as plain values.
use Rattle.std.specs.Prelude.{map, string_bytes}
use Rattle.njh_keeper.specs.declared.own_files.KeptPartial as kept_partial
use Rattle.njh_keeper.specs.declared.own_files.KeptWhole as kept_whole
use Rattle.njh_keeper.specs.declared.own_files.OwnFiles as own_files
use Rattle.njh_keeper.specs.declared.own_files.Sweep as sweep
use Rattle.njh_keeper.specs.declared.writer.SpoolWriter as spool_writer
use Rattle.njh_keeper.specs.code.Remembered.{KeptPartial, KeptWhole, Numbers, OwnFiles, OwnMemory, Sweep}

-- a whole file
abbrev pub whole_of : kept_whole.KeptWhole → KeptWhole
whole_of k = record {
  id = k.id;
  key = k.key;
  number = k.number;
  records = k.records;
  state = k.state;
  destination = k.destination;
  is_mixed = k.is_mixed;
  is_sent = k.is_sent;
}

-- one that isn't whole
abbrev pub partial_of : kept_partial.KeptPartial → KeptPartial
partial_of p = record { number = p.number; key = p.key; seen = p.seen; written = p.written; is_open = p.is_open }

-- records of a file that has left
abbrev pub sweep_in : sweep.Sweep → Sweep
sweep_in s = record { key = s.key; next = s.next; end = s.end }

-- the files of a customer
abbrev pub own_of : own_files.OwnFiles → OwnFiles
own_of own = record {
  name = own.name;
  arrived = own.arrived;
  whole = map whole_of own.whole.items;
  partial = map partial_of own.partial.items;
  sweeps = map sweep_in own.sweeps.items;
}

-- a customer
abbrev pub own_memory_of : own_files.OwnFiles → OwnMemory
own_memory_of own = record { own = own_of own; text = string_bytes own.text }

-- the numbers that a writer may give out
abbrev pub numbers_of : {S : Type 0} → spool_writer.SpoolWriter S → Numbers
numbers_of w = record {
  next_id = w.next_id;
  next_key = w.next_key;
  free_keys = w.free_keys.items;
}
