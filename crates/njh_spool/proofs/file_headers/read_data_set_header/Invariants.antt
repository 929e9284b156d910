use Rattle.std.proofs.Common.{◌≡◌, ◌+◌, length}
use Rattle.njh_header.specs.FileHeaders.{data_set_header_of}
use Rattle.njh_spool.specs.Headers.{reach_of}
use Rattle.njh_spool.proofs.file_headers.read_data_set_header.Given as goal

abbrev pub invariant-loop-n : goal.invariant-loop-n
invariant-loop-n l = record {
  header : data_set_header_of l.initial.records ≡ data_set_header_of l.records;
  count : l.n + reach_of l.records ≡ reach_of l.initial.records;
  left : l.n + length l.records ≡ l.count;
}
