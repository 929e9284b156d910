use Rattle.std.proofs.Common.{◌≡◌, drop}
use Rattle.njh_header.specs.FileHeaders as headers
use Rattle.njh_header.proofs.file_headers.data_set_header_of.Given as goal

abbrev pub invariant-loop-n : goal.invariant-loop-n
invariant-loop-n g l =
    headers.data_set_header_of (drop l.n (g.F.FileRecords.records l.file)) ≡ headers.data_set_header_of
    (g.F.FileRecords.records l.file)
