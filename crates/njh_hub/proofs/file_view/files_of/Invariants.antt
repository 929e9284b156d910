use Rattle.std.proofs.Common.{◌≡◌, map, take, vec_len}
use Rattle.std.specs.Vec.{vec_capacity}
use Rattle.njh_spool.specs.Spools.{spool_at}
use Rattle.njh_hub.specs.Files.{view_of_file}
use Rattle.njh_hub.proofs.file_view.files_of.Given as goal

abbrev pub invariant-loop-index : goal.invariant-loop-index
invariant-loop-index l = record {
  viewed : l.files.items ≡ map view_of_file (take l.index (spool_at l.customer l.spool).whole);
  room : vec_capacity l.files ≡ l.count;
  length : vec_len l.files ≡ l.index;
}
