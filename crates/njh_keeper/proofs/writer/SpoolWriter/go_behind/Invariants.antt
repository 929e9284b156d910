use Rattle.{std.proofs.Common.{◌≡◌, take}, njh_keeper.specs.code.Writing.{id_behind, key_behind}}
use Rattle.njh_keeper.proofs.writer.SpoolWriter.go_behind.Given as goal

-- so many files are behind
abbrev pub invariant-loop-stored : goal.invariant-loop-stored
invariant-loop-stored g l =
    l.self ≡ record l.fn.self {
      next_id = id_behind l.fn.self.next_id (take l.stored-index l.files);
      next_key = key_behind l.fn.self.next_key (take l.stored-index l.files);
    }
