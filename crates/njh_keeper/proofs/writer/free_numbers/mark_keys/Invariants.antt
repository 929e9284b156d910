use Rattle.{std.proofs.Common.{◌≡◌, take}, njh_keeper.specs.code.Writing.marked_by}
use Rattle.njh_keeper.proofs.writer.free_numbers.mark_keys.Given as goal

-- those of so many files are marked
abbrev pub invariant-loop-stored : goal.invariant-loop-stored
invariant-loop-stored l = l.marks ≡ marked_by l.fn.marks (take l.stored-index l.files)
