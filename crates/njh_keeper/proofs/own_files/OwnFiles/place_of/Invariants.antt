use Rattle.{std.{proofs.Common.take, specs.List.AllByRecursion}, njh_keeper.specs.code.Partly.IsAnother}
use Rattle.njh_keeper.proofs.own_files.OwnFiles.place_of.Given as goal

-- none before the place is the file
abbrev pub invariant-loop-place : goal.invariant-loop-place
invariant-loop-place l = AllByRecursion (IsAnother l.number l.records) (take l.place l.self.partial.items)
