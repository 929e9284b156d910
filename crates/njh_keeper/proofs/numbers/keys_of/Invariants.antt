use Rattle.std.proofs.Common.{◌≡◌, map, take}
use Rattle.njh_keeper.proofs.numbers.keys_of.Given as goal

-- those of so many files are there
abbrev pub invariant-loop-stored : goal.invariant-loop-stored
invariant-loop-stored l = l.keys.items ≡ map (λ f. f.file.key) (take l.stored-index l.files)
