use Rattle.std.proofs.Common.{ℕ, ◌<◌, ◌≤◌, ◌^◌, take}
use Rattle.std.specs.List.{AllByRecursion}
use Rattle.njh_spoolfile.proofs.copying.numbers_behind.Given as goal

-- so many have lower ones, and where all have, these are the least
abbrev pub invariant-loop-stored : goal.invariant-loop-stored
invariant-loop-stored l = record {
  behind : AllByRecursion (λ f. (f.id < l.next.id) × (f.file.key < l.next.key)) (take l.stored-index l.files);
  least : (id key : ℕ) → (0 < id) × (0 < key) → AllByRecursion (λ f. (f.id < id) × (f.file.key < key)) l.files
      → (l.next.id ≤ id) × (l.next.key ≤ key);
  low : l.next.id < 2 ^ 63;
}
