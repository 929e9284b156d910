-- How the keeper goes through a customer's files, beside those that the hub has of them now.
use Rattle.std.specs.Prelude.{◌≡◌, ℕ, ◌≤◌, List, length, take, drop}
use Rattle.njh_spool.specs.CustomerSpool.{WholeFile}
use Rattle.njh_customer.specs.Surviving.{Survive}
use Rattle.njh_keeper.specs.code.Remembered.{keyed}

-- no two files have one number
abbrev pub AreNumbered : List WholeFile → Type 0
AreNumbered files = (n : ℕ) → keyed (λ f. f.number) n files ≤ 1

-- The first so many files are those of the hub now, and of the others those are still there that are after them.
pub record IsWalkedTo (still files : List WholeFile) (i : ℕ) : Type 0 where
  pub reaches : i ≤ length files
  pub front : take i files ≡ take i still
  pub survive : Survive (drop i files) (drop i still)
  pub once : AreNumbered (drop i files)
