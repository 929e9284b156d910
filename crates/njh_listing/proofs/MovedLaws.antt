-- What was copied is there and listed, also after the listing was printed.
use Rattle.std.proofs.Common.{ℕ, List, Option, Result, Ok, Err, OnOk, subst, sym, arith}
use Rattle.std.specs.Io.KnownBytes.{Appends}
use Rattle.sqlite.specs.Effect.{Database}
use Rattle.sqlite.specs.State.{HasCleanDisk, State, Survives}
use Rattle.sqlite_trees.specs.Tree.{Trees}
use Rattle.njh_spoolfile.specs.Kept.{Holds, SpoolContents}
use Rattle.njh_spoolfile.specs.CommitState.{CommitState, Stands}
use Rattle.njh_spoolfile.specs.Copies.{IsCopiedInto}
use Rattle.njh_spoolfile.specs.Steps.{Stays}
use Rattle.njh_listing.specs.Listed.{listing_text}
use Rattle.njh_listing.specs.Moved.{IsMoved}

-- a disk that is clean after a call was clean before it
pub clean_before : {old new : State} {P : Trees → Type 0} → Survives old new P → HasCleanDisk new → HasCleanDisk old
clean_before call clean = omega (arith, call.clean, clean)

-- what stays stands as it stood
still_stands : (s : CommitState) (old new : State) → Stands s old → Stays old new → Stands s new
still_stands s old new stood stays = record {
  is_open = stays.is_open stood.is_open;
  now = subst (λ (d : Database). Holds s.now d.trees) (sym stays.now) stood.now;
  kept = subst (λ (d : Database). Holds s.kept d.trees) (sym stays.committed) stood.kept;
}

pub moved : {A E : Type 0} (r : Result A E) (customer : Option (List ℕ)) (count : ℕ) (first second copied at : State)
    (old new : Option (List ℕ))
    → ((from before : SpoolContents) → Holds from first.now.trees → Holds before second.now.trees
    → IsCopiedInto customer count from before copied)
    → OnOk r (Stays copied at)
    → OnOk r ((spool : SpoolContents) → Holds spool copied.now.trees
    → Appends old new (listing_text customer spool.files))
    → OnOk r ((from before : SpoolContents) → Holds from first.now.trees → Holds before second.now.trees
    → IsMoved customer from before at old new)
moved (Err e) customer count first second copied at old new were stays listed = tt
moved (Ok x) customer count first second copied at old new were stays listed = λ from before a b.
    let is = were from before a b in record {
      after = is.after;
      stands = still_stands (record { now = is.after; kept = is.after }) copied at is.stands stays;
      copied = is.copied;
      listed = listed is.after is.stands.now;
    }
