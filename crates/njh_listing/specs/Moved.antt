-- What becomes of a spool file into which whole files are copied, and what is printed of it.
use Rattle.std.specs.Prelude.{ℕ, List, Option}
use Rattle.std.specs.Io.KnownBytes.{Appends}
use Rattle.sqlite.specs.State.{State}
use Rattle.njh_spoolfile.specs.Kept.{SpoolContents}
use Rattle.njh_spoolfile.specs.CommitState.{Stands}
use Rattle.njh_spoolfile.specs.Copies.{IsCopied}
use Rattle.njh_listing.specs.Listed.{listing_text}

-- The files that are asked for came behind those that the other spool file had, of which none is asked for; they are
-- committed, and the listing of them was printed.
pub record IsMoved (customer : Option (List ℕ)) (from before : SpoolContents) (at : State)
    (old new : Option (List ℕ)) : Type 0 where
  pub after : SpoolContents
  pub stands : Stands (record { now = after; kept = after }) at
  pub copied : IsCopied customer from before after
  pub listed : Appends old new (listing_text customer after.files)
