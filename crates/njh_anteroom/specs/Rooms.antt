-- An anteroom, as clauses see it.
use Rattle.std.specs.Prelude.{List, []}
use Rattle.njh_anteroom.specs.declared.guest.Guest.{Guest}
use Rattle.njh_anteroom.specs.declared.remembered.Remembered.{Remembered}

-- who waits, in the order in which they came, and what is remembered of addresses, what was noted last behind all else
pub record Room (C : Type 0) : Type 0 where
  pub waiting : List (Guest C)
  pub remembered : List Remembered

abbrev pub empty_room : {C : Type 0} → Room C
empty_room = record { waiting = []; remembered = [] }
