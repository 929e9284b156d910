-- What a queue requires of one who comes.
use Rattle.std.specs.Prelude.{◌≡◌, ⊤, ℕ, ◌<◌, false, List, length, slice_index_or}
use Rattle.njh_anteroom.specs.Addresses.{is_among, is_loopback}
use Rattle.njh_anteroom.specs.Waiting.{numbers_in}
use Rattle.njh_anteroom.specs.declared.entry.Entry.{Entry}
use Rattle.njh_anteroom.specs.declared.entry.Entry.TheVariants.{Renewed, Added, Displaced, TurnedAway}
use Rattle.njh_anteroom.specs.declared.guest.Guest.{Guest}

-- nobody waits from the address with this number, unless it is loopback
abbrev pub IsFree : {C : Type 0} → ℕ → List (Guest C) → Type 0
IsFree number waiting = is_loopback number ≡ false → is_among number (numbers_in waiting) ≡ false

-- one from the address with this number may enter so
abbrev pub Fits : {C : Type 0} → Entry → ℕ → List (Guest C) → Type 0
Fits (Renewed place) number waiting =
    (place < length waiting) × (slice_index_or (numbers_in waiting) place number ≡ number)
Fits Added number waiting = (length waiting < 8) × IsFree number waiting
Fits (Displaced place) number waiting = (place < length waiting) × IsFree number waiting
Fits TurnedAway number waiting = ⊤
