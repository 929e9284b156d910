-- Who waits, in the order in which they came.
use Rattle.std.specs.Prelude.{◌≡◌, ℕ, ◌<◌, ◌≤◌, ◌==◌, Bool, true, false, not, List, [], ◌∷◌, ◌++◌, length, filter, map, position}
use Rattle.std.specs.Prelude.{remove}
use Rattle.std.specs.Prelude.{slice_set, cond, Option, None}
use Rattle.std.specs.Net.Socket.{socket_ip}
use Rattle.njh_table.specs.Ranges.{number_of}
use Rattle.njh_anteroom.specs.Addresses.{are_distinct, is_among, is_loopback}
use Rattle.njh_anteroom.specs.declared.entry.Entry.{Entry}
use Rattle.njh_anteroom.specs.declared.entry.Entry.TheVariants.{Renewed, Added, Displaced, TurnedAway}
use Rattle.njh_anteroom.specs.declared.guest.Guest.{Guest}

-- the number of its address
abbrev pub number_in : {C : Type 0} → Guest C → ℕ
number_in guest = number_of (socket_ip guest.address)

-- whether it is this one
abbrev pub is_from : {C : Type 0} → ℕ → Guest C → Bool
is_from number guest = number_in guest == number

abbrev pub numbers_in : {C : Type 0} → List (Guest C) → List ℕ
numbers_in waiting = map number_in waiting

-- where a connection of this address waits already; each of loopback has a place of its own
abbrev pub place_of : {C : Type 0} → ℕ → List (Guest C) → Option ℕ
place_of number waiting = cond (is_loopback number) None (position (is_from number) waiting)

-- who waits after a connection came
abbrev pub seated : {C : Type 0} → Entry → Guest C → List (Guest C) → List (Guest C)
seated (Renewed place) guest waiting = slice_set waiting place guest
seated Added guest waiting = waiting ++ guest ∷ []
seated (Displaced place) guest waiting = remove waiting place ++ guest ∷ []
seated TurnedAway guest waiting = waiting

-- at most 8 wait, and no two from one address, unless it is loopback
pub record IsQueue {C : Type 0} (waiting : List (Guest C)) : Type 0 where
  pub few : length waiting ≤ 8
  pub distinct : are_distinct (filter (λ number. not (is_loopback number)) (numbers_in waiting)) ≡ true

-- one from the address with this number may wait behind all others: no other waits from there, unless it is loopback
abbrev pub HasPlace : {C : Type 0} → ℕ → List (Guest C) → Type 0
HasPlace number waiting =
    (length waiting < 8) × (is_loopback number ≡ false → is_among number (numbers_in waiting) ≡ false)
