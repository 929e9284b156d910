-- Whom the line is to be given, and what becomes of a connection that comes.
use Rattle.std.specs.Prelude.{ℕ, suc, ◌==◌, ◌&&◌, Bool, List, [], ◌∷◌, length, position, fold, min, max, nat_le}
use Rattle.std.specs.Prelude.{nat_lt}
use Rattle.std.specs.Prelude.{cond, remove, slice_get, Option, Some, None}
use Rattle.std.specs.Option.{option_or, option_and_then, option_map}
use Rattle.njh_anteroom.specs.Waiting.{number_in, place_of}
use Rattle.njh_anteroom.specs.Remembered.{rank_of, until_of}
use Rattle.njh_anteroom.specs.declared.entry.Entry.{Entry}
use Rattle.njh_anteroom.specs.declared.entry.Entry.TheVariants.{Renewed, Added, Displaced, TurnedAway}
use Rattle.njh_anteroom.specs.declared.guest.Guest.{Guest}
use Rattle.njh_anteroom.specs.declared.remembered.Remembered.{Remembered}

-- the rank of its address
abbrev pub rank_in : {C : Type 0} → ℕ → List Remembered → Guest C → ℕ
rank_in now remembered guest = rank_of now remembered (number_in guest)

-- whether it is this one
abbrev pub has_rank : {C : Type 0} → (rank : ℕ) → ℕ → List Remembered → Guest C → Bool
has_rank rank now remembered guest = rank_in now remembered guest == rank

-- its pause is over
abbrev pub has_paused : {C : Type 0} → ℕ → List Remembered → Guest C → Bool
has_paused now remembered guest = nat_le (until_of remembered (number_in guest)) now

-- ---- who is next

-- The place of the first who is known; if there is none, of the first who is new; if there is none either, all are
-- blemished, and it is that of the first whose pause is over.
abbrev pub next_place : {C : Type 0} → ℕ → List Remembered → List (Guest C) → Option ℕ
next_place now remembered waiting = option_or
    (option_or (position (has_rank 0 now remembered) waiting) (position (has_rank 1 now remembered) waiting))
    (position (has_paused now remembered) waiting)

-- who stands there
abbrev pub guest_at : {C : Type 0} → Option ℕ → List (Guest C) → Option (Guest C)
guest_at place waiting = option_and_then (slice_get waiting) place

-- all but who stands there
abbrev pub without_place : {C : Type 0} → Option ℕ → List (Guest C) → List (Guest C)
without_place None waiting = waiting
without_place (Some place) waiting = remove waiting place

-- the least end of a pause of those who wait; the last moment of all if nobody does
abbrev pub first_moment : {C : Type 0} → List Remembered → List (Guest C) → ℕ
first_moment remembered waiting =
    fold (λ least guest. min least (until_of remembered (number_in guest))) 18446744073709551615 waiting

-- ---- what becomes of a connection that comes

-- the last place at which a test holds
abbrev pub last_place : {X : Type 0} → (X → Bool) → List X → Option ℕ
last_place test [] = None
last_place test (x ∷ xs) = option_or (option_map suc (last_place test xs)) (cond (test x) (Some 0) None)

-- the greatest rank of those who wait; 0 if nobody does
abbrev pub greatest_rank : {C : Type 0} → ℕ → List Remembered → List (Guest C) → ℕ
greatest_rank now remembered waiting = fold (λ greatest guest. max greatest (rank_in now remembered guest)) 0 waiting

-- the place of the last who has it
abbrev pub last_of_greatest : {C : Type 0} → ℕ → List Remembered → List (Guest C) → Option ℕ
last_of_greatest now remembered waiting =
    last_place (has_rank (greatest_rank now remembered waiting) now remembered) waiting

abbrev pub displaced : Option ℕ → Entry
displaced None = TurnedAway
displaced (Some place) = Displaced place

-- One of a rank that is less than the greatest takes the place of the last who has that; all others are turned away.
abbrev pub displacement : {C : Type 0} → (rank : ℕ) → ℕ → List Remembered → List (Guest C) → Entry
displacement rank now remembered waiting =
    cond (nat_lt rank (greatest_rank now remembered waiting))
    (displaced (last_of_greatest now remembered waiting))
    TurnedAway

-- where a connection of its address waits already it takes that place
abbrev pub entry_at : Option ℕ → (otherwise : Entry) → Entry
entry_at (Some place) otherwise = Renewed place
entry_at None otherwise = otherwise

-- Of one from the address with this number. It is added where fewer than 8 wait, if one handle more may be taken.
abbrev pub entry_of : {C : Type 0} → ℕ → ℕ → (may_grow : Bool) → List Remembered → List (Guest C) → Entry
entry_of number now may_grow remembered waiting =
    entry_at (place_of number waiting)
    (cond (may_grow && nat_lt (length waiting) 8)
    Added
    (displacement (rank_of now remembered number) now remembered waiting))
