-- When a customer's lines are looked at because something came that may give one of them something to send: at once, or
-- after a pause, so that all these looks take an eighth of the time at most. One costs what its lines and files do.
use Rattle.std.specs.Prelude.{ℕ, ◌+◌, ◌-◌, ◌*◌, ◌/◌, Bool, true, false, ◌&&◌, ◌==◌, nat_le, nat_lt, min, if◌then◌else◌}
use Rattle.std.specs.Prelude.{◌≡◌, ◌≢◌, ◌≤◌, ◌⊎◌, List, Some, slice_get}
use Rattle.std.specs.Option.{option_map}
use Rattle.njh_sight.specs.declared.customers.Row.{Row}

-- a customer of whom no line is served
abbrev pub no_row : Row
no_row = record { customer = 0; first = 0; end = 0; has_moved = false; again = 0 }

-- a line without files costs as much as sixteen files, and a customer has 12,500 in a millisecond
abbrev pub pause_for : ℕ → ℕ → ℕ
pause_for lines files = min (lines * (16 + files)) 18446744073709551615 / 12500

abbrev pub marked : Row → Row
marked row = record row { has_moved = true }

abbrev pub is_wanted : Row → ℕ → Bool
is_wanted row now = row.has_moved && nat_le row.again now

-- they were looked at, and the customer has so many whole files
abbrev pub looked : Row → ℕ → ℕ → Row
looked row now files = record row {
  has_moved = false;
  again = min (now + pause_for (row.end - row.first) files) 18446744073709551615;
}

-- they are looked at again at this moment too, if there is one
abbrev pub looked_again : Row → ℕ → Row
looked_again row moment = if moment == 18446744073709551615 then row else record row {
  has_moved = true;
  again = if nat_lt row.again moment then moment else row.again;
}

abbrev pub look_moment : Row → ℕ
look_moment row = if row.has_moved then row.again else 18446744073709551615

-- the customer's next line is at this place, behind those that it has
abbrev pub with_line : (customer place : ℕ) → Row → Row
with_line customer place row = record row {
  customer = if row.end == 0 then customer else row.customer;
  first = if row.end == 0 then place else row.first;
  end = min (place + 1) 18446744073709551615;
}

-- ---- all customers

-- So it is with one customer, if there is one of this number. Of the others nothing changed.
pub record IsRowMade (customer : ℕ) (made : Row → Row) (old new : List Row) : Type 0 where
  pub own : slice_get new customer ≡ option_map made (slice_get old customer)
  pub others : (other : ℕ) → other ≢ customer → slice_get new other ≡ slice_get old other

-- When the lines of some customer are to be looked at: those of none are before, and those of one are then, unless
-- none's ever are.
pub record IsFirstLook (rows : List Row) (moment : ℕ) : Type 0 where
  pub least : (customer : ℕ) (row : Row) → slice_get rows customer ≡ Some row → moment ≤ look_moment row
  pub wanted : (moment ≡ 18446744073709551615) ⊎ ((customer : ℕ) × ((row : Row)
      × (slice_get rows customer ≡ Some row) × (look_moment row ≡ moment)))
