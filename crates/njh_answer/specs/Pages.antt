-- What of a list one answer tells, and the place to go on from.
use Rattle.std.specs.Prelude.{ℕ, ◌+◌, ◌-◌, List, take, drop, cond, min, nat_lt}
use Rattle.serde_json.specs.Data.{Data, null, number, unsigned}
use Rattle.njh_answer.specs.declared.page.Page.{Page}

-- of so many items those from an index on, at most so many
abbrev pub page_of : ℕ → ℕ → ℕ → Page
page_of from most count = record { first = min from count; end = min (min from count + most) count }

abbrev pub told : {A : Type 0} → Page → List A → List A
told page items = take (page.end - page.first) (drop page.first items)

-- A place is an index, and as many more as have left.
abbrev pub next_data : ℕ → ℕ → ℕ → Data
next_data left end count = cond (nat_lt end count) (number (unsigned (min (left + end) 18446744073709551615))) null
