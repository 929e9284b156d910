-- When files came, as far as it was seen: of each customer the last arrivals, of each file one, at most as many as a
-- customer may have files.
use Rattle.std.specs.Prelude.{ℕ, ◌==◌, Bool, List, [], ◌∷◌, ◌++◌, length, drop, filter, find, cond, nat_lt, not}
use Rattle.std.specs.Prelude.{replicate, slice_index_or, slice_set, Option, option_map}
use Rattle.njh_table.specs.Limits.{max_files}
use Rattle.njh_arrivals.specs.declared.arrivals.FileArrival.{FileArrival}

-- of each customer
abbrev pub Seen : Type 0
Seen = List (List FileArrival)

abbrev pub none_seen : ℕ → Seen
none_seen customers = replicate customers []

abbrev pub is_of : ℕ → FileArrival → Bool
is_of file a = a.file == file

abbrev pub without : ℕ → List FileArrival → List FileArrival
without file seen = filter (λ a. not (is_of file a)) seen

-- of too many the first is let go
abbrev pub with_room : List FileArrival → List FileArrival
with_room seen = cond (nat_lt (length seen) max_files) seen (drop 1 seen)

-- a file came: its earlier arrival, if there is one, is let go
abbrev pub with_arrival : ℕ → ℕ → List FileArrival → List FileArrival
with_arrival file moment seen =
    with_room (without file seen) ++ record { file = file; moment = moment } ∷ []

abbrev pub moment_in : ℕ → List FileArrival → Option ℕ
moment_in file seen = option_map (λ a. a.moment) (find (is_of file) seen)

-- of a customer's files
abbrev pub seen_of : ℕ → Seen → List FileArrival
seen_of c seen = slice_index_or seen c []

-- a file of customer c came
abbrev pub noted : ℕ → ℕ → ℕ → Seen → Seen
noted c file moment seen = slice_set seen c (with_arrival file moment (seen_of c seen))

-- when a file of customer c came
abbrev pub moment_of : ℕ → ℕ → Seen → Option ℕ
moment_of c file seen = moment_in file (seen_of c seen)
