-- What is remembered of addresses. Moments and pauses are milliseconds.
use Rattle.std.specs.Prelude.{◌≡◌, ℕ, ◌+◌, ◌-◌, ◌*◌, ◌≤◌, ◌==◌, ◌||◌, Bool, true, false, not, List, [], ◌∷◌, ◌++◌}
use Rattle.std.specs.Prelude.{length}
use Rattle.std.specs.Prelude.{filter, find, map, min, max, nat_lt, cond, if◌then◌else◌, Option, Some, None, position}
use Rattle.std.specs.Prelude.{remove, unwrap_or}
use Rattle.std.specs.List.{list_any}
use Rattle.std.specs.Option.{option_map_or}
use Rattle.std.specs.declared.net.ip_addr.IpAddr.{IpAddr}
use Rattle.njh_table.specs.Ranges.{number_of}
use Rattle.njh_anteroom.specs.Addresses.{are_distinct, is_loopback}
use Rattle.njh_anteroom.specs.declared.remembered.Remembered.{Remembered}

abbrev pub new_remembered : IpAddr → Remembered
new_remembered address = record {
  address = address;
  had_session = false;
  refusals = 0;
  refused = None;
  pause = 0;
  until = 0;
}

-- of the address with this number
abbrev pub is_of : ℕ → Remembered → Bool
is_of number r = number_of r.address == number

abbrev pub remembered_of : ℕ → List Remembered → Option Remembered
remembered_of number all = find (is_of number) all

-- ---- the rank of an address

-- there is such a moment, in the last minute
abbrev pub is_recent : ℕ → Option ℕ → Bool
is_recent now None = false
is_recent now (Some moment) = nat_lt (now - moment) 60000

-- a sign-on was refused in the last minute, or the pause still runs
abbrev pub has_blemish : ℕ → Remembered → Bool
has_blemish now r = is_recent now r.refused || nat_lt now r.until

-- 0, known: a session was up on a connection of it; 1, new: no session is known; 2, blemished, whatever was before
abbrev pub rank_at : ℕ → Remembered → ℕ
rank_at now r = cond (has_blemish now r) 2 (cond r.had_session 0 1)

-- The rank of the address with this number. One of which nothing is remembered is new.
abbrev pub rank_of : ℕ → List Remembered → ℕ → ℕ
rank_of now all number = option_map_or (rank_at now) (remembered_of number all) 1

-- until when its pause runs
abbrev pub until_of : List Remembered → ℕ → ℕ
until_of all number = option_map_or (λ r. r.until) (remembered_of number all) 0

-- how many sign-ons from an address were refused, as far as that is remembered
abbrev pub refusals_of : IpAddr → List Remembered → ℕ
refusals_of address all = option_map_or (λ r. r.refusals) (remembered_of (number_of address) all) 0

-- ---- what happens to it

-- The first pause is a second, and each is twice the one before, up to a minute. A second again behind one that ended a
-- minute ago, or if a session came up since.
abbrev pub pause_after : ℕ → Remembered → ℕ
pause_after now r = if nat_lt (now - r.until) 60000 then min (max (2 * r.pause) 1000) 60000 else 1000

-- a connection ended without a session
abbrev pub after_end : (was_refused : Bool) → (now : ℕ) → Remembered → Remembered
after_end was_refused now r = record {
  address = r.address;
  had_session = r.had_session;
  refusals = if was_refused then min (r.refusals + 1) 18446744073709551615 else r.refusals;
  refused = if was_refused then Some now else r.refused;
  pause = pause_after now r;
  until = min (now + pause_after now r) 18446744073709551615;
}

-- a session came up
abbrev pub after_session : Remembered → Remembered
after_session r = record r { had_session = true; pause = 0; until = 0 }

-- ---- who is remembered

abbrev pub without : ℕ → List Remembered → List Remembered
without number all = filter (λ r. not (is_of number r)) all

-- the place of the one that was noted longest ago among those without a session, and among all if each had one
abbrev pub first_to_go : List Remembered → ℕ
first_to_go all = unwrap_or (position (λ r. not r.had_session) all) 0

-- of 64 that one goes
abbrev pub with_room : List Remembered → List Remembered
with_room all = cond (nat_lt (length all) 64) all (remove all (first_to_go all))

-- this is remembered, behind all others, in place of what was remembered of its address
abbrev pub noted : Remembered → List Remembered → List Remembered
noted r all = with_room (without (number_of r.address) all) ++ r ∷ []

-- what is remembered of it, or nothing yet
abbrev pub remembered_or_new : IpAddr → Option Remembered → Remembered
remembered_or_new address None = new_remembered address
remembered_or_new address (Some r) = r

-- A connection of an address ended without a session. Nothing is remembered of loopback.
abbrev pub ended : IpAddr → (was_refused : Bool) → (now : ℕ) → List Remembered → List Remembered
ended address was_refused now all = cond (is_loopback (number_of address)) all
    (noted (after_end was_refused now (remembered_or_new address (remembered_of (number_of address) all))) all)

-- A session came up on a connection of an address. Nothing is remembered of loopback.
abbrev pub with_session : IpAddr → List Remembered → List Remembered
with_session address all = cond (is_loopback (number_of address)) all
    (noted (after_session (remembered_or_new address (remembered_of (number_of address) all))) all)

-- ---- what always holds

abbrev pub numbers_of : List Remembered → List ℕ
numbers_of all = map (λ r. number_of r.address) all

-- at most 64 are remembered, each address once, and loopback never
pub record IsMemory (all : List Remembered) : Type 0 where
  pub few : length all ≤ 64
  pub distinct : are_distinct (numbers_of all) ≡ true
  pub no_loopback : list_any is_loopback (numbers_of all) ≡ false
