-- Who comes to a line: who has it, or had it last, and who waits for it.
use Rattle.std.specs.Prelude.{ℕ, ◌+◌, ◌-◌, ◌&&◌, min, Bool, true, false, not, if◌then◌else◌, List, Option, Some, None}
use Rattle.std.specs.Prelude.{All, IsTrue}
use Rattle.std.specs.Net.Socket.{socket_ip}
use Rattle.std.specs.declared.net.socket_addr.SocketAddr.{SocketAddr}
use Rattle.njh_table.specs.Ranges.{allows, number_of}
use Rattle.njh_table.specs.declared.address_range.AddressRange.{AddressRange}
use Rattle.njh_anteroom.specs.Next.{entry_of, first_moment, guest_at, next_place, without_place}
use Rattle.njh_anteroom.specs.Remembered.{ended, with_session}
use Rattle.njh_anteroom.specs.Rooms.{empty_room}
use Rattle.njh_anteroom.specs.Waiting.{seated}
use Rattle.njh_anteroom.specs.declared.entry.Entry.{Entry}
use Rattle.njh_anteroom.specs.declared.guest.Guest.{Guest}
use Rattle.njh_anteroom.specs.declared.remembered.Remembered.{Remembered}
use Rattle.njh_lines.specs.TurningAway.{away_after, away_moment, no_opens, nobody_away, one_more_away}
use Rattle.njh_lines.specs.declared.entrance.Entrance.{Entrance}

abbrev pub first_entrance : {C : Type 0} → List AddressRange → Entrance C
first_entrance from = record {
  from = from;
  anteroom = empty_room;
  peer = None;
  not_allowed = nobody_away;
  turned_away = nobody_away;
  opens = no_opens;
}

-- the line is given to a peer
abbrev pub given_to : {C : Type 0} → SocketAddr → Entrance C → Entrance C
given_to address entrance = record entrance { peer = Some address }

-- what is remembered then
abbrev pub with_remembered : {C : Type 0} → List Remembered → Entrance C → Entrance C
with_remembered all entrance = record entrance { anteroom = record entrance.anteroom { remembered = all } }

-- ---- its sessions

-- a peer, if it is known, had a session
abbrev pub peer_in_session : Option SocketAddr → List Remembered → List Remembered
peer_in_session None all = all
peer_in_session (Some address) all = with_session (socket_ip address) all

-- a session came up on the peer's connection, which is remembered of its address
abbrev pub in_session : {C : Type 0} → Entrance C → Entrance C
in_session entrance =
    with_remembered (peer_in_session entrance.peer entrance.anteroom.remembered) entrance

-- whether a session was up on the connection before, and whether one was now
abbrev pub seen_session : {C : Type 0} → (had has : Bool) → Entrance C → Entrance C
seen_session true has entrance = entrance
seen_session false true entrance = in_session entrance
seen_session false false entrance = entrance

-- ---- its end

-- a peer, if it is known, had none
abbrev pub peer_ended : (was_refused : Bool) → (now : ℕ) → Option SocketAddr → List Remembered → List Remembered
peer_ended was_refused now None all = all
peer_ended was_refused now (Some address) all = ended (socket_ip address) was_refused now all

-- The peer's connection ended. It is remembered of its address that there was no session on it, or that a sign-on was
-- refused.
abbrev pub parted : {C : Type 0} → (had_session was_refused : Bool) → (now : ℕ) → Entrance C → Entrance C
parted had_session was_refused now entrance = if had_session && not was_refused then entrance else with_remembered
    (peer_ended was_refused now entrance.peer entrance.anteroom.remembered) entrance

-- what was refused on it was remembered at once, and the rest as it is lost
abbrev pub parted_as_lost : {C : Type 0} → (had_session was_refused : Bool) → (now : ℕ) → Entrance C → Entrance C
parted_as_lost had_session true now entrance = entrance
parted_as_lost had_session false now entrance = parted had_session false now entrance

-- ---- who is given the line next

abbrev pub next_guest : {C : Type 0} → (now : ℕ) → Entrance C → Option (Guest C)
next_guest now entrance =
    guest_at (next_place now entrance.anteroom.remembered entrance.anteroom.waiting) entrance.anteroom.waiting

-- who waits once that one was taken out
abbrev pub left_after : {C : Type 0} → (now : ℕ) → Entrance C → List (Guest C)
left_after now entrance =
    without_place (next_place now entrance.anteroom.remembered entrance.anteroom.waiting) entrance.anteroom.waiting

-- when somebody who waits may be given it; the last moment of all if nobody waits
abbrev pub wanted_at : {C : Type 0} → Entrance C → ℕ
wanted_at entrance = first_moment entrance.anteroom.remembered entrance.anteroom.waiting

-- ---- how many wait in all

-- how many, once so many wait in one anteroom in place of as many as before
abbrev pub recounted : (guests before after : ℕ) → ℕ
recounted guests before after = min (guests + after) 18446744073709551615 - before

-- ---- who comes

-- what becomes of a connection that comes; `may_grow` says whether one more may wait on any line
abbrev pub entry_at : {C : Type 0} → SocketAddr → (may_grow : Bool) → (now : ℕ) → Entrance C → Entry
entry_at address may_grow now entrance =
    entry_of (number_of (socket_ip address)) now may_grow entrance.anteroom.remembered entrance.anteroom.waiting

-- a connection came from where the line takes some: it waits, or it was closed, and counts as turned away
abbrev pub welcomed : {C : Type 0} → SocketAddr → (may_grow : Bool) → (now : ℕ) → C → Entrance C → Entrance C
welcomed {C} address may_grow now connection entrance =
    let entry = entry_at address may_grow now entrance in
    let guest : Guest C = record { connection = connection; address = address; since = now } in
    record entrance {
      anteroom = record entrance.anteroom { waiting = seated entry guest entrance.anteroom.waiting };
      turned_away = away_after entry entrance.turned_away;
    }

-- a connection came to the line: one from where it takes none was closed, and counts as not allowed
abbrev pub visited : {C : Type 0} → SocketAddr → (may_grow : Bool) → (now : ℕ) → C → Entrance C → Entrance C
visited address may_grow now connection entrance = if allows entrance.from (socket_ip address)
    then welcomed address may_grow now connection entrance
    else record entrance { not_allowed = one_more_away entrance.not_allowed }

-- all who wait came from where the line takes connections
abbrev pub AreAllowed : {C : Type 0} → Entrance C → Type 0
AreAllowed entrance =
    All (λ guest. IsTrue (allows entrance.from (socket_ip guest.address))) entrance.anteroom.waiting

-- when some who were closed are told of next, if no further one comes
abbrev pub away_at : {C : Type 0} → Entrance C → ℕ
away_at entrance = min (away_moment entrance.not_allowed) (away_moment entrance.turned_away)
