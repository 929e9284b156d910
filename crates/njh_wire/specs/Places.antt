-- Of which line a connection is, by the line's place among those that are served.
use Rattle.std.specs.Prelude.{◌≡◌, ℕ, Option, Some, None, ⊤}
use Rattle.std.specs.Option.{option_map}
use Rattle.std.specs.declared.net.socket_addr.SocketAddr.{SocketAddr}
use Rattle.njh_wire.specs.Standing.{Standing}

-- it is of this place, where there is one
abbrev pub IsAt : ℕ → Option ℕ → Type 0
IsAt place None = ⊤
IsAt place (Some other) = other ≡ place

-- a connection that was taken, if one was, is of this place
abbrev pub IsTaken : {C : Type 0} → (C → ℕ) → ℕ → Option (C × SocketAddr) → Type 0
IsTaken place_of place None = ⊤
IsTaken place_of place (Some taken) = place_of taken.0 ≡ place

-- A wire's connection, the one that waits for its place, and the one that leaves are of its own line.
pub record IsOwn {C : Type 0} (place_of : C → ℕ) (s : Standing C) : Type 0 where
  pub connected : IsAt s.place (option_map place_of s.connection)
  pub follows : IsAt s.place (option_map place_of s.next)
  pub leaves : IsAt s.place (option_map place_of s.leave.who)
