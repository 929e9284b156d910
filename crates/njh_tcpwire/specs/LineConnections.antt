-- What a connection of a line moves, by its protocol.
use Rattle.std.specs.Prelude.{◌≡◌, ℕ, List, ⊤}
use Rattle.njh_table.specs.declared.Role.{Role}
use Rattle.njh_table.specs.declared.Role.TheVariants.{Call, Answer}
use Rattle.njh_tcp.specs.declared.contact.Contact.{Contact}
use Rattle.njh_tcp.specs.declared.contact.Contact.TheVariants.{Called, Calling}
use Rattle.njh_wire.specs.declared.end.Stop.{Stop}
use Rattle.njh_wire.specs.declared.connection.Saying.{Saying}
use Rattle.njh_tcpwire.specs.Moves.{first_tcp, Moves, IsOfLine}
use Rattle.njh_tcpwire.specs.Sayings.{IsToldToSay}
use Rattle.njh_tcpwire.specs.declared.line_connection.LineConnection.{LineConnection}
use Rattle.njh_tcpwire.specs.declared.line_connection.LineConnection.TheVariants.{Bisync, Tcp}

-- It stays of its protocol.
abbrev pub line_moved : {C : Type 0} → (C → C → List ℕ → List ℕ → Type 0) → LineConnection C → LineConnection C → List ℕ →
    List ℕ → Type 0
line_moved moved (Bisync before) (Bisync after) came went = moved before after came went
line_moved moved (Tcp before) (Tcp after) came went = Moves IsOfLine moved before after came went
line_moved moved (Bisync before) (Tcp after) came went = ⊥
line_moved moved (Tcp before) (Bisync after) came went = ⊥

-- (Why a connection over TCP/IP gives no more is told by no other than itself.)
abbrev pub line_stops : {C : Type 0} → (C → Stop → Type 0) → LineConnection C → Stop → Type 0
line_stops stops (Bisync connection) stop = stops connection stop
line_stops stops (Tcp connection) stop = ⊤

abbrev pub line_place : {C : Type 0} → (C → ℕ) → LineConnection C → ℕ
line_place place_of (Bisync connection) = place_of connection
line_place place_of (Tcp connection) = place_of connection.inner

abbrev pub line_said : {C : Type 0} → (C → C → Saying → Type 0) → LineConnection C → LineConnection C → Saying → Type 0
line_said said (Bisync before) (Bisync after) saying = said before after saying
line_said said (Tcp before) (Tcp after) saying = IsToldToSay before after saying
line_said said (Bisync before) (Tcp after) saying = ⊥
line_said said (Tcp before) (Bisync after) saying = ⊥

-- ---- over TCP/IP

-- who dials calls
abbrev pub contact_of : Role → Contact
contact_of Call = Calling
contact_of Answer = Called

-- A connection that carries bytes carries the frames of a line from now on, and its contact hasn't begun.
abbrev pub IsOverTcp : {C : Type 0} → Role → LineConnection C → LineConnection C → Type 0
IsOverTcp role (Bisync before) (Tcp after) = after ≡ first_tcp before (contact_of role)
IsOverTcp role (Tcp before) (Tcp after) = after ≡ before
IsOverTcp role (Bisync before) (Bisync after) = ⊥
IsOverTcp role (Tcp before) (Bisync after) = ⊥
