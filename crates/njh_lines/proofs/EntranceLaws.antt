-- What is remembered of the address of the peer that has a line.
use Rattle.std.proofs.Common.{◌≡◌, ◌∙◌, ◌⊎◌, ℕ, Bool, true, false, List, Option, Some, ap, inl, inr, refl, sym}
use Rattle.std.proofs.lemmas.Bool.{false≢true}
use Rattle.std.specs.Net.Socket.{socket_ip}
use Rattle.std.specs.declared.net.ip_addr.IpAddr.{IpAddr}
use Rattle.std.specs.declared.net.socket_addr.SocketAddr.{SocketAddr}
use Rattle.njh_anteroom.specs.Remembered.{ended, with_session}
use Rattle.njh_anteroom.specs.Rooms.{Room}
use Rattle.njh_anteroom.specs.declared.guest.Guest.{Guest}
use Rattle.njh_anteroom.specs.declared.remembered.Remembered.{Remembered}
use Rattle.njh_lines.specs.Entrances.{in_session, parted, peer_ended, peer_in_session, with_remembered}
use Rattle.njh_lines.specs.declared.entrance.Entrance.{Entrance}

-- an entrance in whose anteroom the same wait, and this is remembered
remembers : {C : Type 0} (entrance : Entrance C) (room : Room C) (all : List Remembered)
    → room.remembered ≡ all → room.waiting ≡ entrance.anteroom.waiting
    → record entrance { anteroom = room } ≡ with_remembered all entrance
remembers {C} entrance room all remembered waiting =
    let With : List (Guest C) → List Remembered → Entrance C =
    λ w r. record entrance { anteroom = record { waiting = w; remembered = r } } in
    ap (λ (w : List (Guest C)). With w room.remembered) waiting
    ∙ ap (λ (r : List Remembered). With entrance.anteroom.waiting r) remembered

-- a session on the connection of a peer that is known
pub session_of_peer : {C : Type 0} (entrance : Entrance C) (address : SocketAddr) (ip : IpAddr) (room : Room C)
    → entrance.peer ≡ Some address → ip ≡ socket_ip address
    → room.remembered ≡ with_session ip entrance.anteroom.remembered → room.waiting ≡ entrance.anteroom.waiting
    → record entrance { anteroom = room } ≡ in_session entrance
session_of_peer entrance address ip room peer its remembered waiting =
    let before = entrance.anteroom.remembered in
    remembers entrance room (peer_in_session entrance.peer before)
    (remembered ∙ (ap (λ (one : IpAddr). with_session one before) its
    ∙ sym (ap (λ (one : Option SocketAddr). peer_in_session one before) peer))) waiting

-- the end of a connection that is noted
noted_end : {C : Type 0} (had refused : Bool) (now : ℕ) (entrance : Entrance C)
    → (had ≡ true × refused ≡ true) ⊎ (had ≡ false)
    → with_remembered (peer_ended refused now entrance.peer entrance.anteroom.remembered) entrance
    ≡ parted had refused now entrance
noted_end false refused now entrance either = refl
noted_end true true now entrance either = refl
noted_end true false now entrance (inl both) = absurd (false≢true both.1)
noted_end true false now entrance (inr none) = absurd (false≢true (sym none))

pub end_of_peer : {C : Type 0} (entrance : Entrance C) (address : SocketAddr) (ip : IpAddr) (room : Room C)
    (had refused : Bool) (now : ℕ) → entrance.peer ≡ Some address → ip ≡ socket_ip address
    → room.remembered ≡ ended ip refused now entrance.anteroom.remembered
    → room.waiting ≡ entrance.anteroom.waiting → (had ≡ true × refused ≡ true) ⊎ (had ≡ false)
    → record entrance { anteroom = room } ≡ parted had refused now entrance
end_of_peer entrance address ip room had refused now peer its remembered waiting either =
    let before = entrance.anteroom.remembered in
    remembers entrance room (peer_ended refused now entrance.peer before)
    (remembered ∙ (ap (λ (one : IpAddr). ended one refused now before) its
    ∙ sym (ap (λ (one : Option SocketAddr). peer_ended refused now one before) peer))) waiting
    ∙ noted_end had refused now entrance either
