-- All who wait come from where a line takes connections.
use Rattle.std.proofs.Common.{◌≡◌, ℕ, Bool, true, false, cond, All, List, refl, sym, subst}
use Rattle.std.specs.Prelude.{IsTrue}
use Rattle.std.specs.Net.Socket.{socket_ip}
use Rattle.std.specs.declared.net.socket_addr.SocketAddr.{SocketAddr}
use Rattle.njh_table.specs.Ranges.{allows}
use Rattle.njh_table.specs.declared.address_range.AddressRange.{AddressRange}
use Rattle.njh_anteroom.specs.declared.guest.Guest.{Guest}
use Rattle.njh_anteroom.proofs.SeatLaws.{all_left, all_seated}
use Rattle.njh_lines.specs.Entrances.{entry_at, left_after, visited, welcomed, AreAllowed}
use Rattle.njh_lines.specs.TurningAway.{one_more_away}
use Rattle.njh_lines.specs.declared.entrance.Entrance.{Entrance}

-- once a connection came
visited-allowed : {C : Type 0} (address : SocketAddr) (may_grow : Bool) (now : ℕ) (connection : C)
    (entrance : Entrance C) → AreAllowed entrance → AreAllowed (visited address may_grow now connection entrance)
visited-allowed {C} address may_grow now connection entrance all = by (allows entrance.from (socket_ip address)) refl
  where
    guest : Guest C
    guest = record { connection = connection; address = address; since = now }

    by : (test : Bool) → allows entrance.from (socket_ip address) ≡ test
        → AreAllowed (cond test (welcomed address may_grow now connection entrance)
        (record entrance { not_allowed = one_more_away entrance.not_allowed }))
    by true is = all_seated (λ (one : Guest C). IsTrue (allows entrance.from (socket_ip one.address)))
        (entry_at address may_grow now entrance) guest entrance.anteroom.waiting is all
    by false is = all

pub came_allowed : {C : Type 0} (address : SocketAddr) (may_grow : Bool) (now : ℕ) (connection : C)
    (entrance new : Entrance C) → new ≡ visited address may_grow now connection entrance → AreAllowed entrance
    → AreAllowed new
came_allowed {C} address may_grow now connection entrance new is all =
    subst (λ (its : Entrance C). AreAllowed its) (sym is)
    (visited-allowed address may_grow now connection entrance all)

-- once one was taken out
pub left_allowed : {C : Type 0} (now : ℕ) (entrance new : Entrance C) → new.from ≡ entrance.from
    → new.anteroom.waiting ≡ left_after now entrance → AreAllowed entrance → AreAllowed new
left_allowed {C} now entrance new from waiting all =
    let Of : List AddressRange → List (Guest C) → Type 0 = λ its who.
    All (λ (one : Guest C). IsTrue (allows its (socket_ip one.address))) who in
    subst (λ (its : List AddressRange). Of its new.anteroom.waiting) (sym from)
    (subst (λ (who : List (Guest C)). Of entrance.from who) (sym waiting)
    (all_left (λ (one : Guest C). IsTrue (allows entrance.from (socket_ip one.address))) _ entrance.anteroom.waiting all))
