-- What has come of a part is less than the part, and nothing of a head has come while the data of a TTR come.
use Rattle.std.specs.Prelude.{ℕ, Bool, true, ◌&&◌, ◌==◌, List, length, nat_le, nat_lt, Result, Ok, Err}
use Rattle.njh_tcp.specs.Limits.{ttb_head, ttr_head, longest_ttr}
use Rattle.njh_tcp.specs.declared.fault.TtbFault.{TtbFault}
use Rattle.njh_tcp.specs.declared.place.Place.{Place}
use Rattle.njh_tcp.specs.declared.place.Place.TheVariants.{Head, TtrHead, Ttr}

abbrev pub has_room_at : Place → List ℕ → List ℕ → Bool
has_room_at Head head held = nat_lt (length head) ttb_head
has_room_at (TtrHead behind) head held = nat_lt (length head) ttr_head
has_room_at (Ttr behind size) head held =
    (length head == 0) && (nat_lt (length held) size && (nat_le size longest_ttr && nat_le ttr_head behind))

abbrev pub has_room : Result Place TtbFault → List ℕ → List ℕ → Bool
has_room (Ok place) head held = has_room_at place head held
has_room (Err fault) head held = true
