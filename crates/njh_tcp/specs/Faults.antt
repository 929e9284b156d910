-- What is wrong with a TTB, and with a TTR.
use Rattle.std.specs.Prelude.{ℕ, ◌+◌, ◌-◌, ◌==◌, if◌then◌else◌, List, length, slice_get, nat_lt, Option, Some, None}
use Rattle.njh_tcp.specs.Limits.{longest_ttr}
use Rattle.njh_tcp.specs.declared.fault.TtbFault.{TtbFault}
use Rattle.njh_tcp.specs.declared.fault.TtbFault.TheVariants.{EarlyEnd, LongTtr, PastEnd, StrangeTtr}

-- A TTR's head tells so many data, and so many bytes of the TTB are behind that head. If it tells none, it is the end.
-- Else the data and the end have to be among those bytes.
abbrev pub head_fault : ℕ → ℕ → Option TtbFault
head_fault behind size =
    if size == 0 then (if behind == 0 then None else Some (EarlyEnd behind)) else
    if nat_lt longest_ttr size then Some (LongTtr size) else
    if nat_lt behind (size + 4) then Some (PastEnd size (behind - 4)) else None

-- The data of a TTR are none that the hub knows, or not at this place.
abbrev pub strange : List ℕ → TtbFault
strange held = StrangeTtr (record {
  first = slice_get held 0;
  second = slice_get held 1;
  more = nat_lt 2 (length held);
})
