-- When a line that rests is prompted: told that it may send, before its tick.
use Rattle.std.specs.Prelude.{ℕ, ◌+◌, ◌-◌, Bool, true, false, ◌&&◌, ◌||◌, not, ◌==◌, nat_lt, nat_le, min, if◌then◌else◌}
use Rattle.std.specs.Prelude.{◌≡◌, ◌↔◌, Option, Some, None, List, IsTrue, ◌⊎◌}
use Rattle.njh_table.specs.declared.LineId.{LineId}
use Rattle.njh_table.specs.declared.Protocol.{Protocol}
use Rattle.njh_table.specs.declared.Protocol.TheVariants.{Bisync, Tcp}
use Rattle.njh_line.specs.declared.Phase.TheVariants.{Up}
use Rattle.njh_hub.specs.declared.session_view.SessionView.{SessionView}
use Rattle.njh_hub.specs.Resting.{HasNext}
use Rattle.njh_hub.specs.WholeHub.{Part}
use Rattle.njh_sight.specs.declared.traffic.Sight.{Sight}
use Rattle.njh_sight.specs.declared.traffic.Traffic.{Traffic}

-- whether the peer of a line may speak unasked
abbrev pub speaks_unasked : Protocol → Bool
speaks_unasked Bisync = false
speaks_unasked Tcp = true

-- a line that has had no turn
abbrev pub no_traffic : Traffic
no_traffic = record {
  seen = record {
    is_up = false;
    next_count = 0;
    last_bcb = None;
    rests = false;
    waits = false;
    begun = 18446744073709551615;
    unasked = false;
  };
  text = None;
  paid = 0;
}

-- a line was seen with this session: whether it was up, and the counts of its blocks
pub record HasSeen (session : SessionView) (seen : Sight) : Type 0 where
  pub up : IsTrue seen.is_up ↔ (session.phase ≡ Up)
  pub next_count : seen.next_count ≡ session.next_count
  pub last_bcb : seen.last_bcb ≡ session.last_bcb

abbrev pub is_same_bcb : Option ℕ → Option ℕ → Bool
is_same_bcb None None = true
is_same_bcb None (Some bcb) = false
is_same_bcb (Some last) None = false
is_same_bcb (Some last) (Some bcb) = last == bcb

-- a text was taken or sent since: the count of the hub's next block is another, or the last BCB of the peer's
abbrev pub has_text : Sight → Sight → Bool
has_text was now = not (now.next_count == was.next_count) || not (is_same_bcb was.last_bcb now.last_bcb)

abbrev pub differs : Bool → Bool → Bool
differs true now = not now
differs false now = now

-- something that may give a line of the same customer something to send: a text, a session that begins or ends, or
-- bytes that waited and are all out
abbrev pub moves_others : Sight → Sight → Bool
moves_others was now = has_text was now || differs was.is_up now.is_up || (was.waits && not now.waits)

-- until when a line has paid once it sent a block out of its rest: five milliseconds more, and for 64 blocks at most
abbrev pub paid_after : ℕ → ℕ → ℕ
paid_after paid moment =
    let begun = if nat_lt paid moment then moment else paid in
    min (min (begun + 5) 18446744073709551615) (min (moment + 325) 18446744073709551615)

-- what is known of a line once it was seen so
abbrev pub noted : Traffic → Sight → ℕ → Traffic
noted t now moment = record {
  seen = now;
  text = if has_text t.seen now then Some moment else t.text;
  paid = if t.seen.rests && not (now.next_count == t.seen.next_count) then paid_after t.paid moment else t.paid;
}

-- it doesn't owe for 64 blocks, of which each takes five milliseconds
abbrev pub may_prompt : Traffic → ℕ → Bool
may_prompt t now = nat_le t.paid (min (now + 320) 18446744073709551615)

-- until when it isn't asked for what it has to send, if it owes for more
abbrev pub held_until : Traffic → ℕ → ℕ
held_until t now = if t.seen.rests && not (may_prompt t now) then t.paid - 320 else 18446744073709551615

-- a text was taken or sent in the last two seconds
abbrev pub is_recent : Option ℕ → ℕ → Bool
is_recent None now = false
is_recent (Some moment) now = nat_lt (now - moment) 2000

-- and its wire is silent for 20 milliseconds
abbrev pub is_silent : Traffic → ℕ → Bool
is_silent t now = is_recent t.text now && nat_le 20 (now - t.seen.begun)

-- and its peer can't speak unasked, as one over TCP/IP does
abbrev pub is_soon : Traffic → ℕ → Bool
is_soon t now = not t.seen.unasked && is_silent t now

-- a line rests, and its peer can't speak unasked
abbrev pub waits_for_peer : Sight → Bool
waits_for_peer seen = seen.rests && not seen.unasked

-- A line that rests is prompted: that is so, or the hub has a block to send on it (`HasNext`: by its own customer's
-- part alone) and the line doesn't owe for too many. Else this looks at nothing but what was noted of the line itself,
-- and at the time.
abbrev pub IsPrompted : Traffic → List Part → LineId → ℕ → Type 0
IsPrompted t parts id now = IsTrue (is_soon t now) ⊎ (IsTrue (may_prompt t now) × HasNext parts id)

-- when it is to be visited because texts were on it, if that is to come
abbrev pub soon : Traffic → ℕ → ℕ
soon t now = let moment = min (t.seen.begun + 20) 18446744073709551615 in
    if waits_for_peer t.seen && nat_lt now moment && is_recent t.text moment then moment else 18446744073709551615
