-- What a connection over TCP/IP moves, over another connection, in the place of a bisync line (NJE over TCP/IP).
use Rattle.std.specs.Prelude.{◌≡◌, ℕ, ◌<◌, Bool, true, false, List, [], ◌∷◌, ◌++◌, length, Option, Some, None, Result, Ok, Err}
use Rattle.std.specs.List.{AllByRecursion}
use Rattle.njh_wire.specs.declared.connection.ConnectionFault.{ConnectionFault}
use Rattle.njh_tcp.specs.declared.contact.Contact.{Contact}
use Rattle.njh_link.specs.Links.{LinkState, first_state}
use Rattle.njh_link.specs.Acts.{LinkAct, Came, Gave, Acknowledged, Wrote, Went, KeptAlive, SignedOff}
use Rattle.njh_link.specs.Acts.{after_acts, AreAllowed, came_in, gave_in, went_in, wrote_in}

pub record TcpState (C : Type 0) : Type 0 where
  -- the other connection
  pub inner : C
  pub link : LinkState
  -- what came on it and wasn't heard yet
  pub unheard : List ℕ
  -- the last byte of a frame that the line sends, until the TTB of that frame has gone out
  pub charged : Option ℕ
  -- whether a read was given a frame's end and no more is to be given to it
  pub paused : Bool
  -- whether the other connection may have more
  pub more : Bool

abbrev pub first_tcp : {C : Type 0} → C → Contact → TcpState C
first_tcp inner contact =
    record { inner = inner; link = first_state contact; unheard = []; charged = None; paused = false; more = true }

abbrev pub byte_list : Option ℕ → List ℕ
byte_list None = []
byte_list (Some byte) = byte ∷ []

-- how many bytes of the line were taken
abbrev pub count_taken : Result (Option ℕ) ConnectionFault → ℕ
count_taken (Ok (Some count)) = count
count_taken (Ok None) = 0
count_taken (Err fault) = 0

-- once all bytes of the line were taken, of which there are some, no byte of a TTB waits to go out
abbrev pub IsAllGone : (bytes : List ℕ) → (taken : ℕ) → (waiting : List ℕ) → Type 0
IsAllGone bytes taken waiting = 0 < length bytes → taken ≡ length bytes → waiting ≡ []

-- What a read does: bytes that came are heard, and some are given.
abbrev pub IsOfRead : LinkAct → Type 0
IsOfRead (Came bytes) = Unit {0}
IsOfRead (Gave count) = Unit {0}
IsOfRead Acknowledged = ⊥
IsOfRead (Wrote bytes) = ⊥
IsOfRead (Went count) = ⊥
IsOfRead KeptAlive = ⊥
IsOfRead SignedOff = ⊥

-- What an answer in the place of the peer's does: the line is given the Ack0 that it is owed.
abbrev pub IsOfAnswer : LinkAct → Type 0
IsOfAnswer Acknowledged = Unit {0}
IsOfAnswer (Gave count) = Unit {0}
IsOfAnswer (Came bytes) = ⊥
IsOfAnswer (Wrote bytes) = ⊥
IsOfAnswer (Went count) = ⊥
IsOfAnswer KeptAlive = ⊥
IsOfAnswer SignedOff = ⊥

-- What a send does: what the line writes is taken, and TTBs go out.
abbrev pub IsOfSend : LinkAct → Type 0
IsOfSend (Wrote bytes) = Unit {0}
IsOfSend (Went count) = Unit {0}
IsOfSend (Came bytes) = ⊥
IsOfSend (Gave count) = ⊥
IsOfSend Acknowledged = ⊥
IsOfSend KeptAlive = ⊥
IsOfSend SignedOff = ⊥

-- Any of these. What the line doesn't write is said by none of them.
abbrev pub IsOfLine : LinkAct → Type 0
IsOfLine KeptAlive = ⊥
IsOfLine SignedOff = ⊥
IsOfLine (Came bytes) = Unit {0}
IsOfLine (Gave count) = Unit {0}
IsOfLine Acknowledged = Unit {0}
IsOfLine (Wrote bytes) = Unit {0}
IsOfLine (Went count) = Unit {0}

-- From one state to another the line was given these bytes and these of its were taken: what happened on the link is
-- acts of this kind, each of them allowed, over what the other connection moved meanwhile.
pub record Moves {C : Type 0} (Kind : LinkAct → Type 0) (moved : C → C → List ℕ → List ℕ → Type 0)
    (before after : TcpState C) (came went : List ℕ) : Type 0 where
  pub acts : List LinkAct
  pub kinds : AllByRecursion Kind acts
  pub received : List ℕ
  pub sent : List ℕ
  pub moves : moved before.inner after.inner received sent
  pub link : after.link ≡ after_acts acts before.link
  pub allowed : AreAllowed acts before.link
  pub heard : before.unheard ++ received ≡ came_in acts ++ after.unheard
  pub gave : came ≡ gave_in acts before.link
  pub out : sent ≡ went_in acts before.link
  pub wrote : went ++ byte_list after.charged ≡ byte_list before.charged ++ wrote_in acts
