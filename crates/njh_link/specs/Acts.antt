-- What happens on a link, one act after another: what it gives of what came, and what goes out of what was written.
use Rattle.std.specs.Prelude.{◌≡◌, ℕ, ◌≤◌, List, [], ◌∷◌, ◌+◌, ◌++◌, length, take, drop, filter_map, Option, Some, None}
use Rattle.std.specs.Prelude.{Ok, Err}
use Rattle.njh_bisync.specs.Frames.{Received}
use Rattle.njh_bisync.specs.ByteSteps as line_steps
use Rattle.njh_tcp.specs.Carried as tcp
use Rattle.njh_tcp.specs.Carried.{Carried}
use Rattle.njh_tcp.specs.Hearing.{Outcome}
use Rattle.njh_tcp.specs.ByteSteps.{outcomes_after}
use Rattle.njh_tcp.specs.Texts.{text_of}
use Rattle.njh_link.specs.Talks.{let_out, talk_written}
use Rattle.njh_link.specs.Links.{LinkState, after_came, after_written, IsDue, with_ack0, keep_alive, sign_off, with_said}
use Rattle.njh_link.specs.declared.talk.Talk.{Talk}

pub data LinkAct : Type 0 where
  -- these bytes came, and so many were given to the line
  Came : List ℕ → LinkAct
  Gave : ℕ → LinkAct
  -- the line is given the Ack0 that it is owed
  Acknowledged : LinkAct
  -- the line wrote these bytes, and so many bytes of TTBs went out
  Wrote : List ℕ → LinkAct
  Went : ℕ → LinkAct
  -- the hub said what the line didn't write
  KeptAlive : LinkAct
  SignedOff : LinkAct

abbrev pub after_act : LinkAct → LinkState → LinkState
after_act (Came bytes) s = after_came bytes s
after_act (Gave count) s = record s { giving = drop count s.giving }
after_act Acknowledged s = with_ack0 s
after_act (Wrote bytes) s = after_written bytes s
after_act (Went count) s = record s { waiting = drop count s.waiting }
after_act KeptAlive s = with_said keep_alive s
after_act SignedOff s = with_said sign_off s

abbrev pub after_acts : List LinkAct → LinkState → LinkState
after_acts [] s = s
after_acts (act ∷ acts) s = after_acts acts (after_act act s)

-- When an act may be: an Ack0 is given only where it is owed and nothing waits.
abbrev pub IsAllowed : LinkAct → LinkState → Type 0
IsAllowed (Came bytes) s = s.giving ≡ []
IsAllowed (Gave count) s = count ≤ length s.giving
IsAllowed Acknowledged s = IsDue s
IsAllowed (Wrote bytes) s = s.waiting ≡ []
IsAllowed (Went count) s = count ≤ length s.waiting
IsAllowed KeptAlive s = s.waiting ≡ []
IsAllowed SignedOff s = s.waiting ≡ []

abbrev pub AreAllowed : List LinkAct → LinkState → Type 0
AreAllowed [] s = Unit {0}
AreAllowed (act ∷ acts) s = IsAllowed act s × AreAllowed acts (after_act act s)

-- the bytes that came, that were given, that went out, and that the line wrote
abbrev pub came_by : LinkAct → List ℕ
came_by (Came bytes) = bytes
came_by other = []

abbrev pub gave_by : LinkAct → LinkState → List ℕ
gave_by (Gave count) s = take count s.giving
gave_by other s = []

abbrev pub went_by : LinkAct → LinkState → List ℕ
went_by (Went count) s = take count s.waiting
went_by other s = []

abbrev pub wrote_by : LinkAct → List ℕ
wrote_by (Wrote bytes) = bytes
wrote_by other = []

abbrev pub came_in : List LinkAct → List ℕ
came_in [] = []
came_in (act ∷ acts) = came_by act ++ came_in acts

abbrev pub wrote_in : List LinkAct → List ℕ
wrote_in [] = []
wrote_in (act ∷ acts) = wrote_by act ++ wrote_in acts

abbrev pub gave_in : List LinkAct → LinkState → List ℕ
gave_in [] s = []
gave_in (act ∷ acts) s = gave_by act s ++ gave_in acts (after_act act s)

abbrev pub went_in : List LinkAct → LinkState → List ℕ
went_in [] s = []
went_in (act ∷ acts) s = went_by act s ++ went_in acts (after_act act s)

-- the frames that are given to the line: those that came, and each Ack0 that it was owed
abbrev pub given_of_outcomes : List Outcome → List Carried
given_of_outcomes [] = []
given_of_outcomes (Ok carried ∷ outcomes) = carried ∷ given_of_outcomes outcomes
given_of_outcomes (Err fault ∷ outcomes) = given_of_outcomes outcomes

abbrev pub given_by : LinkAct → LinkState → List Carried
given_by (Came bytes) s = given_of_outcomes (outcomes_after s.coming bytes)
given_by Acknowledged s = tcp.Ack0 ∷ []
given_by other s = []

abbrev pub given_in : List LinkAct → LinkState → List Carried
given_in [] s = []
given_in (act ∷ acts) s = given_by act s ++ given_in acts (after_act act s)

-- the frames that go out: what is let out of those that the line writes, and what the hub says by itself
abbrev pub frame_out : Option Carried → List Carried
frame_out None = []
frame_out (Some carried) = carried ∷ []

abbrev pub out_of_frames : Talk → List Received → List Carried
out_of_frames talk [] = []
out_of_frames talk (frame ∷ frames) =
    frame_out (let_out talk frame) ++ out_of_frames (talk_written frame talk) frames

abbrev pub out_by : LinkAct → LinkState → List Carried
out_by (Wrote bytes) s = out_of_frames s.talk (line_steps.frames_after s.written bytes)
out_by KeptAlive s = keep_alive ∷ []
out_by SignedOff s = sign_off ∷ []
out_by other s = []

abbrev pub out_in : List LinkAct → LinkState → List Carried
out_in [] s = []
out_in (act ∷ acts) s = out_by act s ++ out_in acts (after_act act s)

-- the texts among frames
abbrev pub texts_of : List Carried → List (List ℕ)
texts_of frames = filter_map (λ carried. text_of (Some carried)) frames

-- how often the line was given an Ack0 that it was owed
abbrev pub acknowledged_by : LinkAct → ℕ
acknowledged_by Acknowledged = 1
acknowledged_by other = 0

abbrev pub acknowledged_in : List LinkAct → ℕ
acknowledged_in [] = 0
acknowledged_in (act ∷ acts) = acknowledged_by act + acknowledged_in acts

-- The line writes nothing.
abbrev pub IsUnwritten : LinkAct → Type 0
IsUnwritten (Wrote bytes) = ⊥
IsUnwritten other = Unit {0}
