-- How a link stands, and what bytes do to it that come, that the line writes, and that go out (NJE over TCP/IP).
use Rattle.std.specs.Prelude.{◌≡◌, ℕ, ◌||◌, Bool, true, false, IsTrue, List, [], ◌∷◌, ◌++◌, Option, Some, None, Ok, Err}
use Rattle.std.specs.Option.{option_map}
use Rattle.njh_bisync.specs.Frames.{Received}
use Rattle.njh_bisync.specs.Reading as line
use Rattle.njh_bisync.specs.ByteSteps as line_steps
use Rattle.njh_tcp.specs.Carried as tcp
use Rattle.njh_tcp.specs.Carried.{Carried}
use Rattle.njh_tcp.specs.Hearing.{Outcome}
use Rattle.njh_tcp.specs.Reading.{Rest, afresh, contact_over, fault_in}
use Rattle.njh_tcp.specs.ByteSteps.{outcomes_after, rest_after}
use Rattle.njh_tcp.specs.Written.{line_bytes, ttb_bytes}
use Rattle.njh_tcp.specs.declared.contact.Contact.{Contact}
use Rattle.njh_link.specs.Talks.{first_talk, talk_given, talk_acknowledged, let_out, breaks, talk_written}
use Rattle.njh_link.specs.declared.fault.LinkFault.{LinkFault}
use Rattle.njh_link.specs.declared.fault.LinkFault.TheVariants.{Refused, BadBlock}
use Rattle.njh_link.specs.declared.talk.Talk.{Talk}

pub record LinkState : Type 0 where
  -- what of the bytes that came matters for those that follow, and the bytes of the line that are still to be given
  pub coming : Rest
  pub giving : List ℕ
  -- what of the bytes that the line wrote matters, and the bytes of TTBs that are still to go out
  pub written : line.Rest
  pub waiting : List ℕ
  pub talk : Talk
  -- whether the line said NAK to a text
  pub broken : Bool

abbrev pub first_state : Contact → LinkState
first_state contact = record {
  coming = afresh contact;
  giving = [];
  written = line.Nothing;
  waiting = [];
  talk = first_talk;
  broken = false;
}

-- A frame came, and is to be given.
abbrev pub with_given : Carried → LinkState → LinkState
with_given carried s = record s { giving = s.giving ++ line_bytes carried; talk = talk_given carried s.talk }

-- of a refusal nothing is given
abbrev pub after_outcomes : List Outcome → LinkState → LinkState
after_outcomes [] s = s
after_outcomes (Ok carried ∷ outcomes) s = after_outcomes outcomes (with_given carried s)
after_outcomes (Err fault ∷ outcomes) s = after_outcomes outcomes s

-- Bytes came.
abbrev pub after_came : List ℕ → LinkState → LinkState
after_came bytes s = after_outcomes (outcomes_after s.coming bytes) (record s { coming = rest_after s.coming bytes })

abbrev pub bytes_out : Option Carried → List ℕ
bytes_out None = []
bytes_out (Some carried) = ttb_bytes carried

-- once the line wrote a text, which has a BCB, no contact is taken
abbrev pub coming_by : Option ℕ → Rest → Rest
coming_by None rest = rest
coming_by (Some bcb) rest = contact_over rest

-- The line wrote a frame, which goes out or doesn't.
abbrev pub with_written : Received → LinkState → LinkState
with_written frame s = record s {
  coming = coming_by (talk_written frame s.talk).bcb s.coming;
  waiting = s.waiting ++ bytes_out (let_out s.talk frame);
  talk = talk_written frame s.talk;
  broken = s.broken || breaks s.talk frame;
}

abbrev pub after_frames : List Received → LinkState → LinkState
after_frames [] s = s
after_frames (frame ∷ frames) s = after_frames frames (with_written frame s)

-- The line wrote bytes.
abbrev pub after_written : List ℕ → LinkState → LinkState
after_written bytes s =
    after_frames (line_steps.frames_after s.written bytes)
    (record s { written = line_steps.rest_after s.written bytes })

-- The line is owed an Ack0 that can be given: no byte waits to go out, and none of a frame is to be given.
pub record IsDue (s : LinkState) : Type 0 where
  pub owed : IsTrue s.talk.owed
  pub given : s.giving ≡ []
  pub gone : s.waiting ≡ []

-- It is to be given.
abbrev pub with_ack0 : LinkState → LinkState
with_ack0 s = record s { giving = s.giving ++ line_bytes tcp.Ack0; talk = talk_acknowledged s.talk }

-- what the hub says that the line didn't write: a keep-alive; a sign-off, to a peer whose sign-on doesn't fit
abbrev pub keep_alive : Carried
keep_alive = tcp.Ack0

abbrev pub sign_off : Carried
sign_off = tcp.Text (0xA0 ∷ 0x8F ∷ 0xCF ∷ 0xF0 ∷ 0xC2 ∷ 0x00 ∷ [])

abbrev pub with_said : Carried → LinkState → LinkState
with_said carried s = record s { waiting = s.waiting ++ ttb_bytes carried }

-- why the link can't go on, if it can't
abbrev pub link_fault : LinkState → Option LinkFault
link_fault s = elim (s.broken) [ true ↦ Some BadBlock | false ↦ option_map Refused (fault_in s.coming) ]
