-- What goes out of what a line writes, and when the line is owed an Ack0 (NJE over TCP/IP): TCP promises that a text
-- comes, so nobody says so.
use Rattle.std.specs.Prelude.{ℕ, ◌+◌, ◌-◌, ◌==◌, if◌then◌else◌, Bool, true, false, [], ◌∷◌, min, nat_lt, slice_get}
use Rattle.std.specs.Prelude.{Option, Some, None}
use Rattle.njh_bisync.specs.Frames as line
use Rattle.njh_bisync.specs.Frames.{Received}
use Rattle.njh_tcp.specs.Carried as tcp
use Rattle.njh_tcp.specs.Carried.{Carried}
use Rattle.njh_link.specs.declared.talk.Talk.{Talk}

-- Nothing was said yet.
abbrev pub first_talk : Talk
first_talk = record { enquired = false; unanswered = 0; called = false; bcb = None; owed = false }

-- The line is given a frame. A text stands in the place of an Ack0 that it is owed, since it answers that text.
abbrev pub talk_given : Carried → Talk → Talk
talk_given (tcp.Text text) talk =
    record talk { unanswered = min (talk.unanswered + 1) 18446744073709551615; owed = false }
talk_given tcp.Enquiry talk = record talk { enquired = true }
talk_given tcp.Ack0 talk = talk

-- It is given the Ack0 that it is owed.
abbrev pub talk_acknowledged : Talk → Talk
talk_acknowledged talk = record talk { owed = false }

-- whether this is the BCB of the text that the line wrote last
abbrev pub is_bcb : Option ℕ → ℕ → Bool
is_bcb None bcb = false
is_bcb (Some last) bcb = last == bcb

-- What goes out of a frame that the line writes: a text, but for the one that was sent before; the first call; an ACK0
-- that answers a call. All else is dropped.
abbrev pub let_out : Talk → Received → Option Carried
let_out talk (line.Text []) = None
let_out talk (line.Text (bcb ∷ more)) = if is_bcb talk.bcb bcb then None else Some (tcp.Text (bcb ∷ more))
let_out talk line.Enquiry = if talk.called then None else Some tcp.Enquiry
let_out talk line.Ack0 = if talk.enquired then Some tcp.Ack0 else None
let_out talk line.Nak = None
let_out talk line.Eot = None
let_out talk line.Spoiled = None

-- A NAK that answers a text says that it doesn't read, and that can't be mended.
abbrev pub breaks : Talk → Received → Bool
breaks talk line.Nak = nat_lt 0 talk.unanswered
breaks talk line.Enquiry = false
breaks talk line.Ack0 = false
breaks talk line.Eot = false
breaks talk (line.Text text) = false
breaks talk line.Spoiled = false

-- A frame that the line writes answers the first that it was given and didn't answer, if there is one: in the bytes that
-- it writes its answers stand in their order, however late they are taken.
abbrev pub talk_answered : Talk → Talk
talk_answered talk = record talk { enquired = false; unanswered = talk.unanswered - 1 }

-- The line wrote a frame. A text owes it an Ack0, also one that is dropped, and so does an ACK0 that is dropped.
abbrev pub talk_written : Received → Talk → Talk
talk_written (line.Text text) talk = record (talk_answered talk) { bcb = slice_get text 0; owed = true }
talk_written line.Enquiry talk = record (talk_answered talk) { called = true }
talk_written line.Ack0 talk = record (talk_answered talk) { owed = if talk.enquired then talk.owed else true }
talk_written line.Nak talk = talk_answered talk
talk_written line.Eot talk = talk_answered talk
talk_written line.Spoiled talk = talk_answered talk
