-- Transmissions from the hub (IBM SC23-0070): what a peer's answers do to them, what the end of a session does, and
-- which files a line's streams are for.
use Rattle.std.specs.Prelude.{ℕ, ◌+◌, Bool, true, false, List, [], ◌∷◌, map, slice_get, Option, Some, None, ◌==◌, cond}
use Rattle.std.specs.Prelude.{◌&&◌}
use Rattle.njh_ebcdic.specs.Users.{User}
use Rattle.njh_ebcdic.specs.Names.{is_name}
use Rattle.njh_record.specs.Stored.{Stored}
use Rattle.njh_spool.specs.declared.State.{State}
use Rattle.njh_spool.specs.declared.State.TheVariants.{Ready, Refused}
use Rattle.njh_header.specs.FileHeaders.{destination_of}
use Rattle.njh_table.specs.Entries.{CustomerEntry, route_of}
use Rattle.njh_table.specs.declared.Route.{Route}
use Rattle.njh_table.specs.declared.Route.TheVariants.{Here, Line, Unknown}
use Rattle.njh_spool.specs.CustomerSpool.{CustomerSpool, WholeFile, whole_numbered, with_state, without_whole}
use Rattle.njh_stream.specs.declared.sender.Sender.{Sender}
use Rattle.njh_stream.specs.declared.sender.Sender.TheVariants.{Idle, Requested, Sending, EofSent, Aborting}

-- A stream, and the customer's spool.
pub record SenderOutcome : Type 0 where
  pub sender : Sender
  pub spool : CustomerSpool

-- ---- the peer's answers

-- A0: the file may be sent
abbrev pub after_grant : Sender → Sender
after_grant (Requested n) = Sending n 0
after_grant x = x

-- B0: the file is refused
abbrev pub after_refusal : Sender → CustomerSpool → SenderOutcome
after_refusal (Requested n) s = record { sender = Idle; spool = with_state n Refused s }
after_refusal (Sending n place) s = record { sender = Aborting; spool = with_state n Refused s }
after_refusal (EofSent n) s = record { sender = Idle; spool = with_state n Refused s }
after_refusal x s = record { sender = x; spool = s }

-- C0: the peer has the file
abbrev pub after_completion : Sender → CustomerSpool → SenderOutcome
after_completion (EofSent n) s = record { sender = Idle; spool = without_whole n s }
after_completion x s = record { sender = x; spool = s }

-- ---- what else ends a transmission

-- its file was cancelled by a command
abbrev pub after_abort : Sender → Sender
after_abort (Requested n) = Aborting
after_abort (Sending n place) = Aborting
after_abort (EofSent n) = Idle
after_abort x = x

-- the file that a stream is about
abbrev pub file_in : Sender → Option ℕ
file_in Idle = None
file_in (Requested n) = Some n
file_in (Sending n place) = Some n
file_in (EofSent n) = Some n
file_in Aborting = None

-- the session ended: the file may go again
abbrev pub spool_after_session : Sender → CustomerSpool → CustomerSpool
spool_after_session x s = elim (file_in x) [ Some n ↦ with_state n Ready s | None ↦ s ]

-- of all streams of a line
abbrev pub all_ended : List Sender → CustomerSpool → CustomerSpool
all_ended [] s = s
all_ended (x ∷ xs) s = all_ended xs (spool_after_session x s)

-- ---- the next record

-- The next record, and the stream after it; none: the end of file is next.
pub record Next : Type 0 where
  pub stored : Option Stored
  pub sender : Sender

-- the record at a place of a whole file
abbrev pub record_at : ℕ → ℕ → CustomerSpool → Option Stored
record_at n place s = elim (whole_numbered n s) [ Some f ↦ slice_get f.records place | None ↦ None ]

abbrev pub next_at : ℕ → ℕ → Option Stored → Next
next_at n place (Some r) = record { stored = Some r; sender = Sending n (place + 1) }
next_at n place None = record { stored = None; sender = EofSent n }

-- nothing moves where nothing is being sent
abbrev pub next_of : Sender → CustomerSpool → Next
next_of (Sending n place) s = next_at n place (record_at n place s)
next_of x s = record { stored = None; sender = x }

-- ---- where files go

abbrev pub is_line : ℕ → Route → Bool
is_line l Here = false
is_line l (Line n) = n == l
is_line l Unknown = false

-- whether a node goes by a line; what is no name has no route
abbrev pub node_goes_by : CustomerEntry → ℕ → List ℕ → Bool
node_goes_by entry l node = is_name node && is_line l (route_of entry node)

abbrev pub destination_goes_by : CustomerEntry → ℕ → Option User → Bool
destination_goes_by entry l None = false
destination_goes_by entry l (Some d) = node_goes_by entry l d.node

-- whether a file's destination goes by a line
abbrev pub goes_by : CustomerEntry → ℕ → WholeFile → Bool
goes_by entry l f = destination_goes_by entry l (destination_of f.kind f.records)

abbrev pub is_refused : State → Bool
is_refused Refused = true
is_refused _ = false

abbrev pub may_go_again : CustomerEntry → ℕ → WholeFile → Bool
may_go_again entry l f = is_refused f.state && goes_by entry l f

abbrev pub ready : WholeFile → WholeFile
ready f = record f { state = Ready }

-- refused files that go by a line may go again
abbrev pub tried_again : CustomerEntry → ℕ → CustomerSpool → CustomerSpool
tried_again entry l s = record s { whole = map (λ f. cond (may_go_again entry l f) (ready f) f) s.whole }

-- whether a test holds of the file that is found
abbrev pub holds_of : (WholeFile → Bool) → Option WholeFile → Bool
holds_of p None = false
holds_of p (Some f) = p f
