-- A customer's whole files, how many have come so far, and its streams from the hub.
use Rattle.std.specs.Prelude.{ℕ, Bool, List, [], ◌∷◌, ◌++◌, map, filter, find, slice_get, slice_index_or, slice_set}
use Rattle.std.specs.Prelude.{Option, ◌==◌, cond, not}
use Rattle.std.specs.List.{list_any}
use Rattle.njh_record.specs.Stored.{Stored}
use Rattle.njh_spool.specs.CustomerSpool.{WholeFile, one_more}
use Rattle.njh_spool.specs.declared.State.{State}
use Rattle.njh_stream.specs.declared.sender.Sender.{Sender}
use Rattle.njh_stream.specs.declared.sender.Sender.TheVariants.{Idle}
use Rattle.njh_sched.specs.Carrying.{records_of}
use Rattle.njh_customer.specs.Customer.{Customer, CustomerLine}

pub record Outgoing : Type 0 where
  pub files : List WholeFile  -- in order of arrival
  pub arrived : ℕ  -- how many files have become whole so far
  pub streams : List (List Sender)  -- line by line

abbrev pub streams_from_hub : List CustomerLine → List (List Sender)
streams_from_hub lines = map (λ x. x.senders) lines

abbrev pub outgoing : Customer → Outgoing
outgoing c = record { files = c.spool.whole; arrived = c.spool.arrived; streams = streams_from_hub c.lines }

-- ---- a stream

abbrev pub streams_of : ℕ → Outgoing → List Sender
streams_of l x = slice_index_or x.streams l []

-- stream k of line l
abbrev pub sender_on : ℕ → ℕ → Outgoing → Sender
sender_on l k x = slice_index_or (streams_of l x) k Idle

abbrev pub with_streams : ℕ → List Sender → Outgoing → Outgoing
with_streams l senders x = record x { streams = slice_set x.streams l senders }

abbrev pub with_sender_on : ℕ → ℕ → Sender → Outgoing → Outgoing
with_sender_on l k s x = with_streams l (slice_set (streams_of l x) k s) x

-- all streams of all lines
abbrev pub each_stream : (Sender → Sender) → Outgoing → Outgoing
each_stream f x = record x { streams = map (λ senders. map f senders) x.streams }

-- ---- a file

abbrev pub with_files : List WholeFile → Outgoing → Outgoing
with_files files x = record x { files = files }

-- a file has come whole: it is the last one, and counts
abbrev pub with_arrival : WholeFile → Outgoing → Outgoing
with_arrival f x = record x { files = x.files ++ f ∷ []; arrived = one_more x.arrived }

-- whether there is a file of a number
abbrev pub has_file : ℕ → Outgoing → Bool
has_file n x = list_any (λ f. f.number == n) x.files

-- the records of the file of a number; none if there is no such file
abbrev pub records_numbered : ℕ → Outgoing → List Stored
records_numbered n x = records_of (find (λ f. f.number == n) x.files)

-- the record at a place of the file of a number
abbrev pub record_numbered : ℕ → ℕ → Outgoing → Option Stored
record_numbered n place x = slice_get (records_numbered n x) place

-- the files, with the one of a number in a state
abbrev pub with_file_state : ℕ → State → List WholeFile → List WholeFile
with_file_state n state files = map (λ f. cond (f.number == n) (record f { state = state }) f) files

-- the files without the one of a number
abbrev pub without_numbered : ℕ → List WholeFile → List WholeFile
without_numbered n files = filter (λ f. not (f.number == n)) files
