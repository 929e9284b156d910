-- One customer by itself: its entry in the table, its files, and its lines.
use Rattle.std.specs.Prelude.{◌≡◌, ℕ, Bool, List, [], ◌∷◌, map, replicate, slice_index_or, slice_set, Option, Some}
use Rattle.std.specs.Prelude.{None}
use Rattle.njh_table.specs.Entries.{CustomerEntry, LineEntry}
use Rattle.njh_table.specs.Marks.{entry_unmarked}
use Rattle.njh_table.specs.declared.Role.TheVariants as role
use Rattle.njh_spool.specs.CustomerSpool.{CustomerSpool, empty_spool}
use Rattle.njh_stream.specs.declared.receiver.Receiver.{Receiver}
use Rattle.njh_stream.specs.declared.receiver.Receiver.TheVariants as receiver
use Rattle.njh_stream.specs.Receiving.{Notice}
use Rattle.njh_stream.specs.declared.sender.Sender.{Sender}
use Rattle.njh_stream.specs.declared.sender.Sender.TheVariants as sender
use Rattle.njh_line.specs.declared.config.Config.{Config}
use Rattle.njh_line.specs.Laws.{is_up}
use Rattle.njh_line.specs.Lines.{LineState, fresh_line}

-- A line with its streams.
pub record CustomerLine : Type 0 where
  pub state : LineState  -- its session, and what waits to be sent
  pub streams : ℕ  -- of each kind
  pub receivers : List Receiver  -- SYSIN 1 to 4, SYSOUT 1 to 4
  pub notices : List (Option Notice)  -- on each of these, what the owner of the file that was refused last was told
  pub senders : List Sender
  pub served : ℕ  -- the stream last served

pub record Customer : Type 0 where
  pub entry : CustomerEntry
  pub spool : CustomerSpool
  pub lines : List CustomerLine

-- ---- one that was just opened

-- an empty password is none
abbrev pub password_in : List ℕ → Option (List ℕ)
password_in [] = None
password_in (b ∷ bytes) = Some (b ∷ bytes)

abbrev pub config_of : CustomerEntry → LineEntry → Config
config_of entry line = record {
  hub = entry.hub;
  node = line.node;
  role = line.role;
  block = line.block;
  password = password_in line.password;
}

-- a line that is down, none of whose streams is about a file
abbrev pub idle_line : Config → ℕ → CustomerLine
idle_line config streams = record {
  state = fresh_line config;
  streams = streams;
  receivers = replicate 8 receiver.Idle;
  notices = replicate 8 None;
  senders = replicate 8 sender.Idle;
  served = 7;
}

-- a customer of a hub that was just opened: no line is up, whatever the entry's marks are
abbrev pub fresh_customer : CustomerEntry → Customer
fresh_customer entry = record {
  entry = entry_unmarked entry;
  spool = empty_spool entry.quota entry.files;
  lines = map (λ line. idle_line (config_of entry line) line.streams) entry.lines;
}

-- a customer of this entry with these files and lines
abbrev pub customer_with : CustomerEntry → CustomerSpool → List CustomerLine → Customer
customer_with entry spool lines = record { entry = entry; spool = spool; lines = lines }

-- ---- its lines

-- a line in the place of one that isn't there
abbrev pub no_customer_line : CustomerLine
no_customer_line = record {
  state = fresh_line (record { hub = []; node = []; role = role.Answer; block = 0; password = None });
  streams = 0;
  receivers = [];
  notices = [];
  senders = [];
  served = 0;
}

abbrev pub line_at : ℕ → List CustomerLine → CustomerLine
line_at l lines = slice_index_or lines l no_customer_line

abbrev pub on_line : ℕ → (CustomerLine → CustomerLine) → List CustomerLine → List CustomerLine
on_line l f lines = slice_set lines l (f (line_at l lines))

abbrev pub with_line_state : LineState → CustomerLine → CustomerLine
with_line_state state x = record x { state = state }

abbrev pub in_state : (LineState → LineState) → CustomerLine → CustomerLine
in_state f x = with_line_state (f x.state) x

abbrev pub receiver_at : ℕ → CustomerLine → Receiver
receiver_at k x = slice_index_or x.receivers k receiver.Idle

abbrev pub with_receiver : ℕ → Receiver → CustomerLine → CustomerLine
with_receiver k r x = record x { receivers = slice_set x.receivers k r }

-- a notice stays until a file opens on its stream
abbrev pub notices_after : ℕ → Receiver → Option Notice → List (Option Notice) → List (Option Notice)
notices_after k r (Some n) notices = slice_set notices k (Some n)
notices_after k (receiver.Open n progress) None notices = slice_set notices k None
notices_after k receiver.Idle None notices = notices
notices_after k receiver.Draining None notices = notices

-- an arrival left this on a stream to the hub, and the owner of the file was told this
abbrev pub with_notice : ℕ → Receiver → Option Notice → CustomerLine → CustomerLine
with_notice k r notice x = record x { notices = notices_after k r notice x.notices }

abbrev pub sender_at : ℕ → CustomerLine → Sender
sender_at k x = slice_index_or x.senders k sender.Idle

abbrev pub with_sender : ℕ → Sender → CustomerLine → CustomerLine
with_sender k s x = record x { senders = slice_set x.senders k s }

-- ---- the marks of its lines

-- an entry with these marks, line by line
abbrev pub with_marks : List Bool → CustomerEntry → CustomerEntry
with_marks up entry = record entry { up = up }

-- The lines that are marked as up are those that are.
abbrev pub IsMarked : Customer → Type 0
IsMarked c = c.entry.up ≡ map (λ x. is_up x.state.session.phase) c.lines
