-- What is seen of a hub while it runs: of a line, and of a whole file without its records.
use Rattle.std.specs.Prelude.{◌≡◌, ℕ, List, [], length, Option, Some, unwrap_or, ⊤}
use Rattle.njh_line.specs.declared.Phase.TheVariants.{Down}
use Rattle.njh_line.specs.declared.ending.SessionEnd.TheVariants as ends
use Rattle.njh_line.specs.Lines.{LineState}
use Rattle.njh_line.specs.declared.session.Session.{Session}
use Rattle.njh_table.specs.declared.Role.{Role}
use Rattle.njh_spool.specs.declared.file_headers.FileSummary.{FileSummary}
use Rattle.njh_spool.specs.CustomerSpool.{CustomerSpool, WholeFile, cost, partial_records, whole_numbered}
use Rattle.njh_stream.specs.SpoolFiles.{records_in}
use Rattle.njh_stream.specs.declared.receiver.Receiver.{Receiver}
use Rattle.njh_stream.specs.declared.receiver.Receiver.TheVariants.{Idle, Open, Draining}
use Rattle.njh_texts.specs.Texts.{file_text}
use Rattle.njh_table.specs.declared.LineId.{LineId}
use Rattle.njh_customer.specs.Customer.{CustomerLine, line_at}
use Rattle.njh_hub.specs.Files.{said_name, said_owner, said_destination}
use Rattle.njh_hub.specs.declared.file_summary.FileSummaryView.{FileSummaryView}
use Rattle.njh_hub.specs.declared.session_view.SessionView.{SessionView}
use Rattle.njh_hub.specs.WholeHub.{Part, part, HasLine}

-- a line of the hub
abbrev pub hub_line : LineId → List Part → CustomerLine
hub_line id parts = line_at id.number (part id.customer parts).customer.lines

-- what is shown of a session on a line of this role
abbrev pub session_view : Role → Session → SessionView
session_view role s = record {
  phase = s.phase;
  tries = s.tries;
  has_turn = s.has_turn;
  role = role;
  next_count = s.next_count;
  last_bcb = s.last_bcb;
  refusals = s.refusals;
  last_end = s.last_end;
  last_refusal = s.last_refusal;
}

-- what is shown of a line
abbrev pub line_view : LineState → SessionView
line_view line = session_view line.config.role line.session

-- A line of the hub is down, and its last session ended by its five tries.
pub record HasGivenUp (parts : List Part) (id : LineId) : Type 0 where
  pub there : HasLine parts id
  pub phase : (hub_line id parts).state.session.phase ≡ Down
  pub tries : (hub_line id parts).state.session.tries ≡ 5
  pub end : (hub_line id parts).state.session.last_end ≡ Some ends.Tries

-- A file that comes on a stream to the hub is partial: the records under its number are the partial file's.
abbrev pub IsPartialOn : CustomerSpool → Receiver → Type 0
IsPartialOn s Idle = ⊤
IsPartialOn s (Open n progress) = records_in n s ≡ partial_records n s
IsPartialOn s Draining = ⊤

-- the whole file of a number of customer c
abbrev pub whole_file_on : ℕ → ℕ → List Part → Option WholeFile
whole_file_on c n parts = whole_numbered n (part c parts).customer.spool

abbrev pub file_summary : WholeFile → FileSummaryView
file_summary f = record {
  name = said_name f.records;
  owner = said_owner f.records;
  destination = said_destination f.kind f.records;
  kind = f.kind;
  state = f.state;
  records = length f.records;
  blocks = cost f.records;
}

-- the same by what the spool knows of a file whose headers read, and of its blocks
abbrev pub view_of_summary : FileSummary → ℕ → FileSummaryView
view_of_summary s blocks = record {
  name = unwrap_or s.headers.name (record { node = []; number = 0 });
  owner = unwrap_or s.headers.owner (record { node = []; user = [] });
  destination = unwrap_or s.headers.destination (record { node = []; user = [] });
  kind = s.kind;
  state = s.state;
  records = s.records;
  blocks = blocks;
}

-- what NJH001 says of a file, behind its number
abbrev pub summary_line : FileSummaryView → List ℕ
summary_line f = file_text (Some f.name) (Some f.destination) f.kind f.records f.state
