-- What is told of a customer's whole files: all that are there from a place on, in their order of arrival.
use Rattle.std.specs.Prelude.{ℕ, ◌-◌, List, length, map, codes, slice_get, Option, Some, None, option_map}
use Rattle.std.specs.Prelude.{Result, Ok, Err}
use Rattle.serde_json.specs.Data.{Data, null, number, unsigned, string, array, object, member, no_members}
use Rattle.serde_json.specs.View.{items_of}
use Rattle.njh_ebcdic.specs.Reading.{name_of_field}
use Rattle.njh_ebcdic.specs.declared.name.NameFault.{NameFault}
use Rattle.njh_record.specs.declared.Kind.{Kind}
use Rattle.njh_record.specs.declared.Kind.TheVariants.{In, Out}
use Rattle.njh_spool.specs.declared.State.{State}
use Rattle.njh_spool.specs.declared.State.TheVariants.{Ready, Held, Refused, Sending}
use Rattle.njh_spool.specs.CustomerSpool.{CustomerSpool, WholeFile}
use Rattle.njh_table.specs.declared.Route.{Route}
use Rattle.njh_table.specs.declared.Route.TheVariants.{Here, Line, Unknown}
use Rattle.njh_table.specs.Entries.{CustomerEntry, route_of}
use Rattle.njh_table.specs.TableFile.{NamedCustomer, NamedLine}
use Rattle.njh_hub.specs.Files.{said_destination}
use Rattle.njh_hub.specs.Views.{file_summary}
use Rattle.njh_hub.specs.WholeHub.{Part}
use Rattle.njh_hub.specs.declared.file_summary.FileSummaryView.{FileSummaryView}
use Rattle.njh_arrivals.specs.Arrivals.{moment_in}
use Rattle.njh_answer.specs.Fields.{file_name_text, name_text, user_data}
use Rattle.njh_answer.specs.Troubles.{moment_data}
use Rattle.njh_answer.specs.Pages.{next_data, page_of, told}
use Rattle.njh_arrivals.specs.declared.arrivals.FileArrival.{FileArrival}
use Rattle.njh_answer.specs.declared.page.Page.{Page}

-- how many files an answer has at most
abbrev pub files_told : ℕ
files_told = 128

abbrev pub kind_text : Kind → List ℕ
kind_text In = codes "IN"
kind_text Out = codes "OUT"

abbrev pub state_text : State → List ℕ
state_text Ready = codes "READY"
state_text Held = codes "HELD"
state_text Refused = codes "REFUSED"
state_text Sending = codes "SENDING"

-- ---- the line by which it goes

-- the line of these that a route is, by its name
abbrev pub line_by_route : List NamedLine → Route → Option (List ℕ)
line_by_route lines Here = None
line_by_route lines (Line n) = option_map (λ l. l.name) (slice_get lines n)
line_by_route lines Unknown = None

-- where a node's files go now; what is no name has no route
abbrev pub route_where : CustomerEntry → Result (List ℕ) NameFault → Route
route_where entry (Ok node) = route_of entry node
route_where entry (Err fault) = Unknown

-- the line of these by which a node's files go now, where one leads there
abbrev pub line_to : List NamedLine → CustomerEntry → List ℕ → Option (List ℕ)
line_to lines entry node = line_by_route lines (route_where entry (name_of_field node))

abbrev pub text_data : Option (List ℕ) → Data
text_data None = null
text_data (Some text) = string text

-- ---- a file

-- a file, since when it is there if that was seen, and the line by which it goes
abbrev pub file_data : FileSummaryView → Option ℕ → Option (List ℕ) → Data
file_data f came line = object (
    member (codes "blocks") (number (unsigned f.blocks))
    (member (codes "came") (moment_data came)
    (member (codes "destination") (user_data f.destination.node f.destination.user)
    (member (codes "kind") (string (kind_text f.kind))
    (member (codes "line") (text_data line)
    (member (codes "name") (string (file_name_text f.name))
    (member (codes "owner") (user_data f.owner.node f.owner.user)
    (member (codes "records") (number (unsigned f.records))
    (member (codes "state") (string (state_text f.state)) no_members)))))))))

-- a file of the customer whose lines, entry and arrivals these are
abbrev pub file_entry : List NamedLine → CustomerEntry → List FileArrival → WholeFile → Data
file_entry lines entry seen f =
    file_data (file_summary f) (moment_in f.number seen) (line_to lines entry (said_destination f.kind f.records).node)

-- ---- all

-- How many files have left. A place is an index in the order of arrival, and as many more as have left: so no file is
-- ever at a place behind the one that it had when it wasn't told yet.
abbrev pub files_left : CustomerSpool → ℕ
files_left s = s.arrived - length s.whole

abbrev pub files_page : ℕ → CustomerSpool → Page
files_page from s = page_of (from - files_left s) files_told (length s.whole)

-- the files of an answer
abbrev pub told_from : ℕ → CustomerSpool → List WholeFile
told_from from s = told (files_page from s) s.whole

-- the files of an answer, of the customer whose part of the hub and whose arrivals these are
abbrev pub files_told_from : List NamedLine → Part → List FileArrival → ℕ → List Data
files_told_from lines p seen from = map (file_entry lines p.customer.entry seen) (told_from from p.customer.spool)

-- {"customer":"ACME","files":[..],"next":228}
abbrev pub files_data : NamedCustomer → Part → List FileArrival → ℕ → Data
files_data named p seen from = let s = p.customer.spool in object (
    member (codes "customer") (string (name_text named.name))
    (member (codes "files") (array (items_of (files_told_from named.lines p seen from)))
    (member (codes "next") (next_data (files_left s) (files_page from s).end (length s.whole)) no_members)))
