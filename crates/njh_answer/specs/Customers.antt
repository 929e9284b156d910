-- What is told of customers: each of the tables', by its own part of the hub.
use Rattle.std.specs.Prelude.{ℕ, ◌+◌, ◌-◌, List, [], ◌∷◌, length, map, fold, codes, Option, None}
use Rattle.std.specs.List.{range_with_len}
use Rattle.serde_json.specs.Data.{Data, number, unsigned, string, array, object, member, no_members}
use Rattle.serde_json.specs.View.{items_of}
use Rattle.njh_spool.specs.declared.State.{State}
use Rattle.njh_spool.specs.declared.State.TheVariants.{Ready, Held, Refused, Sending}
use Rattle.njh_spool.specs.CustomerSpool.{WholeFile, used_blocks}
use Rattle.njh_table.specs.TableFile.{TableFile, NamedCustomer, customer_at}
use Rattle.njh_hub.specs.WholeHub.{Part, part}
use Rattle.njh_arrivals.specs.Arrivals.{Seen, moment_in, seen_of}
use Rattle.njh_arrivals.specs.declared.arrivals.FileArrival.{FileArrival}
use Rattle.njh_answer.specs.Counts.{turned_data, turned_of}
use Rattle.njh_answer.specs.Fields.{name_text}
use Rattle.njh_answer.specs.Pages.{next_data, page_of}
use Rattle.njh_answer.specs.Troubles.{moment_data}
use Rattle.njh_answer.specs.declared.page.Page.{Page}
use Rattle.njh_answer.specs.declared.customers.Tally.{Tally}
use Rattle.njh_answer.specs.declared.views.LineView.{LineView}
use Rattle.njh_answer.specs.declared.views.TurnedAway.{TurnedAway}

-- how many customers an answer has at most
abbrev pub customers_told : ℕ
customers_told = 16

abbrev pub no_tally : Tally
no_tally = record { ready = 0; held = 0; refused = 0; sending = 0 }

abbrev pub counted : Tally → ℕ
counted t = t.ready + t.held + t.refused + t.sending

-- one more file
abbrev pub tally_with : State → Tally → Tally
tally_with Ready t = record t { ready = t.ready + 1 }
tally_with Held t = record t { held = t.held + 1 }
tally_with Refused t = record t { refused = t.refused + 1 }
tally_with Sending t = record t { sending = t.sending + 1 }

-- the files in each state
abbrev pub tally_of : List WholeFile → Tally
tally_of files = fold (λ t f. tally_with f.state t) no_tally files

-- how many files are in each state
abbrev pub tally_data : Tally → Data
tally_data t = object (
    member (codes "held") (number (unsigned t.held))
    (member (codes "ready") (number (unsigned t.ready))
    (member (codes "refused") (number (unsigned t.refused))
    (member (codes "sending") (number (unsigned t.sending)) no_members))))

-- when the file came that is there longest, if that was seen
abbrev pub oldest_of : List WholeFile → List FileArrival → Option ℕ
oldest_of [] seen = None
oldest_of (f ∷ files) seen = moment_in f.number seen

-- a customer, of whose files these arrivals were seen, and of whose files so many were refused
abbrev pub customer_data : NamedCustomer → Part → List FileArrival → TurnedAway → Data
customer_data c p seen turned = object (
    member (codes "arrived") (number (unsigned p.customer.spool.arrived))
    (member (codes "blocks") (number (unsigned (used_blocks p.customer.spool)))
    (member (codes "files") (tally_data (tally_of p.customer.spool.whole))
    (member (codes "most_files") (number (unsigned c.files))
    (member (codes "name") (string (name_text c.name))
    (member (codes "oldest") (moment_data (oldest_of p.customer.spool.whole seen))
    (member (codes "quota") (number (unsigned p.customer.entry.quota))
    (member (codes "turned_away") (turned_data turned) no_members))))))))

-- a customer by its number: by its own part, its own arrivals, and its own lines
abbrev pub customer_told : TableFile → List Part → Seen → List LineView → ℕ → Data
customer_told tables parts seen lines c =
    customer_data (customer_at tables c) (part c parts) (seen_of c seen) (turned_of c lines)

-- the customers of a page
abbrev pub customers_told_from : TableFile → List Part → Seen → List LineView → Page → List Data
customers_told_from tables parts seen lines page =
    map (customer_told tables parts seen lines) (range_with_len page.first (page.end - page.first))

abbrev pub customers_page : TableFile → ℕ → Page
customers_page tables from = page_of from customers_told (length tables.customers)

-- {"customers":[..],"next":null}
abbrev pub customers_data : TableFile → List Part → Seen → List LineView → ℕ → Data
customers_data tables parts seen lines from = object (
    member (codes "customers")
    (array (items_of (customers_told_from tables parts seen lines (customers_page tables from))))
    (member (codes "next") (next_data 0 (customers_page tables from).end (length tables.customers)) no_members))
