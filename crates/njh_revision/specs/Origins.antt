-- From where the peers of lines may connect once a table file was read again. It is no part of a customer's entry: what
-- the file says of a line holds at once, whatever else in it differs from what the hub was opened with.
use Rattle.std.specs.Prelude.{◌==◌, ◌&&◌, Bool, List, bytes_eq, if◌then◌else◌, slice_get, Option, Some, None}
use Rattle.std.specs.Prelude.{option_and_then, option_map}
use Rattle.njh_table.specs.declared.address_range.AddressRange.{AddressRange}
use Rattle.njh_table.specs.declared.LineId.{LineId}
use Rattle.njh_table.specs.TableFile.{NamedLine, NamedCustomer, TableFile, line_named}
use Rattle.njh_revision.specs.Revisions.{KnownTables}
use Rattle.njh_revision.specs.declared.outcome.SourceOutcome.{SourceOutcome}
use Rattle.njh_revision.specs.declared.outcome.SourceOutcome.TheVariants as outcomes

-- the tables that were read at a look at their source, whether they were taken or not
abbrev pub read_in : {F : Type 0} → KnownTables → SourceOutcome F → Option TableFile
read_in known (outcomes.Refused fault) = None
read_in known (outcomes.Differs difference tables) = Some tables
read_in known outcomes.Same = Some known.last
read_in known (outcomes.Taken before) = Some known.last

-- a line of tables with its customer, if there is one of this number
abbrev pub line_at : TableFile → LineId → Option (NamedCustomer × NamedLine)
line_at tables id = option_and_then (λ customer.
    option_map (λ line. (customer, line)) (slice_get customer.lines id.number)) (slice_get tables.customers id.customer)

-- a line of other tables is this one: its customer has the same name, and it listens on the same port
abbrev pub is_same : NamedCustomer × NamedLine → NamedCustomer × NamedLine → Bool
is_same own other = bytes_eq other.0.name own.0.name && other.1.port == own.1.port

-- From where the peer of a line of the opened tables may connect, by tables that were read: as these say of the line of
-- its name, if that is this line. Else they say nothing of it, and all stays as it was.
abbrev pub from_read : (opened read : TableFile) → LineId → Option (List AddressRange)
from_read opened read id = option_and_then (λ own. option_and_then (λ other.
    if is_same own other then Some other.1.from else None)
    (option_and_then (line_at read) (line_named read own.1.name))) (line_at opened id)

-- by those that were read at a look, if some were
abbrev pub from_by : {F : Type 0} → KnownTables → SourceOutcome F → LineId → Option (List AddressRange)
from_by known outcome id = option_and_then (λ read. from_read known.opened read id) (read_in known outcome)

abbrev pub from_known : {F : Type 0} → Option KnownTables → SourceOutcome F → LineId → Option (List AddressRange)
from_known known outcome id = option_and_then (λ tables. from_by tables outcome id) known
