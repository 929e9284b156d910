-- Why the program ends, and the status that it ends with.
use Rattle.std.specs.Prelude.{◌≡◌, ◌≢◌, ◌⊎◌, ℕ, Result, Ok, Err}
use Rattle.njh_subcommands.specs.declared.failure.Failure.{Failure}
use Rattle.njh_subcommands.specs.declared.failure.Failure.TheVariants.{Arguments, Encode, Found, Replay, Tables, Trace}
use Rattle.njh_subcommands.specs.declared.failure.Failure.TheVariants as failure
use Rattle.njh_ctl.specs.declared.fault.CtlFault.TheVariants as ctl
use Rattle.njh_encode.specs.declared.fault.EncodeEnd.TheVariants as encode
use Rattle.njh_listing.specs.declared.fault.FilesFault.TheVariants as files
use Rattle.njh_replay.specs.declared.fault.ReplayFault.TheVariants.{TooLong, Script, Device, Hub}
use Rattle.njh_table.specs.declared.fault.TableFault.{TableFault}
use Rattle.njh_trace.specs.declared.fault.TraceFault.TheVariants as trace
use Rattle.njh_table.specs.declared.fault.TableFault.TheVariants.{Memory}

-- 1 if the tables are refused, 2 if there was no memory for them
abbrev pub table_status : TableFault → ℕ
table_status Memory = 2
table_status fault = 1

-- 1 if arguments, tables, the script, the trace or a line in words are refused, a check found a fault, a spool file has
-- no such file, several, or one that can't be put back, or a hub refuses a command or doesn't do it; 3 if something is
-- wrong with a hub; 2 if another thing fails
abbrev pub status_of : Failure → ℕ
status_of (Arguments error) = 1
status_of (Tables fault) = table_status fault
status_of (Replay TooLong) = 1
status_of (Replay (Script number)) = 1
status_of (Replay Device) = 2
status_of (Replay (Hub fault)) = 2
status_of (Trace trace.TooLong) = 1
status_of (Trace trace.Device) = 2
status_of (Trace trace.Memory) = 2
status_of (Encode (encode.BadLine fault)) = 1
status_of (Encode encode.Device) = 2
status_of (Encode encode.Memory) = 2
status_of Found = 1
status_of (failure.Files (files.NoFile name)) = 1
status_of (failure.Files (files.Several list)) = 1
status_of (failure.Files (files.Refused why)) = 1
status_of (failure.Files (files.Taken why)) = 1
status_of (failure.Files fault) = 2
status_of (failure.Control (ctl.Refused sentence)) = 1
status_of (failure.Control (ctl.NotDone sentence)) = 1
status_of (failure.Control ctl.BadName) = 1
status_of (failure.Control ctl.NoOrder) = 1
status_of (failure.Control ctl.NoLine) = 1
status_of (failure.Control ctl.NotALine) = 1
status_of (failure.Control ctl.TurnedDown) = 1
status_of (failure.Control ctl.Wrong) = 3
status_of (failure.Control fault) = 2
status_of failure.Device = 2
status_of failure.Memory = 2

-- What is refused before anything is written: all that has status 1 but a trace, of which the lines before a line that
-- is too long were told, a line in words, of which what the lines before it become was written, what a check found, and
-- a command, of which the answers before a refusal were told, and all if it wasn't done.
abbrev pub ComesFirst : Failure → Type 0
ComesFirst (Trace fault) = ⊥
ComesFirst (Encode end) = ⊥
ComesFirst Found = ⊥
ComesFirst (failure.Control fault) = ⊥
ComesFirst failure = status_of failure ≡ 1

-- the status to end with: 0 if nothing failed
abbrev pub status_after : {A : Type 0} → Result A Failure → ℕ
status_after (Ok x) = 0
status_after (Err failure) = status_of failure

-- an error becomes this failure, but out of memory if its kind says that
abbrev pub Becomes : {Kind : Type 0} → (kind memory : Kind) → Failure → Failure → Type 0
Becomes kind memory other why = ((kind ≡ memory) × (why ≡ failure.Memory)) ⊎ ((kind ≢ memory) × (why ≡ other))
