-- What became of a task, and why it failed.
use Rattle.std.specs.Prelude.{◌≡◌, ◌⊎◌, ℕ, Bool, true, false, List, Option, Some, None, IfSome, ⊤}
use Rattle.std.specs.Io.KnownBytes.{Appends}
use Rattle.njh_table.specs.TableFile.{TableFile}
use Rattle.njh_hub.specs.declared.event.Event.{Event}
use Rattle.njh_encode.specs.Scripts.{IsEncodedInPart, IsEncodedTo}
use Rattle.njh_encode.specs.declared.fault.EncodeFault.{EncodeFault}
use Rattle.njh_io.specs.Written.{AppendsBeginning}
use Rattle.njh_replay.specs.Replayed.{HasTooLong, HasBadLine, HasScript, IsBegun, IsReplayed, MayEndRun, text_of_run}
use Rattle.njh_replay.specs.declared.fault.ReplayFault.TheVariants.{TooLong, Script, Device, Hub}
use Rattle.njh_trace.specs.Trace.{has_long_line, trace_told}
use Rattle.njh_trace.specs.declared.fault.TraceFault.TheVariants as trace
use Rattle.njh_arguments.specs.declared.arguments.Task.{Task}
use Rattle.njh_arguments.specs.declared.arguments.Task.TheVariants.{CheckScript, CheckTables, Decode, Encode}
use Rattle.njh_arguments.specs.declared.arguments.Task.TheVariants as task
use Rattle.njh_subcommands.specs.declared.failure.Failure.{Failure}
use Rattle.njh_subcommands.specs.declared.failure.Failure.TheVariants.{Arguments, Found, Replay, Tables, Trace}
use Rattle.njh_subcommands.specs.declared.failure.Failure.TheVariants as failure
use Rattle.njh_subcommands.specs.Checks.{FindsBad, FindsInPart, IsScriptChecked}
use Rattle.njh_subcommands.specs.TableBytes.{AreGiven, AreRefused}
use Rattle.njh_subcommands.specs.TableChecks.{IsTablesBegun, IsTablesTold}

-- A script was replayed, and what a trace of the text of its run says came after what had been written; or a beginning
-- of it did.
abbrev pub IsReplayedInWords : (tables : TableFile) (left old new : Option (List ℕ)) → Type 0
IsReplayedInWords tables left old new = (events : List Event) × HasScript tables left events
    × Appends old new (trace_told false (text_of_run tables events))

abbrev pub IsBegunInWords : (tables : TableFile) (left old new : Option (List ℕ)) → Type 0
IsBegunInWords tables left old new = (events : List Event) × HasScript tables left events
    × AppendsBeginning old new (trace_told false (text_of_run tables events))

-- a script was replayed, with its output in words or not
abbrev pub IsReplayedAs : (in_words : Bool) (tables : TableFile) (left old new : Option (List ℕ)) → Type 0
IsReplayedAs false tables left old new = IsReplayed tables left old new
IsReplayedAs true tables left old new = IsReplayedInWords tables left old new

abbrev pub IsBegunAs : (in_words : Bool) (tables : TableFile) (left old new : Option (List ℕ)) → Type 0
IsBegunAs false tables left old new = IsBegun tables left old new
IsBegunAs true tables left old new = IsBegunInWords tables left old new

-- The lines in words that a reader had left became lines of a script, none of them bad, and these came after what had
-- been written; or those before the first bad line did; or a beginning of them. What a file gave whose name is in
-- them is some text: no clause says which bytes a file holds.
abbrev pub IsEncoded : (bad : Option EncodeFault) (left old new : Option (List ℕ)) → Type 0
IsEncoded bad left old new = IfSome left (IsEncodedTo None bad old new)

abbrev pub IsBegunScript : (left old new : Option (List ℕ)) → Type 0
IsBegunScript left old new = IfSome left (IsEncodedInPart None old new)

-- what a task asks for was done, of what a reader had left
abbrev pub IsDone : Task → (left old new : Option (List ℕ)) → Type 0
IsDone (task.Replay tables in_words) left old new =
    (t : TableFile) × AreGiven tables t × IsReplayedAs in_words t left old new
IsDone (Decode hex) left old new = IfSome left (λ text. Appends old new (trace_told hex text))
IsDone Encode left old new = IsEncoded None left old new
IsDone (CheckTables tables) left old new = IsTablesTold true old new
IsDone (CheckScript tables file) left old new = IsScriptChecked tables true old new

-- it was done in part
abbrev pub IsDoneInPart : Task → (left old new : Option (List ℕ)) → Type 0
IsDoneInPart (task.Replay tables in_words) left old new =
    (t : TableFile) × AreGiven tables t × IsBegunAs in_words t left old new
IsDoneInPart (Decode hex) left old new = IfSome left (λ text. AppendsBeginning old new (trace_told hex text))
IsDoneInPart Encode left old new = IsBegunScript left old new
IsDoneInPart (CheckTables tables) left old new = IsTablesBegun old new
IsDoneInPart (CheckScript tables file) left old new = FindsInPart tables old new

-- what a check found is that a table file has a fault or that a script isn't right, and what is said of that was
-- written
abbrev pub FindsFault : Task → (old new : Option (List ℕ)) → Type 0
FindsFault (CheckTables tables) old new = IsTablesTold false old new
FindsFault (CheckScript tables file) old new = FindsBad tables old new
FindsFault (task.Replay tables in_words) old new = ⊥
FindsFault (Decode hex) old new = ⊥
FindsFault Encode old new = ⊥

-- a line in words is the first bad one, and what those before it become was written
abbrev pub HasBadWords : Task → (fault : EncodeFault) (left old new : Option (List ℕ)) → Type 0
HasBadWords task fault left old new = (task ≡ Encode) × IsEncoded (Some fault) left old new

-- the tables of a task are refused so
abbrev pub RefusesTables : Task → Failure → Type 0
RefusesTables (task.Replay tables in_words) failure = AreRefused tables failure
RefusesTables (CheckTables tables) failure = AreRefused (Some tables) failure
RefusesTables (CheckScript tables file) failure = AreRefused tables failure
RefusesTables (Decode hex) failure = ⊥
RefusesTables Encode failure = ⊥

-- a task to replay, by tables of which this holds
abbrev pub ReplaysBy : Task → (TableFile → Type 0) → Type 0
ReplaysBy (task.Replay tables in_words) holds = (t : TableFile) × AreGiven tables t × holds t
ReplaysBy (Decode hex) holds = ⊥
ReplaysBy Encode holds = ⊥
ReplaysBy (CheckTables tables) holds = ⊥
ReplaysBy (CheckScript tables file) holds = ⊥

-- the trace that a task is to tell has a line that is too long; of a script's run it is not said that none is
abbrev pub TellsLong : Task → (left : Option (List ℕ)) → Type 0
TellsLong (task.Replay tables in_words) left = in_words ≡ true
TellsLong (Decode hex) left = IfSome left (λ text. has_long_line text ≡ true)
TellsLong Encode left = ⊥
TellsLong (CheckTables tables) left = ⊥
TellsLong (CheckScript tables file) left = ⊥

-- why a replay by these tables failed
abbrev pub IsReplayRefused : (tables : TableFile) (left : Option (List ℕ)) → Failure → Type 0
IsReplayRefused tables left (Replay TooLong) = HasTooLong left
IsReplayRefused tables left (Replay (Script number)) = HasBadLine tables left number
IsReplayRefused tables left (Replay Device) = ⊤
IsReplayRefused tables left (Replay (Hub fault)) = MayEndRun fault
IsReplayRefused tables left (Trace fault) = ⊤
IsReplayRefused tables left (failure.Encode end) = ⊥
IsReplayRefused tables left Found = ⊥
IsReplayRefused tables left (failure.Files fault) = ⊥
IsReplayRefused tables left (failure.Control fault) = ⊥
IsReplayRefused tables left (Arguments error) = ⊥
IsReplayRefused tables left (Tables fault) = ⊥
IsReplayRefused tables left failure.Device = ⊤
IsReplayRefused tables left failure.Memory = ⊤

-- in words or not: without words no trace is told
abbrev pub IsReplayRefusedAs : (in_words : Bool) (tables : TableFile) (left : Option (List ℕ)) → Failure → Type 0
IsReplayRefusedAs true tables left failure = IsReplayRefused tables left failure
IsReplayRefusedAs false tables left (Trace fault) = ⊥
IsReplayRefusedAs false tables left failure = IsReplayRefused tables left failure

-- the script that a task is to check is longer than is read
abbrev pub ChecksScript : Task → Type 0
ChecksScript (CheckScript tables file) = ⊤
ChecksScript (CheckTables tables) = ⊥
ChecksScript (task.Replay tables in_words) = ⊥
ChecksScript (Decode hex) = ⊥
ChecksScript Encode = ⊥

-- Why a task failed: by the tables, or by the script or the trace; or a device failed, or memory ran out. Of a line in
-- words `HasBadWords` says it, of what a check found `FindsFault`.
abbrev pub IsFailed : Task → (left : Option (List ℕ)) → Failure → Type 0
IsFailed task left (Arguments error) = ⊥
IsFailed task left (Tables fault) = RefusesTables task (Tables fault)
IsFailed task left (Replay TooLong) = ReplaysBy task (λ tables. HasTooLong left) ⊎ ChecksScript task
IsFailed task left (Replay (Script number)) = ReplaysBy task (λ tables. HasBadLine tables left number)
IsFailed task left (Replay Device) = ⊤
IsFailed task left (Replay (Hub fault)) = MayEndRun fault
IsFailed task left (Trace trace.TooLong) = TellsLong task left
IsFailed task left (Trace trace.Device) = ⊤
IsFailed task left (Trace trace.Memory) = ⊤
IsFailed task left (failure.Encode end) = ⊤
IsFailed task left Found = ⊤
IsFailed task left (failure.Files fault) = ⊥
IsFailed task left (failure.Control fault) = ⊥
IsFailed task left failure.Device = ⊤
IsFailed task left failure.Memory = ⊤
