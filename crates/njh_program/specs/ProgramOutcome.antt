-- What the program did, and why it failed.
use Rattle.std.specs.Prelude.{◌≡◌, ◌⊎◌, ℕ, List, Option, Some, None, map, option_map, ⊤}
use Rattle.std.specs.Io.KnownBytes.{Appends, Keeps}
use Rattle.clap.specs.Words.{Text}
use Rattle.njh_arguments.specs.Arguments.{Asks}
use Rattle.njh_arguments.specs.declared.arguments.Request.{Request}
use Rattle.njh_arguments.specs.declared.arguments.Request.TheVariants.{Control, Copy, Files, Serve}
use Rattle.njh_arguments.specs.declared.arguments.Request.TheVariants as request
use Rattle.njh_arguments.specs.declared.arguments.Task.{Task}
use Rattle.njh_arguments.specs.declared.arguments.Task.TheVariants.{Encode}
use Rattle.njh_encode.specs.declared.fault.EncodeFault.{EncodeFault}
use Rattle.njh_listing.specs.Listed.{IsListed, IsListedInPart}
use Rattle.njh_listing.specs.Printed.{IsPrinted, IsPrintedInPart}
use Rattle.njh_program.specs.ShownText.{AreRefusedWords, IsTextBegun, IsTextShown}
use Rattle.njh_hub.specs.Parts.{entries_of}
use Rattle.njh_hub.specs.WholeHub.{Part, SameLines, part_at_open}
use Rattle.njh_replay.specs.Replayed.{HasTooLong, HasBadLine, MayEndRun}
use Rattle.njh_replay.specs.declared.fault.ReplayFault.TheVariants.{TooLong, Script, Device, Hub}
use Rattle.njh_service.specs.Serving.{AreServed, IsOpenedEmpty}
use Rattle.njh_service.specs.declared.fault.ServeFault.{ServeFault}
use Rattle.njh_service.specs.declared.fault.ServeFault.TheVariants as serve
use Rattle.njh_subcommands.specs.TableBytes.{AreGiven, AreRefused}
use Rattle.njh_subcommands.specs.Tasks.{ChecksScript, IsEncoded, ReplaysBy, TellsLong}
use Rattle.njh_subcommands.specs.Tasks as tasks
use Rattle.njh_subcommands.specs.declared.failure.Failure.{Failure}
use Rattle.njh_subcommands.specs.declared.failure.Failure.TheVariants.{Arguments, Found, Replay, Tables, Trace}
use Rattle.njh_subcommands.specs.declared.failure.Failure.TheVariants as failure
use Rattle.njh_table.specs.TableFile.{TableFile}
use Rattle.njh_trace.specs.declared.fault.TraceFault.TheVariants as trace

-- what is known of a hub that was opened from a spool file: each customer of these tables has the lines of its entry
abbrev pub HasLinesOf : TableFile → List Part → Type 0
HasLinesOf tables parts = SameLines (map part_at_open (entries_of tables)) parts

-- the lines of the tables that the bytes of a file gave were served for so many turns, by a hub that had no files at
-- first, or was opened from a spool file
abbrev pub AreServedOf : {Spool : Type 0} → (file : Text) (turns : Option ℕ) → Option Spool → Type 0
AreServedOf file turns None =
    (tables : TableFile) × AreGiven (Some file) tables × AreServed (IsOpenedEmpty tables) tables turns
AreServedOf file turns (Some spool) =
    (tables : TableFile) × AreGiven (Some file) tables × AreServed (HasLinesOf tables) tables turns

-- what a console answered was told: a text, of which no clause says more, since none says what a socket gives
abbrev pub IsTold : (old new : Option (List ℕ)) → Type 0
IsTold old new = (text : List ℕ) × Appends old new text

-- what a request asks for was done, of what a reader had left
abbrev pub IsDone : Request → (left old new : Option (List ℕ)) → Type 0
IsDone (request.Task task) left old new = tasks.IsDone task left old new
IsDone (Serve tables turns listen strict quiet spool console json) left old new =
    AreServedOf tables.now turns spool × Keeps old new
IsDone (Files spool customer file number raw) left old new =
    IsPrinted (option_map (λ s. s.now) customer) file raw old new
IsDone (Copy spool customer into is_new) left old new = IsListed (option_map (λ s. s.now) customer) old new
IsDone (Control console json command) left old new = IsTold old new

-- it was done in part
abbrev pub IsDoneInPart : Request → (left old new : Option (List ℕ)) → Type 0
IsDoneInPart (request.Task task) left old new = tasks.IsDoneInPart task left old new
IsDoneInPart (Serve tables turns listen strict quiet spool console json) left old new = Keeps old new
IsDoneInPart (Files spool customer file number raw) left old new =
    IsPrintedInPart (option_map (λ s. s.now) customer) file raw old new
IsDoneInPart (Copy spool customer into is_new) left old new = IsListedInPart (option_map (λ s. s.now) customer) old new
IsDoneInPart (Control console json command) left old new = IsTextBegun old new

-- What the arguments ask for was done: the script that a reader had left was replayed, lines were served, the trace or
-- the lines in words that a reader had left were told or encoded, or a table file or a script was checked and is right;
-- or the version or help was printed.
abbrev pub IsRunDone : (arguments : List Text) (left old new : Option (List ℕ)) → Type 0
IsRunDone arguments left old new =
    ((request : Request) × Asks arguments request × IsDone request left old new) ⊎ IsTextShown arguments old new

-- It was done in part.
abbrev pub IsBegunFor : (arguments : List Text) (left old new : Option (List ℕ)) → Type 0
IsBegunFor arguments left old new =
    ((request : Request) × Asks arguments request × IsDoneInPart request left old new) ⊎ IsTextBegun old new

-- what a check found is that a table file has a fault or that a script isn't right, and what is said of that was
-- written
abbrev pub FindsFault : Request → (old new : Option (List ℕ)) → Type 0
FindsFault (request.Task task) old new = tasks.FindsFault task old new
FindsFault (Serve tables turns listen strict quiet spool console json) old new = ⊥
FindsFault (Files spool customer file number raw) old new = ⊥
FindsFault (Copy spool customer into is_new) old new = ⊥
FindsFault (Control console json command) old new = ⊥

abbrev pub IsFound : (arguments : List Text) (old new : Option (List ℕ)) → Type 0
IsFound arguments old new = (request : Request) × Asks arguments request × FindsFault request old new

-- a line in words is the first bad one, and what those before it become was written
abbrev pub HasBadWords : Request → (fault : EncodeFault) (left old new : Option (List ℕ)) → Type 0
HasBadWords (request.Task task) fault left old new = tasks.HasBadWords task fault left old new
HasBadWords (Serve tables turns listen strict quiet spool console json) fault left old new = ⊥
HasBadWords (Files spool customer file number raw) fault left old new = ⊥
HasBadWords (Copy spool customer into is_new) fault left old new = ⊥
HasBadWords (Control console json command) fault left old new = ⊥

abbrev pub IsEncodedBefore : (arguments : List Text) (fault : EncodeFault) (left old new : Option (List ℕ)) → Type 0
IsEncodedBefore arguments fault left old new =
    Asks arguments (request.Task Encode) × IsEncoded (Some fault) left old new

-- the tables of a request are refused so
abbrev pub RefusesTables : Request → Failure → Type 0
RefusesTables (request.Task task) failure = tasks.RefusesTables task failure
RefusesTables (Serve tables turns listen strict quiet spool console json) failure = AreRefused (Some tables) failure
RefusesTables (Files spool customer file number raw) failure = ⊥
RefusesTables (Copy spool customer into is_new) failure = ⊥
RefusesTables (Control console json command) failure = ⊥

-- why no spool file is printed or copied, or not all of what was asked for
abbrev pub IsFilesEnd : Failure → Type 0
IsFilesEnd (failure.Files fault) = ⊤
IsFilesEnd failure = ⊥

-- why a command to a hub wasn't carried out, or not told to the end
abbrev pub IsControlEnd : Failure → Type 0
IsControlEnd (failure.Control fault) = ⊤
IsControlEnd failure.Device = ⊤
IsControlEnd failure = ⊥

-- why what a request asks for was not done, or not to the end
abbrev pub Fails : Request → (left : Option (List ℕ)) → Failure → Type 0
Fails (request.Task task) left failure = tasks.IsFailed task left failure
Fails (Serve tables turns listen strict quiet spool console json) left failure =
    AreRefused (Some tables) failure ⊎ IsFilesEnd failure
Fails (Files spool customer file number raw) left failure = IsFilesEnd failure
Fails (Copy spool customer into is_new) left failure = IsFilesEnd failure
Fails (Control console json command) left failure = IsControlEnd failure

-- a task is asked for, and this holds of it
abbrev pub AsksTask : (arguments : List Text) → (Task → Type 0) → Type 0
AsksTask arguments holds = (task : Task) × Asks arguments (request.Task task) × holds task

-- Why it failed: by the arguments, which are asked first, by the tables, or by the script or the trace; or a device
-- failed, or memory ran out. Of a line in words `IsEncodedBefore` says it, of what a check found `IsFound`.
abbrev pub IsFailed : (arguments : List Text) (left : Option (List ℕ)) → Failure → Type 0
IsFailed arguments left (Arguments error) = AreRefusedWords arguments error
IsFailed arguments left (Tables fault) = (request : Request) × Asks arguments request
    × RefusesTables request (Tables fault)
IsFailed arguments left (Replay TooLong) = AsksTask arguments
    (λ task. ReplaysBy task (λ tables. HasTooLong left) ⊎ ChecksScript task)
IsFailed arguments left (Replay (Script number)) = AsksTask arguments
    (λ task. ReplaysBy task (λ tables. HasBadLine tables left number))
IsFailed arguments left (Replay Device) = ⊤
IsFailed arguments left (Replay (Hub fault)) = MayEndRun fault
IsFailed arguments left (Trace trace.TooLong) = AsksTask arguments (λ task. TellsLong task left)
IsFailed arguments left (Trace trace.Device) = ⊤
IsFailed arguments left (Trace trace.Memory) = ⊤
IsFailed arguments left (failure.Encode end) = ⊤
IsFailed arguments left Found = ⊤
IsFailed arguments left (failure.Files fault) = ⊤
IsFailed arguments left (failure.Control fault) = ⊤
IsFailed arguments left failure.Device = ⊤
IsFailed arguments left failure.Memory = ⊤

-- why lines weren't served
abbrev pub failure_of : ServeFault → Failure
failure_of serve.Device = failure.Device
failure_of serve.Memory = failure.Memory
failure_of serve.Refused = failure.Device

-- a device failed, or memory ran out
abbrev pub IsOfDevices : Failure → Type 0
IsOfDevices why = (why ≡ failure.Device) ⊎ (why ≡ failure.Memory)
