-- What the program did, from what became of a request that the arguments ask for.
use Rattle.std.proofs.Common.{◌⊎◌, ℕ, List, Option, Result, Ok, Err, OnErr, OnOk, IfErr, inl, inr}
use Rattle.std.proofs.Common.{refl, subst, sym}
use Rattle.std.specs.Io.KnownBytes.{Keeps}
use Rattle.clap.specs.Words.{Text}
use Rattle.njh_arguments.specs.Arguments.{Asks}
use Rattle.njh_arguments.specs.declared.arguments.Request.{Request}
use Rattle.njh_arguments.specs.declared.arguments.Request.TheVariants.{Control, Copy, Files, Serve}
use Rattle.njh_arguments.specs.declared.arguments.Request.TheVariants as request
use Rattle.njh_arguments.specs.declared.arguments.Task.{Task}
use Rattle.njh_encode.specs.declared.fault.EncodeFault.{EncodeFault}
use Rattle.njh_replay.specs.declared.fault.ReplayFault.TheVariants.{TooLong, Script, Device, Hub}
use Rattle.njh_subcommands.specs.Tasks as tasks
use Rattle.njh_subcommands.specs.declared.failure.Failure.{Failure}
use Rattle.njh_subcommands.specs.declared.failure.Failure.TheVariants.{Arguments, Encode, Found, Replay, Tables, Trace}
use Rattle.njh_subcommands.specs.declared.failure.Failure.TheVariants as failure
use Rattle.njh_trace.specs.declared.fault.TraceFault.TheVariants as trace
use Rattle.njh_program.specs.ProgramOutcome.{Fails, HasBadWords, IsBegunFor, IsDone, IsDoneInPart, IsEncodedBefore}
use Rattle.njh_program.specs.ProgramOutcome.{IsControlEnd, IsFailed, IsFilesEnd, IsRunDone}

-- a spool file's end is in each case one of the program's
files_failed : (arguments : List Text) (left : Option (List ℕ)) (why : Failure) → IsFilesEnd why
    → IsFailed arguments left why
files_failed arguments left (failure.Files fault) ended = tt
files_failed arguments left (failure.Control fault) ended = absurd ended
files_failed arguments left (Arguments error) ended = absurd ended
files_failed arguments left (Tables fault) ended = absurd ended
files_failed arguments left (Replay fault) ended = absurd ended
files_failed arguments left (Trace fault) ended = absurd ended
files_failed arguments left (Encode end) ended = absurd ended
files_failed arguments left Found ended = absurd ended
files_failed arguments left failure.Device ended = absurd ended
files_failed arguments left failure.Memory ended = absurd ended

-- so is a command's
control_failed : (arguments : List Text) (left : Option (List ℕ)) (why : Failure) → IsControlEnd why
    → IsFailed arguments left why
control_failed arguments left (failure.Control fault) ended = tt
control_failed arguments left (failure.Files fault) ended = absurd ended
control_failed arguments left (Arguments error) ended = absurd ended
control_failed arguments left (Tables fault) ended = absurd ended
control_failed arguments left (Replay fault) ended = absurd ended
control_failed arguments left (Trace fault) ended = absurd ended
control_failed arguments left (Encode end) ended = absurd ended
control_failed arguments left Found ended = absurd ended
control_failed arguments left failure.Device ended = tt
control_failed arguments left failure.Memory ended = absurd ended

-- a task's
task_failed : (arguments : List Text) (left : Option (List ℕ)) (t : Task) (why : Failure)
    → Asks arguments (request.Task t)
    → tasks.IsFailed t left why → IsFailed arguments left why
task_failed arguments left t (Arguments error) asks ended = absurd ended
task_failed arguments left t (Tables fault) asks ended = (request.Task t, asks, ended)
task_failed arguments left t (Replay TooLong) asks ended = (t, asks, ended)
task_failed arguments left t (Replay (Script number)) asks ended = (t, asks, ended)
task_failed arguments left t (Replay Device) asks ended = tt
task_failed arguments left t (Replay (Hub fault)) asks ended = ended
task_failed arguments left t (Trace trace.TooLong) asks ended = (t, asks, ended)
task_failed arguments left t (Trace trace.Device) asks ended = tt
task_failed arguments left t (Trace trace.Memory) asks ended = tt
task_failed arguments left t (Encode end) asks ended = tt
task_failed arguments left t Found asks ended = tt
task_failed arguments left t (failure.Files fault) asks ended = absurd ended
task_failed arguments left t (failure.Control fault) asks ended = absurd ended
task_failed arguments left t failure.Device asks ended = tt
task_failed arguments left t failure.Memory asks ended = tt

-- why a request failed, as the program says it of the arguments
failed_so : (arguments : List Text) (left : Option (List ℕ)) (asked : Request) (why : Failure) → Asks arguments asked
    → Fails asked left why → IsFailed arguments left why
failed_so arguments left (request.Task t) why asks ended = task_failed arguments left t why asks ended
failed_so arguments left (Files spool customer file number raw) why asks ended = files_failed arguments left why ended
failed_so arguments left (Copy spool customer into is_new) why asks ended = files_failed arguments left why ended
failed_so arguments left (Control console json command) why asks ended = control_failed arguments left why ended
failed_so arguments left (Serve tables turns listen strict quiet spool console json) why asks (inr ended) =
    files_failed arguments left why ended
failed_so arguments left (Serve tables turns listen strict quiet spool console json) why asks (inl (inl (inl is))) =
    let P : Failure → Type 0 = λ f. IsFailed arguments left f in subst P (sym is) tt
failed_so arguments left (Serve tables turns listen strict quiet spool console json) why asks (inl (inl (inr (inl is)))) =
    let P : Failure → Type 0 = λ f. IsFailed arguments left f in subst P (sym is) tt
failed_so arguments left (Serve tables turns listen strict quiet spool console json) why asks (inl (inl (inr (inr is)))) =
    let P : Failure → Type 0 = λ f. IsFailed arguments left f in
    subst P (sym is) (Serve tables turns listen strict quiet spool console json, asks, inl (inr (inr refl)))
failed_so arguments left (Serve tables turns listen strict quiet spool console json) why asks (inl (inr refused)) =
    let P : Failure → Type 0 = λ f. IsFailed arguments left f in
    subst P (sym refused.2)
    (Serve tables turns listen strict quiet spool console json, asks, inr (refused.0, refused.1, refl, refused.3))

pub failed_by : {T : Type 0} (arguments : List Text) (left : Option (List ℕ)) (asked : Request) (r : Result T Failure)
    → Asks arguments asked → IfErr r (Fails asked left) → IfErr r (IsFailed arguments left)
failed_by arguments left asked (Ok x) asks ended = tt
failed_by arguments left asked (Err why) asks ended = failed_so arguments left asked why asks ended

pub done_by : {T E : Type 0} (arguments : List Text) (left old new : Option (List ℕ)) (asked : Request) (r : Result T E)
    → Asks arguments asked → OnOk r (IsDone asked left old new) → OnOk r (IsRunDone arguments left old new)
done_by arguments left old new asked (Ok x) asks done = inl (asked, asks, done)
done_by arguments left old new asked (Err e) asks done = tt

pub begun_by : {T E : Type 0} (arguments : List Text) (left old new : Option (List ℕ)) (asked : Request)
    (r : Result T E)
    → Asks arguments asked → OnErr r (Keeps old new ⊎ IsDoneInPart asked left old new)
    → OnErr r (Keeps old new ⊎ IsBegunFor arguments left old new)
begun_by arguments left old new asked (Ok x) asks begun = tt
begun_by arguments left old new asked (Err e) asks (inl kept) = inl kept
begun_by arguments left old new asked (Err e) asks (inr begun) = inr (inl (asked, asks, begun))

pub bad_by : (arguments : List Text) (fault : EncodeFault) (left old new : Option (List ℕ)) (asked : Request)
    → Asks arguments asked → HasBadWords asked fault left old new → IsEncodedBefore arguments fault left old new
bad_by arguments fault left old new (request.Task t) asks bad =
    let P : Task → Type 0 = λ t. Asks arguments (request.Task t) in (subst P bad.0 asks, bad.1)
bad_by arguments fault left old new (Serve tables turns listen strict quiet spool console json) asks bad = absurd bad
bad_by arguments fault left old new (Files spool customer file number raw) asks bad = absurd bad
bad_by arguments fault left old new (Copy spool customer into is_new) asks bad = absurd bad
bad_by arguments fault left old new (Control console json command) asks bad = absurd bad
