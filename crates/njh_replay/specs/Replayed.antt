-- What a replay answers.
use Rattle.std.specs.Prelude.{◌≡◌, ℕ, ◌<◌, ◌≤◌, ◌⊎◌, Bool, true, List, ◌∷◌, ◌++◌, length, map, Option, Some, IfSome}
use Rattle.std.specs.Prelude.{is_some, IsSomeAnd, Result, Ok, Err, ⊤}
use Rattle.std.specs.List.{list_any}
use Rattle.std.specs.Io.KnownBytes.{Appends, Keeps}
use Rattle.njh_table.specs.TableFile.{TableFile}
use Rattle.njh_hub.specs.Parts.{entries_of}
use Rattle.njh_hub.specs.OwnEvents.{order_of}
use Rattle.njh_hub.specs.RunStops.{IsRoutes}
use Rattle.njh_hub.specs.WholeHub.{Part, part, part_at_open, refusal_of, AreTaken, hub_run}
use Rattle.njh_hub.specs.declared.event.Event.{Event}
use Rattle.njh_hub.specs.declared.fault.Cause.{Cause}
use Rattle.njh_hub.specs.declared.fault.Cause.TheVariants as cause
use Rattle.njh_replay.specs.declared.fault.ReplayFault.{ReplayFault}
use Rattle.njh_replay.specs.declared.fault.ReplayFault.TheVariants.{TooLong, Script, Device, Hub}
use Rattle.njh_hub.specs.declared.fault.HubFault.{HubFault}
use Rattle.njh_hub.specs.declared.fault.HubFault.TheVariants.{UnknownLine, UnknownCustomer, Memory, NoRoute, BadRoutes}
use Rattle.njh_hub.specs.declared.fault.HubFault.TheVariants.{QueueFull}
use Rattle.njh_io.specs.declared.fault.ReadFault.{ReadFault}
use Rattle.njh_io.specs.declared.fault.ReadFault.TheVariants as read
use Rattle.njh_replay.specs.LineNames.{customers_of, names_of}
use Rattle.njh_io.specs.Written.{AppendsBeginning}
use Rattle.njh_replay.specs.Printed.{files_from, run_text}
use Rattle.njh_replay.specs.Script.{max_script_bytes, script_of}

-- what a reader has left, if that is known, is a good script of these events
abbrev pub HasScript : TableFile → Option (List ℕ) → List Event → Type 0
HasScript tables left events =
    IfSome left (λ text. (length text ≤ max_script_bytes) × (script_of tables text ≡ Ok events))

-- it is a script that is too long
abbrev pub HasTooLong : Option (List ℕ) → Type 0
HasTooLong left = IfSome left (λ text. max_script_bytes < length text)

-- it is not, but this line of it is the first bad one
abbrev pub HasBadLine : TableFile → Option (List ℕ) → ℕ → Type 0
HasBadLine tables left number =
    IfSome left (λ text. (length text ≤ max_script_bytes) × (script_of tables text ≡ Err number))

-- the text of what a hub sends and answers, and then holds, by these events: the frames with their lines' names, the
-- replies to orders, and the files of the customers of these names, from the first on
abbrev pub text_by : List (List (List ℕ)) → List Part → List Event → List (List ℕ) → List ℕ
text_by names parts events customers =
    run_text names customers parts events ++ files_from 0 customers (hub_run parts events).parts

-- of a hub of these tables that was just opened, with the files of all customers
abbrev pub text_of_run : TableFile → List Event → List ℕ
text_of_run tables events =
    text_by (names_of tables) (map part_at_open (entries_of tables)) events (customers_of tables)

-- A script was replayed: what a reader had left is a good script, and the text of the run over its events came after
-- what had been written; each if that is known.
abbrev pub IsReplayed : (tables : TableFile) (left old new : Option (List ℕ)) → Type 0
IsReplayed tables left old new = (events : List Event) × HasScript tables left events
    × Appends old new (text_of_run tables events)

-- A script was replayed in part: it is a good script, and a beginning of the text of the run over its events came after
-- what had been written; each if that is known.
abbrev pub IsBegun : (tables : TableFile) (left old new : Option (List ℕ)) → Type 0
IsBegun tables left old new = (events : List Event) × HasScript tables left events
    × AppendsBeginning old new (text_of_run tables events)

-- Events were taken up to one of which this holds, and what comes of those before it came after what had been written.
pub record IsSentUpTo (text : List Event → List ℕ) (events : List Event) (Stops : List Event → Event → Type 0)
    (old new : Option (List ℕ)) : Type 0 where
  pub before : List Event
  pub stop : Event
  pub behind : List Event
  pub are : events ≡ before ++ stop ∷ behind
  pub stops : Stops before stop
  pub sent : Appends old new (text before)

-- whether an event gives a customer an order
abbrev pub is_order : Event → Bool
is_order event = is_some (order_of event)

-- Behind these events one may find no memory after something was printed: it gives routes, or they have an order.
abbrev pub MayWantMemory : List Event → Event → Type 0
MayWantMemory before event = IsRoutes event ⊎ (list_any is_order before ≡ true)

-- Behind these events this one is an order that is refused by this fault, by what its customer is then.
abbrev pub IsRefusedBehind : HubFault → List Part → List Event → Event → Type 0
IsRefusedBehind why parts before event = IsSomeAnd (order_of event)
    (λ given. refusal_of given.1 (part given.0 (hub_run parts before).parts) ≡ Some why)

-- A script was replayed up to an event of which this holds: it is a good script, and what comes of the events before
-- that one came after what had been written; each if that is known.
abbrev pub IsReplayedTo : (tables : TableFile) (Stops : List Event → Event → Type 0) (left old new : Option (List ℕ))
    → Type 0
IsReplayedTo tables Stops left old new = (events : List Event) × HasScript tables left events
    × IsSentUpTo (run_text (names_of tables) (customers_of tables) (map part_at_open (entries_of tables))) events Stops
    old new

-- up to one that found no memory, and up to a message that is refused by this fault
abbrev pub IsReplayedToWant : (tables : TableFile) (left old new : Option (List ℕ)) → Type 0
IsReplayedToWant tables left old new = IsReplayedTo tables MayWantMemory left old new

abbrev pub IsReplayedToMessage : (why : HubFault) (tables : TableFile) (left old new : Option (List ℕ)) → Type 0
IsReplayedToMessage why tables left old new =
    IsReplayedTo tables (IsRefusedBehind why (map part_at_open (entries_of tables))) left old new

-- A script was replayed, and none of its orders was refused when it came.
abbrev pub WereTaken : (tables : TableFile) (left : Option (List ℕ)) → Type 0
WereTaken tables left = (events : List Event) × HasScript tables left events
    × AreTaken (map part_at_open (entries_of tables)) events

-- the faults by which a script is refused
abbrev pub IsRefusal : ReplayFault → Type 0
IsRefusal TooLong = ⊤
IsRefusal (Script number) = ⊤
IsRefusal Device = ⊥
IsRefusal (Hub fault) = ⊥

-- the faults by which the hub refuses a message for a customer that it has
abbrev pub IsOfMessage : HubFault → Type 0
IsOfMessage fault = (fault ≡ NoRoute) ⊎ (fault ≡ QueueFull)

-- the faults of the hub that may end a run over a good script
abbrev pub MayEndRun : HubFault → Type 0
MayEndRun fault = (fault ≡ Memory) ⊎ IsOfMessage fault

-- the faults that a replay may end with: of the hub's own, out of memory and those of a message
abbrev pub MayEnd : ReplayFault → Type 0
MayEnd TooLong = ⊤
MayEnd (Script number) = ⊤
MayEnd Device = ⊤
MayEnd (Hub fault) = MayEndRun fault

-- the fault of a replay whose run was stopped by this cause: a sink that took no frame couldn't print it
abbrev pub fault_after : Cause → ReplayFault
fault_after (cause.Hub fault) = Hub fault
fault_after cause.Sink = Device

-- the faults that stop the printing, by which no script is refused
abbrev pub MayStop : ReplayFault → Type 0
MayStop fault = MayEnd fault × (IsRefusal fault → ⊥)

-- what is said of a fault of the hub
abbrev pub IfHubs : ReplayFault → (HubFault → Type 0) → Type 0
IfHubs TooLong P = ⊤
IfHubs (Script number) P = ⊤
IfHubs Device P = ⊤
IfHubs (Hub fault) P = P fault

-- What a step that prints a text has done by its result: after what had been written came the whole text; or, if a
-- fault stopped the step, a beginning of it, and if it was the hub's as much as `Short` says.
abbrev pub Prints : {A : Type 0} → Result A ReplayFault → (old new : Option (List ℕ)) (text : List ℕ)
    (Short : HubFault → Option (List ℕ) → Option (List ℕ) → Type 0) → Type 0
Prints (Ok x) old new text Short = Appends old new text
Prints (Err fault) old new text Short =
    AppendsBeginning old new text × MayStop fault × IfHubs fault (λ why. Short why old new)

-- What is written if the hub's fault stopped a run: if memory ran out nothing, or what comes of the events before the
-- one that found none; if a message was refused what comes of those before it. There are no others.
abbrev pub IsRunShort : (names : List (List (List ℕ))) (customers : List (List ℕ)) (parts : List Part)
    (events : List Event) (why : HubFault) (old new : Option (List ℕ)) → Type 0
IsRunShort names customers parts events Memory old new =
    Keeps old new ⊎ IsSentUpTo (run_text names customers parts) events MayWantMemory old new
IsRunShort names customers parts events NoRoute old new =
    IsSentUpTo (run_text names customers parts) events (IsRefusedBehind NoRoute parts) old new
IsRunShort names customers parts events QueueFull old new =
    IsSentUpTo (run_text names customers parts) events (IsRefusedBehind QueueFull parts) old new
IsRunShort names customers parts events UnknownLine old new = ⊥
IsRunShort names customers parts events UnknownCustomer old new = ⊥
IsRunShort names customers parts events (BadRoutes cause) old new = ⊥

-- why a script isn't read is why it isn't replayed
abbrev pub fault_of_read : ReadFault → ReplayFault
fault_of_read read.TooLong = TooLong
fault_of_read read.Device = Device
fault_of_read read.Memory = Hub Memory
