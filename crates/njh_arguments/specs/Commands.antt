-- What words are to the console of a hub that runs, with the options beside them.
use Rattle.std.specs.Prelude.{◌&&◌, ◌||◌, Bool, false, List, [], ◌∷◌, codes, not, bytes_eq}
use Rattle.std.specs.Prelude.{if◌then◌else◌, is_some, unwrap_or, Option, Some, None, option_and_then}
use Rattle.std.specs.Option.{option_map, option_map_or}
use Rattle.clap.specs.Words.{Row, Text, all_of, first_of}
use Rattle.njh_arguments.specs.Choices.{ChoiceView, Given, OwnerView, choice_by, choice_view, owner_by, viewed_owner}
use Rattle.njh_arguments.specs.declared.console_command.Change.{Change}
use Rattle.njh_arguments.specs.declared.console_command.Change.TheVariants as change
use Rattle.njh_arguments.specs.declared.console_command.ConsoleCommand.{ConsoleCommand}
use Rattle.njh_arguments.specs.declared.console_command.ConsoleCommand.TheVariants as command

-- ---- a command, with its texts

pub data ChangeView : Type 0 where
  Held : ChangeView
  Released : ChangeView
  Cancelled : ChangeView
  Rerouted : Text → ChangeView

abbrev pub change_view : Change → ChangeView
change_view change.Hold = Held
change_view change.Release = Released
change_view change.Cancel = Cancelled
change_view (change.Reroute node) = Rerouted node.now

pub data CommandView : Type 0 where
  Status : Bool → CommandView
  Customers : CommandView
  Lines : Option Text → CommandView
  Messages : Text → CommandView
  Files : Option Text → ChoiceView → CommandView
  Changed : ChangeView → Text → Text → Option OwnerView → CommandView
  ChangedMany : ChangeView → Text → ChoiceView → Bool → CommandView
  Told : Text → Text → Text → Text → CommandView
  Outcome : Text → CommandView
  Stopped : Text → Bool → CommandView
  Started : Text → CommandView
  Shutdown : Bool → CommandView
  Reloaded : CommandView
  Compared : Text → CommandView

abbrev pub view_of : ConsoleCommand → CommandView
view_of (command.Status quiet) = Status quiet
view_of command.Customers = Customers
view_of (command.Lines name) = Lines (option_map (λ name. name.now) name)
view_of (command.Messages line) = Messages line.now
view_of (command.Files customer choice) = Files (option_map (λ name. name.now) customer) (choice_view choice)
view_of (command.Change change customer file owner) =
    Changed (change_view change) customer.now file.now (viewed_owner owner)
view_of (command.ChangeMany change customer choice dry_run) =
    ChangedMany (change_view change) customer.now (choice_view choice) dry_run
view_of (command.Tell customer node user text) = Told customer.now node.now user.now text.now
view_of (command.Outcome order) = Outcome order.now
view_of (command.Stop line when_idle) = Stopped line.now when_idle
view_of (command.Start line) = Started line.now
view_of (command.Shutdown when_idle) = Shutdown when_idle
view_of command.Reload = Reloaded
view_of (command.Diff file) = Compared file.now

-- ---- which options stand beside the words

abbrev pub has_filter : Given → Bool
has_filter given =
    is_some given.node || (is_some given.state || (is_some given.kind || is_some given.older))

abbrev pub has_choice : Given → Bool
has_choice given = is_some given.owner || has_filter given

abbrev pub has_flag : Given → Bool
has_flag given = given.when_idle || (given.dry_run || given.quiet)

abbrev pub is_plain : Given → Bool
is_plain given = not (has_choice given) && not (has_flag given)

abbrev pub is_asked : Given → Bool
is_asked given = not (has_choice given) && (not given.when_idle && not given.dry_run)

abbrev pub is_timed : Given → Bool
is_timed given = not (has_choice given) && (not given.dry_run && not given.quiet)

abbrev pub is_owned : Given → Bool
is_owned given = not (has_filter given) && not (has_flag given)

abbrev pub is_many : Given → Bool
is_many given = has_choice given && (not given.when_idle && not given.quiet)

-- ---- the commands

abbrev pub plain : CommandView → Given → Option CommandView
plain view given = if is_plain given then Some view else None

-- `status [--quiet]`
abbrev pub asked : Given → Option CommandView
asked given = if is_asked given then Some (Status given.quiet) else None

-- `files [CUSTOMER] [--owner NODE.USER] [--node N] [--state held] [--kind out] [--older 7d]`
abbrev pub listed : Option Text → Given → Option CommandView
listed customer given =
    if has_flag given then None else option_map (λ choice. Files customer choice) (choice_by given)

-- the change that a word is
abbrev pub change_of_word : Text → Option ChangeView
change_of_word word =
    if bytes_eq word (codes "hold") then Some Held
    else if bytes_eq word (codes "release") then Some Released
    else if bytes_eq word (codes "cancel") then Some Cancelled
    else None

-- `hold|release|cancel CUSTOMER FILE [--owner NODE.USER]`, `reroute CUSTOMER FILE NODE [--owner NODE.USER]`
abbrev pub changed : ChangeView → Text → Text → Given → Option CommandView
changed change customer file given =
    if is_owned given then option_map (λ owner. Changed change customer file owner) (owner_by given.owner) else None

-- `hold|release|cancel CUSTOMER`, `reroute CUSTOMER NODE`, with an option at least that chooses files, and `--dry-run`
abbrev pub changed_many : ChangeView → Text → Given → Option CommandView
changed_many change customer given =
    if is_many given then option_map (λ choice. ChangedMany change customer choice given.dry_run) (choice_by given)
    else None

-- `tell CUSTOMER NODE USER TEXT`
abbrev pub told : Text → Text → Text → Text → Text → Given → Option CommandView
told word customer node user text given =
    if bytes_eq word (codes "tell") then plain (Told customer node user text) given else None

-- `stop LINE [--when-idle]`
abbrev pub stopped : Text → Given → Option CommandView
stopped line given = if is_timed given then Some (Stopped line given.when_idle) else None

-- `shutdown [--when-idle]`
abbrev pub shut_down : Given → Option CommandView
shut_down given = if is_timed given then Some (Shutdown given.when_idle) else None

abbrev pub command_alone : Text → Given → Option CommandView
command_alone word given =
    if bytes_eq word (codes "status") then asked given
    else if bytes_eq word (codes "customers") then plain Customers given
    else if bytes_eq word (codes "lines") then plain (Lines None) given
    else if bytes_eq word (codes "files") then listed None given
    else if bytes_eq word (codes "shutdown") then shut_down given
    else if bytes_eq word (codes "reload") then plain Reloaded given
    else None

abbrev pub command_of_one : Text → Text → Given → Option CommandView
command_of_one word name given =
    if bytes_eq word (codes "lines") then plain (Lines (Some name)) given
    else if bytes_eq word (codes "messages") then plain (Messages name) given
    else if bytes_eq word (codes "files") then listed (Some name) given
    else if bytes_eq word (codes "stop") then stopped name given
    else if bytes_eq word (codes "start") then plain (Started name) given
    else if bytes_eq word (codes "order") then plain (Outcome name) given
    else if bytes_eq word (codes "diff") then plain (Compared name) given
    else option_and_then (λ change. changed_many change name given) (change_of_word word)

abbrev pub command_of_two : Text → Text → Text → Given → Option CommandView
command_of_two word customer name given =
    if bytes_eq word (codes "reroute") then changed_many (Rerouted name) customer given
    else option_and_then (λ change. changed change customer name given) (change_of_word word)

abbrev pub command_of_three : Text → Text → Text → Text → Given → Option CommandView
command_of_three word customer file node given =
    if bytes_eq word (codes "reroute") then changed (Rerouted node) customer file given else None

abbrev pub command_in : List Text → Given → Option CommandView
command_in (word ∷ []) given = command_alone word given
command_in (word ∷ name ∷ []) given = command_of_one word name given
command_in (word ∷ customer ∷ name ∷ []) given = command_of_two word customer name given
command_in (word ∷ customer ∷ file ∷ node ∷ []) given = command_of_three word customer file node given
command_in (word ∷ customer ∷ node ∷ user ∷ text ∷ []) given = told word customer node user text given
command_in words given = None

-- ---- in the rows of a parse

-- a flag is set
abbrev pub is_set_in : Text → List Row → Bool
is_set_in flag rows = option_map_or (λ text. bytes_eq text (codes "true")) (first_of flag rows) false

abbrev pub given_in : List Row → Given
given_in rows = record {
  owner = first_of (codes "owner") rows;
  node = first_of (codes "node") rows;
  state = first_of (codes "state") rows;
  kind = first_of (codes "kind") rows;
  older = first_of (codes "older") rows;
  when_idle = is_set_in (codes "when-idle") rows;
  dry_run = is_set_in (codes "dry-run") rows;
  quiet = is_set_in (codes "quiet") rows;
}

abbrev pub words_in : List Row → List Text
words_in rows = unwrap_or (all_of (codes "command") rows) []

-- The command that the rows of `ctl` are.
abbrev pub command_asked : List Row → Option CommandView
command_asked rows = command_in (words_in rows) (given_in rows)
