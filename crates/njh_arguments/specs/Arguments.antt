-- The arguments of the command line.
use Rattle.std.specs.Prelude.{◌≡◌, ◌↔◌, ◌⊎◌, ℕ, pos, List, [], ◌∷◌, codes, Bool, true, false, option_map}
use Rattle.std.specs.Prelude.{Option, Some, None, IsSomeAnd, IsTrue, ⊤, is_some, bytes_eq, if◌then◌else◌}
use Rattle.std.specs.Net.Grammar.{IsIpText}
use Rattle.std.specs.declared.net.ip_addr.IpAddr.{IpAddr}
use Rattle.std.specs.Str.Parse.{IsNumeral, digits_value, without_leading_plus}
use Rattle.clap.specs.declared.builder.value_parser.ValueParser.TheVariants.{Signed}
use Rattle.clap.specs.Words.{App, HasKind, Row, Rule, Text, fault_of, first_of, kind_of, new_app, new_rule}
use Rattle.clap.specs.Words.{subcommand_of, with_rule, with_subcommand}
use Rattle.clap.specs.declared.builder.ArgAction.TheVariants.{Append, Set, SetTrue}
use Rattle.clap.specs.declared.error.Error.{Error}
use Rattle.clap.specs.declared.error.kind.ErrorKind.TheVariants.{MissingRequiredArgument, MissingSubcommand}
use Rattle.clap.specs.declared.error.kind.ErrorKind.TheVariants.{ArgumentConflict, InvalidSubcommand, ValueValidation}
use Rattle.njh_arguments.specs.Commands.{command_asked, view_of}
use Rattle.njh_arguments.specs.declared.arguments.Request.{Request}
use Rattle.njh_arguments.specs.declared.arguments.Request.TheVariants.{Control, Copy, Files, Serve}
use Rattle.njh_arguments.specs.declared.arguments.Request.TheVariants as request
use Rattle.njh_arguments.specs.declared.arguments.Task.{Task}
use Rattle.njh_arguments.specs.declared.arguments.Task.TheVariants.{CheckScript, CheckTables, Decode, Encode, Replay}
use Rattle.njh_arguments.specs.declared.serve_options.Unasked.{Unasked}
use Rattle.njh_arguments.specs.declared.serve_options.Unasked.TheVariants.{Missing, NoAddress, NoCommand, NoFormat}
use Rattle.njh_arguments.specs.declared.serve_options.Unasked.TheVariants.{Nothing, Unclear}

-- a text is this number's digits, before which a plus may stand
abbrev pub Spells : Text → ℕ → Type 0
Spells text n = (digits_value 10 (without_leading_plus text) ≡ n) × IsNumeral 10 (without_leading_plus text)

-- the option `--tables F`
abbrev pub tables_rule : Rule
tables_rule = record (new_rule (codes "tables")) { long = Some (codes "tables"); value_names = 1; action = Some Set }

-- a flag
abbrev pub flag_rule : Text → Rule
flag_rule name = record (new_rule name) { long = Some name; action = Some SetTrue }

-- `replay`, and its options
abbrev pub replay_app : App
replay_app = with_rule (with_rule (new_app (codes "replay")) tables_rule) (flag_rule (codes "decode"))

-- the options of `serve`: a table file, which it must have, a number of turns, an address, which is this machine's own
-- if none is given, and the flags `--strict` and `--quiet`
abbrev pub wanted_tables_rule : Rule
wanted_tables_rule = record tables_rule { required = true }

abbrev pub turns_rule : Rule
turns_rule = record (new_rule (codes "turns")) {
  long = Some (codes "turns");
  value_names = 1;
  action = Some Set;
  parser = Some (Signed (pos 1) (pos 1000000));
}

abbrev pub listen_rule : Rule
listen_rule = record (new_rule (codes "listen")) {
  long = Some (codes "listen");
  value_names = 1;
  action = Some Set;
  defaults = codes "127.0.0.1" ∷ [];
}

abbrev pub bounded_serve_app : App
bounded_serve_app = with_rule (with_rule (new_app (codes "serve")) wanted_tables_rule) turns_rule

abbrev pub addressed_app : App
addressed_app = with_rule (with_rule bounded_serve_app listen_rule) (flag_rule (codes "strict"))

abbrev pub listening_app : App
listening_app = with_rule addressed_app (flag_rule (codes "quiet"))

-- the option `--spool FILE`
abbrev pub spool_rule : Rule
spool_rule = record (new_rule (codes "spool")) { long = Some (codes "spool"); value_names = 1; action = Some Set }

-- the option `--console PATH`
abbrev pub console_rule : Rule
console_rule = record (new_rule (codes "console")) { long = Some (codes "console"); value_names = 1; action = Some Set }

-- the option `--log FORMAT`
abbrev pub log_rule : Rule
log_rule = record (new_rule (codes "log")) {
  long = Some (codes "log");
  value_names = 1;
  action = Some Set;
  defaults = codes "text" ∷ [];
}

abbrev pub keeping_app : App
keeping_app = with_rule listening_app spool_rule

abbrev pub serve_app : App
serve_app = with_rule (with_rule keeping_app console_rule) log_rule

-- `decode`, and its option
abbrev pub decode_app : App
decode_app = with_rule (new_app (codes "decode")) (flag_rule (codes "hex"))

-- `encode`, which has no option
abbrev pub encode_app : App
encode_app = new_app (codes "encode")

-- `check`, and its options: a table file, and a script
abbrev pub script_rule : Rule
script_rule = record (new_rule (codes "script")) {
  long = Some (codes "script");
  value_names = 1;
  action = Some Set;
}

abbrev pub check_app : App
check_app = with_rule (with_rule (new_app (codes "check")) tables_rule) script_rule

-- `files`, and its options: a spool file, which it must have, a customer, a file's name and number, and the flag
-- `--raw`
abbrev pub wanted_spool_rule : Rule
wanted_spool_rule = record spool_rule { required = true }

abbrev pub customer_rule : Rule
customer_rule = record (new_rule (codes "customer")) {
  long = Some (codes "customer");
  value_names = 1;
  action = Some Set;
}

abbrev pub export_rule : Rule
export_rule = record (new_rule (codes "export")) { long = Some (codes "export"); value_names = 1; action = Some Set }

abbrev pub number_rule : Rule
number_rule = record (new_rule (codes "number")) {
  long = Some (codes "number");
  value_names = 1;
  action = Some Set;
  parser = Some (Signed (pos 1) (pos 1000000));
}

abbrev pub listing_app : App
listing_app = with_rule (with_rule (new_app (codes "files")) wanted_spool_rule) customer_rule

abbrev pub exporting_app : App
exporting_app = with_rule (with_rule listing_app export_rule) number_rule

abbrev pub printing_app : App
printing_app = with_rule exporting_app (flag_rule (codes "raw"))

-- and the spool files that whole files are copied into: one that is there, or a new one
abbrev pub into_rule : Rule
into_rule = record (new_rule (codes "into")) { long = Some (codes "into"); value_names = 1; action = Some Set }

abbrev pub compact_rule : Rule
compact_rule = record (new_rule (codes "compact")) { long = Some (codes "compact"); value_names = 1; action = Some Set }

abbrev pub files_app : App
files_app = with_rule (with_rule printing_app into_rule) compact_rule

-- `ctl`, and its options: a console, the flag `--json`, and what stands beside a command
abbrev pub owner_rule : Rule
owner_rule = record (new_rule (codes "owner")) { long = Some (codes "owner"); value_names = 1; action = Some Set }

abbrev pub node_rule : Rule
node_rule = record (new_rule (codes "node")) { long = Some (codes "node"); value_names = 1; action = Some Set }

abbrev pub state_rule : Rule
state_rule = record (new_rule (codes "state")) { long = Some (codes "state"); value_names = 1; action = Some Set }

abbrev pub kind_rule : Rule
kind_rule = record (new_rule (codes "kind")) { long = Some (codes "kind"); value_names = 1; action = Some Set }

abbrev pub older_rule : Rule
older_rule = record (new_rule (codes "older")) { long = Some (codes "older"); value_names = 1; action = Some Set }

-- the words of a command
abbrev pub command_rule : Rule
command_rule = record (new_rule (codes "command")) { value_names = 1; action = Some Append; required = true }

abbrev pub connecting_app : App
connecting_app = with_rule (with_rule (new_app (codes "ctl")) console_rule) (flag_rule (codes "json"))

abbrev pub owning_app : App
owning_app = with_rule connecting_app owner_rule

abbrev pub filtering_app : App
filtering_app = with_rule (with_rule owning_app node_rule) state_rule

abbrev pub choosing_app : App
choosing_app = with_rule (with_rule filtering_app kind_rule) older_rule

abbrev pub flagged_app : App
flagged_app = with_rule (with_rule choosing_app (flag_rule (codes "dry-run"))) (flag_rule (codes "quiet"))

abbrev pub ctl_app : App
ctl_app = with_rule (with_rule flagged_app (flag_rule (codes "when-idle"))) command_rule

-- a program with a version, whose first word is a subcommand
abbrev pub bare_app : App
bare_app = let a = new_app (codes "njehub") in record a {
  top =
      record a.top { has_version = true; subcommand_required = true; disable_help_subcommand = true };
}

-- the program, as clap's definitions take it
abbrev pub replaying_app : App
replaying_app = with_subcommand bare_app replay_app.top

abbrev pub serving_app : App
serving_app = with_subcommand replaying_app serve_app.top

abbrev pub decoding_app : App
decoding_app = with_subcommand serving_app decode_app.top

abbrev pub encoding_app : App
encoding_app = with_subcommand decoding_app encode_app.top

abbrev pub checking_app : App
checking_app = with_subcommand encoding_app check_app.top

abbrev pub filing_app : App
filing_app = with_subcommand checking_app files_app.top

abbrev pub program_app : App
program_app = with_subcommand filing_app ctl_app.top

-- the number that an option's text spells, if there is one: of turns, or of a file
abbrev pub SpellsNumber : Option Text → Option ℕ → Type 0
SpellsNumber None number = number ≡ None
SpellsNumber (Some text) number = IsSomeAnd number (Spells text)

-- lines listen at the address that a text spells
abbrev pub ListensAt : Option Text → IpAddr → Type 0
ListensAt text address = IsSomeAnd text (λ t. IsIpText t address)

-- a log is in JSON, or in text
abbrev pub is_json_by : Option Text → Option Bool
is_json_by None = Some false
is_json_by (Some text) =
    if bytes_eq text (codes "text") then Some false else if bytes_eq text (codes "json") then Some true else None

-- a flag is set, or isn't
abbrev pub IsFlag : Text → List Row → Bool → Type 0
IsFlag flag rows set = IsTrue set ↔ (first_of flag rows ≡ Some (codes "true"))

-- an option of this name is given
abbrev pub is_given : Text → List Row → Bool
is_given name rows = is_some (first_of name rows)

-- no file is to be printed
abbrev pub PrintsNothing : List Row → Type 0
PrintsNothing rows = (is_given (codes "export") rows ≡ false) × (is_given (codes "number") rows ≡ false)
    × ¬ (first_of (codes "raw") rows ≡ Some (codes "true"))

-- Whole files are to be copied into the spool file at this path and nothing else is asked for: a customer's into one
-- that may be there, or all or a customer's into a new one.
abbrev pub IsTarget : List Row → (into : Text) → (is_new : Bool) → Type 0
IsTarget rows into false = PrintsNothing rows × (first_of (codes "into") rows ≡ Some into)
    × (is_given (codes "compact") rows ≡ false) × (is_given (codes "customer") rows ≡ true)
IsTarget rows into true = PrintsNothing rows × (first_of (codes "into") rows ≡ None)
    × (first_of (codes "compact") rows ≡ Some into)

-- What a subcommand and its rows ask for that needs no socket and no spool file: to replay by these tables, in words or
-- not; to say a trace in words, with hex or without; to encode lines in words; to check this table file, or a script by
-- these tables.
abbrev pub AsksForTask : Text × List Row → Task → Type 0
AsksForTask named (Replay tables in_words) = (named.0 ≡ codes "replay")
    × (first_of (codes "tables") named.1 ≡ option_map (λ s. s.now) tables)
    × IsFlag (codes "decode") named.1 in_words
AsksForTask named (Decode hex) = (named.0 ≡ codes "decode") × IsFlag (codes "hex") named.1 hex
AsksForTask named Encode = named.0 ≡ codes "encode"
AsksForTask named (CheckTables tables) = (named.0 ≡ codes "check")
    × (first_of (codes "tables") named.1 ≡ Some tables.now) × (first_of (codes "script") named.1 ≡ None)
AsksForTask named (CheckScript tables file) = (named.0 ≡ codes "check")
    × (first_of (codes "tables") named.1 ≡ option_map (λ s. s.now) tables)
    × (first_of (codes "script") named.1 ≡ Some file.now)

-- What they ask for: such a task; to serve the tables of this file, for so many turns, at that address, on all ports or
-- on those that can be listened on, with a log or without, and with a spool file or without; to print of a spool file
-- the files or a file's records; or to copy whole files of a spool file into another.
abbrev pub AsksFor : Text × List Row → Request → Type 0
AsksFor named (request.Task task) = AsksForTask named task
AsksFor named (Files spool customer file number raw) = (named.0 ≡ codes "files")
    × (first_of (codes "spool") named.1 ≡ Some spool.now)
    × (first_of (codes "customer") named.1 ≡ option_map (λ s. s.now) customer)
    × (first_of (codes "export") named.1 ≡ option_map (λ s. s.now) file)
    × SpellsNumber (first_of (codes "number") named.1) number
    × IsFlag (codes "raw") named.1 raw
    × (first_of (codes "into") named.1 ≡ None) × (first_of (codes "compact") named.1 ≡ None)
AsksFor named (Copy spool customer into is_new) = (named.0 ≡ codes "files")
    × (first_of (codes "spool") named.1 ≡ Some spool.now)
    × (first_of (codes "customer") named.1 ≡ option_map (λ s. s.now) customer)
    × IsTarget named.1 into.now is_new
AsksFor named (Serve tables turns listen strict quiet spool console json) = (named.0 ≡ codes "serve")
    × (first_of (codes "tables") named.1 ≡ Some tables.now)
    × SpellsNumber (first_of (codes "turns") named.1) turns
    × ListensAt (first_of (codes "listen") named.1) listen
    × IsFlag (codes "strict") named.1 strict
    × IsFlag (codes "quiet") named.1 quiet
    × (first_of (codes "spool") named.1 ≡ option_map (λ s. s.now) spool)
    × (first_of (codes "console") named.1 ≡ option_map (λ s. s.now) console)
    × (is_json_by (first_of (codes "log") named.1) ≡ Some json)
AsksFor named (Control console json command) = (named.0 ≡ codes "ctl")
    × (first_of (codes "console") named.1 ≡ option_map (λ s. s.now) console)
    × IsFlag (codes "json") named.1 json
    × (command_asked named.1 ≡ Some (view_of command))

-- what a parse asks for
abbrev pub AsksIn : Option (Text × List Row) → Request → Type 0
AsksIn named request = IsSomeAnd named (λ p. AsksFor p request)

-- what the arguments ask for
abbrev pub Asks : List Text → Request → Type 0
Asks arguments request = AsksIn (subcommand_of program_app arguments) request

-- the text of `--listen` is no address
abbrev pub NamesNoAddress : List Row → Type 0
NamesNoAddress rows = IsSomeAnd (first_of (codes "listen") rows) (λ text. (address : IpAddr) → ¬ IsIpText text address)

abbrev pub HasNoAddress : Option (Text × List Row) → Type 0
HasNoAddress named = IsSomeAnd named (λ p. NamesNoAddress p.1)

-- the text of `--log` is no format
abbrev pub NamesNoFormat : List Row → Type 0
NamesNoFormat rows = is_json_by (first_of (codes "log") rows) ≡ None

abbrev pub HasNoFormat : Option (Text × List Row) → Type 0
HasNoFormat named = IsSomeAnd named (λ p. NamesNoFormat p.1)

-- the words behind `ctl`, with the options beside them, are no command
abbrev pub NamesNoCommand : List Row → Type 0
NamesNoCommand rows = command_asked rows ≡ None

abbrev pub HasNoCommand : Option (Text × List Row) → Type 0
HasNoCommand named = IsSomeAnd named (λ p. NamesNoCommand p.1)

-- neither a table file nor a script is named
abbrev pub NamesNothing : List Row → Type 0
NamesNothing rows = (first_of (codes "tables") rows ≡ None) × (first_of (codes "script") rows ≡ None)

abbrev pub HasNothing : Option (Text × List Row) → Type 0
HasNothing named = IsSomeAnd named (λ p. NamesNothing p.1)

-- a spool file is named that files are copied into, and it isn't clear which, or other options stand beside it
abbrev pub IsUnclear : List Row → Type 0
IsUnclear rows = ¬ ((first_of (codes "into") rows ≡ None) × (first_of (codes "compact") rows ≡ None))
    × ((into : Text) → (is_new : Bool) → ¬ IsTarget rows into is_new)

abbrev pub AreUnclear : Option (Text × List Row) → Type 0
AreUnclear named = IsSomeAnd named (λ p. IsUnclear p.1)

-- why the rows of `serve`, `check`, `files` or `ctl` ask for nothing
abbrev pub IsUnasked : List Row → Unasked → Type 0
IsUnasked rows Missing = ⊤
IsUnasked rows Nothing = NamesNothing rows
IsUnasked rows (NoAddress text) = NamesNoAddress rows
IsUnasked rows (NoFormat text) = NamesNoFormat rows
IsUnasked rows (NoCommand word) = NamesNoCommand rows
IsUnasked rows Unclear = IsUnclear rows

-- and why a parse does
abbrev pub IsUnaskedBy : Option (Text × List Row) → Unasked → Type 0
IsUnaskedBy named Missing = ⊤
IsUnaskedBy named Nothing = HasNothing named
IsUnaskedBy named (NoAddress text) = HasNoAddress named
IsUnaskedBy named (NoFormat text) = HasNoFormat named
IsUnaskedBy named (NoCommand word) = HasNoCommand named
IsUnaskedBy named Unclear = AreUnclear named

-- the refusal that says so
abbrev pub IsRefusalOf : Unasked → Error → Type 0
IsRefusalOf Missing error = kind_of error ≡ MissingSubcommand
IsRefusalOf Nothing error = kind_of error ≡ MissingRequiredArgument
IsRefusalOf (NoAddress text) error = kind_of error ≡ ValueValidation
IsRefusalOf (NoFormat text) error = kind_of error ≡ ValueValidation
IsRefusalOf (NoCommand word) error = kind_of error ≡ InvalidSubcommand
IsRefusalOf Unclear error = kind_of error ≡ ArgumentConflict

-- The arguments are refused so: as clap's definitions say of this program, or since an address or a format is none,
-- nothing is named to be checked, it isn't clear what is to be copied, or words are no command.
abbrev pub AreRefusedBy : List Text → Error → Type 0
AreRefusedBy arguments error = HasKind (MissingSubcommand ∷ fault_of program_app arguments) error
    ⊎ ((kind_of error ≡ ValueValidation) × HasNoAddress (subcommand_of program_app arguments))
    ⊎ ((kind_of error ≡ MissingRequiredArgument) × HasNothing (subcommand_of program_app arguments))
    ⊎ ((kind_of error ≡ ArgumentConflict) × AreUnclear (subcommand_of program_app arguments))
    ⊎ ((kind_of error ≡ ValueValidation) × HasNoFormat (subcommand_of program_app arguments))
    ⊎ ((kind_of error ≡ InvalidSubcommand) × HasNoCommand (subcommand_of program_app arguments))
