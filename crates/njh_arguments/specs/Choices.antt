-- Which files the options beside a command choose.
use Rattle.std.specs.Prelude.{ℕ, ◌+◌, ◌-◌, ◌*◌, ◌==◌, ◌&&◌, Bool, List, [], ◌∷◌, length, take, codes, cond, nat_lt}
use Rattle.std.specs.Prelude.{bytes_eq, if◌then◌else◌, Option, Some, None, option_and_then, slice_index}
use Rattle.std.specs.Char.{is_ascii_digit}
use Rattle.std.specs.List.{after_first, before_first, position_or_len}
use Rattle.std.specs.Option.{option_map}
use Rattle.clap.specs.Words.{Text}
use Rattle.njh_arguments.specs.declared.console_command.Choice.{Choice}
use Rattle.njh_arguments.specs.declared.console_command.FileKind.{FileKind}
use Rattle.njh_arguments.specs.declared.console_command.FileKind.TheVariants as kind
use Rattle.njh_arguments.specs.declared.console_command.FileState.{FileState}
use Rattle.njh_arguments.specs.declared.console_command.FileState.TheVariants.{Ready, Held, Refused, Sending}
use Rattle.njh_arguments.specs.declared.console_command.Owner.{Owner}
use Rattle.njh_arguments.specs.declared.console_words.CommandOptions.{CommandOptions}

-- ---- the options beside the words

pub record Given : Type 0 where
  pub owner : Option Text
  pub node : Option Text
  pub state : Option Text
  pub kind : Option Text
  pub older : Option Text
  pub when_idle : Bool
  pub dry_run : Bool
  pub quiet : Bool

abbrev pub given_of : CommandOptions → Given
given_of given = record {
  owner = option_map (λ text. text.now) given.owner;
  node = option_map (λ text. text.now) given.node;
  state = option_map (λ text. text.now) given.state;
  kind = option_map (λ text. text.now) given.kind;
  older = option_map (λ text. text.now) given.older;
  when_idle = given.when_idle;
  dry_run = given.dry_run;
  quiet = given.quiet;
}

-- ---- a choice, with its texts

-- a user at a node
pub record OwnerView : Type 0 where
  pub node : Text
  pub user : Text

abbrev pub owner_view : Owner → OwnerView
owner_view owner = record { node = owner.node.now; user = owner.user.now }

abbrev pub viewed_owner : Option Owner → Option OwnerView
viewed_owner owner = option_map owner_view owner

-- files of this owner, for this node, in this state, of this kind, that came so many seconds ago or longer
pub record ChoiceView : Type 0 where
  pub owner : Option OwnerView
  pub node : Option Text
  pub state : Option FileState
  pub kind : Option FileKind
  pub age : Option ℕ

abbrev pub choice_view : Choice → ChoiceView
choice_view choice = record {
  owner = viewed_owner choice.owner;
  node = option_map (λ node. node.now) choice.node;
  state = choice.state;
  kind = choice.kind;
  age = choice.age;
}

-- ---- its texts

-- `--owner LYON.ANNA`: the node stands before the first dot
abbrev pub owner_of_text : Text → Option OwnerView
owner_of_text text =
    if nat_lt (position_or_len (λ b. b == 46) text) (length text)
    then Some (record { node = before_first (λ b. b == 46) text; user = after_first (λ b. b == 46) text }) else None

abbrev pub owner_by : Option Text → Option (Option OwnerView)
owner_by None = Some None
owner_by (Some text) = option_map Some (owner_of_text text)

-- `--state held`
abbrev pub state_of_text : Text → Option FileState
state_of_text text =
    if bytes_eq text (codes "ready") then Some Ready
    else if bytes_eq text (codes "held") then Some Held
    else if bytes_eq text (codes "refused") then Some Refused
    else if bytes_eq text (codes "sending") then Some Sending
    else None

abbrev pub state_by : Option Text → Option (Option FileState)
state_by None = Some None
state_by (Some text) = option_map Some (state_of_text text)

-- `--kind out`
abbrev pub kind_of_text : Text → Option FileKind
kind_of_text text =
    if bytes_eq text (codes "in") then Some kind.In
    else if bytes_eq text (codes "out") then Some kind.Out
    else None

abbrev pub kind_by : Option Text → Option (Option FileKind)
kind_by None = Some None
kind_by (Some text) = option_map Some (kind_of_text text)

-- a number with one more digit, below a million
abbrev pub longer_number : ℕ → ℕ → Option ℕ
longer_number number digit =
    cond (nat_lt number 100000 && is_ascii_digit digit) (Some (10 * number + (digit - 48))) None

abbrev pub number_behind : Option ℕ → List ℕ → Option ℕ
number_behind number [] = number
number_behind number (digit ∷ digits) = number_behind (option_and_then (λ n. longer_number n digit) number) digits

abbrev pub number_of_digits : List ℕ → Option ℕ
number_of_digits [] = None
number_of_digits (digit ∷ digits) = number_behind (Some 0) (digit ∷ digits)

abbrev pub seconds_of_unit : ℕ → Option ℕ
seconds_of_unit unit =
    if unit == 115 then Some 1
    else if unit == 109 then Some 60
    else if unit == 104 then Some 3600
    else if unit == 100 then Some 86400
    else None

-- `--older 7d`: a number and a unit
abbrev pub age_of_text : Text → Option ℕ
age_of_text [] = None
age_of_text (b ∷ text) =
    option_and_then
    (λ number. option_map (λ seconds. number * seconds)
    (seconds_of_unit (slice_index (b ∷ text) (length (b ∷ text) - 1))))
    (number_of_digits (take (length (b ∷ text) - 1) (b ∷ text)))

abbrev pub age_by : Option Text → Option (Option ℕ)
age_by None = Some None
age_by (Some text) = option_map Some (age_of_text text)

-- ---- all

abbrev pub choice_of : Option Text → Option OwnerView → Option FileState → Option FileKind → Option ℕ → ChoiceView
choice_of node owner state kind age =
    record { owner = owner; node = node; state = state; kind = kind; age = age }

-- the files that the options choose; none where one of their texts is none
abbrev pub choice_by : Given → Option ChoiceView
choice_by given = option_and_then
    (λ owner. option_and_then (λ state. option_and_then
    (λ kind. option_map (λ age. choice_of given.node owner state kind age) (age_by given.older))
    (kind_by given.kind)) (state_by given.state)) (owner_by given.owner)
