-- Which files of an answer are chosen.
use Rattle.std.specs.Prelude.{◌≡◌, ℕ, ◌-◌, ◌&&◌, ◌||◌, Bool, true, false, codes, bytes_eq, nat_le, is_some}
use Rattle.std.specs.Prelude.{Option, Some, None}
use Rattle.std.specs.Option.{option_map}
use Rattle.serde_json.specs.Data.{Data}
use Rattle.serde_json.specs.Find.{get}
use Rattle.njh_arguments.specs.Choices.{ChoiceView, OwnerView, choice_view, owner_view}
use Rattle.njh_arguments.specs.declared.console_command.FileKind.{FileKind}
use Rattle.njh_arguments.specs.declared.console_command.FileKind.TheVariants as kind
use Rattle.njh_arguments.specs.declared.console_command.FileState.{FileState}
use Rattle.njh_arguments.specs.declared.console_command.FileState.TheVariants as state
use Rattle.njh_ctl.specs.Answers.{count_in, string_in}
use Rattle.njh_ctl.specs.Questions.{Text}
use Rattle.njh_ctl.specs.declared.choosing.FileFacts.{FileFacts}
use Rattle.njh_ctl.specs.declared.choosing.Filter.{Filter}

-- ---- files

pub record FileView : Type 0 where
  pub name : Text
  pub owner : OwnerView
  pub node : Text
  pub state : Text
  pub kind : Text
  pub came : Option ℕ

abbrev pub file_view : FileFacts → FileView
file_view facts = record {
  name = facts.name.now;
  owner = owner_view facts.owner;
  node = facts.node.now;
  state = facts.state.now;
  kind = facts.kind.now;
  came = facts.came;
}

-- an answer's file is this one
pub record IsFile (d : Data) (f : FileView) : Type 0 where
  pub owner : Data
  pub destination : Data
  pub name_is : string_in (codes "name") d ≡ Some f.name
  pub owner_is : get (codes "owner") d ≡ Some owner
  pub owner_node_is : string_in (codes "node") owner ≡ Some f.owner.node
  pub owner_user_is : string_in (codes "user") owner ≡ Some f.owner.user
  pub destination_is : get (codes "destination") d ≡ Some destination
  pub node_is : string_in (codes "node") destination ≡ Some f.node
  pub state_is : string_in (codes "state") d ≡ Some f.state
  pub kind_is : string_in (codes "kind") d ≡ Some f.kind
  pub came_is : f.came ≡ count_in (codes "came") d

-- ---- which are chosen, and at which moment

pub record Wanted : Type 0 where
  pub choice : ChoiceView
  pub now : ℕ

abbrev pub wanted_by : Filter → Wanted
wanted_by filter = record { choice = choice_view filter.choice; now = filter.now }

abbrev pub state_text : FileState → Text
state_text state.Ready = codes "READY"
state_text state.Held = codes "HELD"
state_text state.Refused = codes "REFUSED"
state_text state.Sending = codes "SENDING"

abbrev pub kind_text : FileKind → Text
kind_text kind.In = codes "IN"
kind_text kind.Out = codes "OUT"

abbrev pub is_as_wanted : Text → Option Text → Bool
is_as_wanted text None = true
is_as_wanted text (Some wanted) = bytes_eq text wanted

abbrev pub is_owned_by : OwnerView → Option OwnerView → Bool
is_owned_by owner None = true
is_owned_by owner (Some wanted) = bytes_eq owner.node wanted.node && bytes_eq owner.user wanted.user

-- it is known to have come so many seconds ago, or longer
abbrev pub came_before : ℕ → ℕ → Option ℕ → Bool
came_before now age None = false
came_before now age (Some came) = nat_le age now && nat_le came (now - age)

abbrev pub is_as_old : ℕ → Option ℕ → Option ℕ → Bool
is_as_old now None came = true
is_as_old now (Some age) came = came_before now age came

-- a file is chosen if all applies that is asked for
abbrev pub is_chosen : Wanted → FileView → Bool
is_chosen wanted f =
    is_owned_by f.owner wanted.choice.owner && (is_as_wanted f.node wanted.choice.node
    && (is_as_wanted f.state (option_map state_text wanted.choice.state)
    && (is_as_wanted f.kind (option_map kind_text wanted.choice.kind)
    && is_as_old wanted.now wanted.choice.age f.came)))

-- something is asked for
abbrev pub has_choice : ChoiceView → Bool
has_choice choice =
    is_some choice.owner
    || (is_some choice.node || (is_some choice.state || (is_some choice.kind || is_some choice.age)))
