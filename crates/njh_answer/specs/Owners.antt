-- In whose name a command is carried out.
use Rattle.std.specs.Prelude.{ℕ, ◌==◌, ◌&&◌, Bool, List, map, filter, fold, cond, bytes_eq, Option, Some, None}
use Rattle.std.specs.Prelude.{Result, Ok, Err, IsTrue}
use Rattle.njh_ebcdic.specs.Users.{User}
use Rattle.njh_header.specs.FileNames.{FileName}
use Rattle.njh_spool.specs.CustomerSpool.{WholeFile}
use Rattle.njh_command.specs.Words.{command_of}
use Rattle.njh_command.specs.declared.command.Command.{Command}
use Rattle.njh_command.specs.declared.command.Command.TheVariants as commands
use Rattle.njh_hub.specs.Files.{said_name, said_owner}
use Rattle.njh_request.specs.declared.refusal.RequestRefusal.{RequestRefusal}
use Rattle.njh_request.specs.declared.refusal.RequestRefusal.TheVariants as refusal

abbrev pub is_same_user : User → User → Bool
is_same_user user other = bytes_eq user.node other.node && bytes_eq user.user other.user

abbrev pub is_file_called : FileName → FileName → Bool
is_file_called name other = bytes_eq name.node other.node && (name.number == other.number)

-- the owner of files and of one more
abbrev pub owner_by : Result User RequestRefusal → User → Result User RequestRefusal
owner_by (Ok first) next = cond (is_same_user first next) (Ok first) (Err refusal.SeveralOwners)
owner_by (Err (refusal.NoFile name)) next = Ok next
owner_by (Err other) next = Err refusal.SeveralOwners

-- the customer's files of a name
abbrev pub files_called : FileName → List WholeFile → List WholeFile
files_called name files = filter (λ f. is_file_called name (said_name f.records)) files

abbrev pub IsOwnedBy : User → WholeFile → Type 0
IsOwnedBy owner f = IsTrue (is_same_user owner (said_owner f.records))

-- their owner, if it is one
abbrev pub owner_of_files : FileName → List WholeFile → Result User RequestRefusal
owner_of_files name files =
    fold owner_by (Err (refusal.NoFile name)) (map (λ f. said_owner f.records) (files_called name files))

abbrev pub file_of : Command → Option FileName
file_of commands.List = None
file_of (commands.Hold name) = Some name
file_of (commands.Release name) = Some name
file_of (commands.Cancel name) = Some name
file_of (commands.Reroute name node) = Some name

abbrev pub owner_where : Option FileName → List WholeFile → Result User RequestRefusal
owner_where None files = Err refusal.NoOwner
owner_where (Some name) files = owner_of_files name files

-- the user who is given, or else the owner of the files that the command names
abbrev pub owner_of_command : Option User → Command → List WholeFile → Result User RequestRefusal
owner_of_command (Some owner) command files = Ok owner
owner_of_command None command files = owner_where (file_of command) files

abbrev pub owner_if : Option User → Option Command → List WholeFile → Result User RequestRefusal
owner_if owner None files = Err refusal.NotACommand
owner_if owner (Some command) files = owner_of_command owner command files

abbrev pub owner_for : Option User → List ℕ → List WholeFile → Result User RequestRefusal
owner_for owner text files = owner_if owner (command_of text) files
