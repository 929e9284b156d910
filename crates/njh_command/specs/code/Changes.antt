-- Which files a command is for, what HOLD, RELEASE and REROUTE make of a file, and what they say of it.
use Rattle.std.specs.Prelude.{ℕ, Bool, true, false, List, [], ◌∷◌}
use Rattle.njh_header.specs.FileNames.{FileName}
use Rattle.njh_spool.specs.declared.State.TheVariants.{Ready, Held}
use Rattle.njh_spool.specs.CustomerSpool.{CustomerSpool, WholeFile}
use Rattle.njh_command.specs.declared.changing.Change.{Change}
use Rattle.njh_command.specs.declared.changing.Change.TheVariants.{Hold, Release, Reroute}
use Rattle.njh_command.specs.declared.changing.FileClass.{FileClass}
use Rattle.njh_command.specs.declared.changing.FileClass.TheVariants.{Other, Busy, Idle}
use Rattle.njh_command.specs.declared.choice.Choice.{Choice}
use Rattle.njh_command.specs.Commands.{is_of_name, is_sending, with_new_destination, file_in_state}
use Rattle.njh_command.specs.Files.{without_at}
use Rattle.njh_texts.specs.Texts.{held_text, released_text, rerouted_to}

abbrev pub is_chosen : Choice → WholeFile → Bool
is_chosen choice = is_of_name choice.who choice.name

abbrev pub change_by : Change → WholeFile → WholeFile
change_by Hold f = file_in_state Held f
change_by Release f = file_in_state Ready f
change_by (Reroute node) f = with_new_destination node f

abbrev pub change_text : Change → FileName → ℕ → List ℕ
change_text Hold name n = held_text name n
change_text Release name n = released_text name n
change_text (Reroute node) name n = rerouted_to name node n

-- what a file is that passes or doesn't, and is being sent or isn't
abbrev pub file_class_by : Bool → Bool → FileClass
file_class_by false sending = Other
file_class_by true true = Busy
file_class_by true false = Idle

abbrev pub file_class_of : (WholeFile → Bool) → WholeFile → FileClass
file_class_of p f = file_class_by (p f) (is_sending f.state)

-- ---- CANCEL, file by file

abbrev pub without_where : Bool → ℕ → CustomerSpool → CustomerSpool
without_where true index s = without_at index s
without_where false index s = s

-- the number of a file, where it was being sent
abbrev pub numbers_where : Bool → WholeFile → List ℕ
numbers_where true f = f.number ∷ []
numbers_where false f = []
