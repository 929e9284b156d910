-- What holds of every command, whoever says it. That nothing in the spool but the whole files is touched, `spool_after`
-- says.
use Rattle.std.specs.Prelude.{◌≡◌, ℕ, true, List, [], map, filter, Some, not}
use Rattle.njh_ebcdic.specs.Names.{is_name}
use Rattle.njh_ebcdic.specs.Users.{User}
use Rattle.njh_header.specs.FileNames.{FileName}
use Rattle.njh_spool.specs.declared.State.TheVariants.{Ready, Held}
use Rattle.njh_spool.specs.CustomerSpool.{CustomerSpool, WholeFile}
use Rattle.njh_table.specs.Entries.{CustomerEntry, route_of}
use Rattle.njh_table.specs.declared.Route.TheVariants.{Line}
use Rattle.njh_stream.specs.WholeFiles.{HaveHeaders}
use Rattle.njh_command.specs.declared.command.Command.TheVariants.{Hold, Release, Cancel, Reroute}
use Rattle.njh_command.specs.Words.{command_of}
use Rattle.njh_command.specs.Commands.{CommandOutcome, changed_file, file_in_state, is_busy, is_of_name}
use Rattle.njh_command.specs.Commands.{message_outcome, with_new_destination}

-- What becomes of a customer's whole files by a message of a user: none moves, or the user's own of a name move in one
-- of four ways, and no other file does.
pub data FilesMove (entry : CustomerEntry) (who : User) (message : List ℕ) (files : List WholeFile)
    (done : CommandOutcome) : Type 0 where
  stay : done.files ≡ files → done.cancelled ≡ [] → FilesMove entry who message files done
  -- those that aren't being sent are Held
  held :
      (name : FileName) → command_of message ≡ Some (Hold name)
      → done.files ≡ map (changed_file (is_of_name who name) (file_in_state Held)) files → done.cancelled ≡ []
      → FilesMove entry who message files done
  -- those that aren't being sent are Ready
  released :
      (name : FileName) → command_of message ≡ Some (Release name)
      → done.files ≡ map (changed_file (is_of_name who name) (file_in_state Ready)) files → done.cancelled ≡ []
      → FilesMove entry who message files done
  -- those that aren't being sent go to a node that has a route on a line
  rerouted :
      (name : FileName) (node : List ℕ) (line : ℕ) → command_of message ≡ Some (Reroute name node)
      → route_of entry node ≡ Line line
      → done.files ≡ map (changed_file (is_of_name who name) (with_new_destination node)) files → done.cancelled ≡ []
      → FilesMove entry who message files done
  -- they are gone; the streams hear of those that were being sent
  cancelled :
      (name : FileName) → command_of message ≡ Some (Cancel name)
      → done.files ≡ filter (λ f. not (is_of_name who name f)) files
      → done.cancelled ≡ map (λ f. f.number) (filter (is_busy (is_of_name who name)) files)
      → FilesMove entry who message files done

-- Every message moves files only so.
abbrev pub CommandsMoveFilesSo : Type 0
CommandsMoveFilesSo =
    (entry : CustomerEntry) (who : User) (message : List ℕ) (s : CustomerSpool)
    → FilesMove entry who message s.whole (message_outcome entry who message s)

-- The node that files are rerouted to is a name.
abbrev pub ReroutesNameNodes : Type 0
ReroutesNameNodes =
    (message : List ℕ) (name : FileName) (node : List ℕ) → command_of message ≡ Some (Reroute name node)
    → is_name node ≡ true

-- No message leaves a whole file without headers that read.
abbrev pub CommandsKeepHeaders : Type 0
CommandsKeepHeaders =
    (entry : CustomerEntry) (who : User) (message : List ℕ) (s : CustomerSpool) → HaveHeaders s.whole
    → HaveHeaders (message_outcome entry who message s).files
