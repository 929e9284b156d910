-- What each command makes of the whole files.
use Rattle.std.proofs.Common.{◌≡◌, ℕ, List, Option, Some, None, refl}
use Rattle.njh_ebcdic.specs.Users.{User}
use Rattle.njh_spool.specs.CustomerSpool.{CustomerSpool}
use Rattle.njh_table.specs.Entries.{CustomerEntry, route_of}
use Rattle.njh_table.specs.declared.Route.{Route}
use Rattle.njh_table.specs.declared.Route.TheVariants.{Here, Line, Unknown}
use Rattle.njh_command.specs.declared.command.Command.{Command}
use Rattle.njh_command.specs.declared.command.Command.TheVariants as commands
use Rattle.njh_command.specs.Words.{command_of}
use Rattle.njh_command.specs.Commands.{command_outcome, is_of_name, obeyed_where, rerouting}
use Rattle.njh_command.specs.CommandLaws.{FilesMove, CommandsMoveFilesSo, stay, held, released, rerouted, cancelled}

module _ (entry : CustomerEntry) (who : User) (message : List ℕ) (s : CustomerSpool) where
  -- the case of each command
  moved :
      (command : Command) → command_of message ≡ Some command
      → FilesMove entry who message s.whole (command_outcome entry who command s)
  moved commands.List e = stay refl refl
  moved (commands.Hold name) e = held name e refl refl
  moved (commands.Release name) e = released name e refl refl
  moved (commands.Cancel name) e = cancelled name e refl refl
  moved (commands.Reroute name node) e = by_route (route_of entry node) refl
    where
      by_route :
          (r : Route) → route_of entry node ≡ r
          → FilesMove entry who message s.whole (rerouting r entry node (is_of_name who name) name s)
      by_route Here at = stay refl refl
      by_route (Line line) at = rerouted name node line e at refl refl
      by_route Unknown at = stay refl refl

  obeyed :
      (o : Option Command) → command_of message ≡ o
      → FilesMove entry who message s.whole (obeyed_where o entry who s)
  obeyed None e = stay refl refl
  obeyed (Some command) e = moved command e

pub files_move : CommandsMoveFilesSo
files_move entry who message s = obeyed entry who message s (command_of message) refl
