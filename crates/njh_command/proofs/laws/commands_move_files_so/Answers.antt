use Rattle.njh_command.proofs.CommandMoves.{files_move}
use Rattle.njh_command.proofs.laws.commands_move_files_so.Goals as goal

pub returns : goal.returns
returns c = files_move
