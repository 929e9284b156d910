use Rattle.njh_command.proofs.HeadersKept.{headers_kept}
use Rattle.njh_command.proofs.laws.commands_keep_headers.Goals as goal

pub returns : goal.returns
returns c = headers_kept
