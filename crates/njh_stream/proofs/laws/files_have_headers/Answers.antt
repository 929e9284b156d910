use Rattle.njh_stream.proofs.HeadersCome.{headers_come}
use Rattle.njh_stream.proofs.laws.files_have_headers.Goals as goal

pub returns : goal.returns
returns c = record { come = headers_come }
