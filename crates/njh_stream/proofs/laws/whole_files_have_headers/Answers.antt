use Rattle.njh_stream.proofs.HeadersKept.{received_headers}
use Rattle.njh_stream.proofs.laws.whole_files_have_headers.Goals as goal

pub returns : goal.returns
returns c = received_headers
