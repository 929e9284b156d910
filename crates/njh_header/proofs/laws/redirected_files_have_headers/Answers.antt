use Rattle.njh_header.proofs.Destinations.{still_has_headers}
use Rattle.njh_header.proofs.laws.redirected_files_have_headers.Goals as goal

pub returns : goal.returns
returns c = still_has_headers
