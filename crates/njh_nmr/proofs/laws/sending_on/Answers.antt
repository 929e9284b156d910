use Rattle.njh_nmr.proofs.RoundTrip.{record_of-read, IsMessage-read}
use Rattle.njh_nmr.proofs.laws.sending_on.Goals as goal

pub returns-clause-bytes : goal.returns-clause-bytes
returns-clause-bytes c = record_of-read

pub returns-clause-whole : goal.returns-clause-whole
returns-clause-whole c = IsMessage-read
