use Rattle.njh_nmr.proofs.RoundTrip.{nodal_of-record_of}
use Rattle.njh_nmr.proofs.laws.reading_back.Goals as goal

pub returns : goal.returns
returns c = nodal_of-record_of
