use Rattle.njh_spoolfile.proofs.PackedLaws.{unpacked_packed}
use Rattle.njh_spoolfile.proofs.laws.what_is_packed_is_read_back.Goals as goal

pub returns : goal.returns
returns c = unpacked_packed
