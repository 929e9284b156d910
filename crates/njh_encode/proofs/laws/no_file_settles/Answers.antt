use Rattle.njh_encode.proofs.LineLaws.{no_file_settles}
use Rattle.njh_encode.proofs.laws.no_file_settles.Goals as goal

pub returns : goal.returns
returns c = λ known texts text encoding none becomes. no_file_settles known texts text encoding none becomes
