use Rattle.njh_encode.proofs.LineLaws.{known_settles}
use Rattle.njh_encode.proofs.laws.known_texts_settle.Goals as goal

pub returns : goal.returns
returns c = λ texts text encoding becomes. known_settles texts text encoding becomes
