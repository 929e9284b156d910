use Rattle.std.proofs.Common.{[], arith}
use Rattle.std.proofs.lemmas.List.Elements.{recursion_from_All}
use Rattle.njh_encode.specs.Packing.{IsData}
use Rattle.njh_encode.proofs.FrameBackLaws.{packed_frames}
use Rattle.njh_encode.proofs.laws.packed_frames_read_back.Goals as goal

pub returns : goal.returns
returns c = λ state items each.
    packed_frames items state [] (recursion_from_All IsData items each) (omega arith)
