use Rattle.std.proofs.Common.{[]}
use Rattle.std.proofs.lemmas.List.Elements.{All-nil, recursion_from_All}
use Rattle.njh_encode.specs.Packing.{IsData}
use Rattle.njh_encode.proofs.ReadBackLaws.{packed_reads}
use Rattle.njh_encode.proofs.laws.packed_reads_back.Goals as goal

pub returns : goal.returns
returns c = λ state items each.
    packed_reads items state [] (recursion_from_All IsData items each) (All-nil IsData)
