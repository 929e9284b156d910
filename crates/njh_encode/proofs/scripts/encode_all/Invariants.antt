use Rattle.std.proofs.Common.{◌≡◌, []}
use Rattle.njh_encode.proofs.EncodedSoFar.{IsEncoded}
use Rattle.njh_encode.proofs.scripts.encode_all.Given as goal

abbrev pub invariant-loop : goal.invariant-loop
invariant-loop g l = record {
  encoded : IsEncoded (g.L.Letters.texts l.fn.letters) (g.R.Read.remaining l.fn.input) (g.R.Read.remaining l.input)
      (g.W.Write.contents l.fn.out) (g.W.Write.contents l.out) l.reading;
  empty : l.script.items ≡ [];
}
