use Rattle.std.proofs.Common.{arith, rules}
use Rattle.std.proofs.lemmas.Bool.Decides.{nat_tests}
use Rattle.njh_ebcdic.proofs.Blanks.{is_name-padded}
use Rattle.njh_ebcdic.proofs.name.Name.of_word.Goals as goal

pub invariant_of-result : goal.invariant_of-result
invariant_of-result c =
    rw c.pad.ensures (is_name-padded c.args.word.now (grind (arith, nat_tests)) (omega arith) (search rules))
