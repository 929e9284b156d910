use Rattle.std.proofs.lemmas.Bool.Decides.{Decides-eqb}
use Rattle.std.proofs.lemmas.Slice.Eq.{starts_is}
use Rattle.njh_replay.proofs.line_starts.start_of.Goals as goal

pub returns-in-Some-clause-begins : goal.returns-in-Some-clause-begins
returns-in-Some-clause-begins c =
    let said = starts_is Decides-eqb c.args.line.now c.in-Some.start.front.now c.starts_with.result
    c.starts_with.ensures.value in
    rw c.in-Some.is (said.0 c.if-starts_with.true)
