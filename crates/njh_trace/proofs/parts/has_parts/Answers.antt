use Rattle.std.proofs.Common.{◌∙◌, None, Some}
use Rattle.std.proofs.lemmas.Bool.Decides.{Decides-eqb}
use Rattle.std.proofs.lemmas.Slice.Eq.{strip_prefix_is}
use Rattle.njh_trace.proofs.MarkLaws.{marked-none, marked-some}
use Rattle.njh_trace.proofs.parts.has_parts.Goals as goal

pub returns-in-Some : goal.returns-in-Some
returns-in-Some c =
    c.eq.ensures
    ∙ marked-some c.args.text.now c.args.front.now c.in-Some.rest.now c.args.back.now
    (strip_prefix_is Decides-eqb c.args.text.now c.args.front.now (Some c.in-Some.rest) c.in-Some.ensures.cases)

pub returns-in-None : goal.returns-in-None
returns-in-None c =
    marked-none c.args.text.now c.args.front.now c.args.back.now
    (strip_prefix_is Decides-eqb c.args.text.now c.args.front.now None c.in-None.ensures.cases)
