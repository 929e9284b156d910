use Rattle.std.proofs.Common.{sym, ◌∙◌}
use Rattle.std.proofs.lemmas.Option.{slice_get-get_or}
use Rattle.njh_sites.proofs.OpenedLaws.{apart_more}
use Rattle.njh_sites.proofs.opening.repeated.Goals as goal

pub returns-then-has_port-clause-same : goal.returns-then-has_port-clause-same
returns-then-has_port-clause-same c = record {
  place = c.loop-place.place;
  there = slice_get-get_or c.args.endpoints.now c.loop-place.place _ c.loop-place-test.true;
  before = sym c.has_port.ensures ∙ c.if-has_port.true;
  first = c.loop-place.invariant;
}

pub loop-place-preserved : goal.loop-place-preserved
loop-place-preserved c =
    apart_more c.args.endpoints.now c.loop-place.place _ c.loop-place-test.true c.loop-place.invariant
    (sym c.has_port.ensures ∙ c.if-has_port.false)
