use Rattle.std.proofs.Common.{ℕ, List, ap, arith, min, subst, ◌∙◌}
use Rattle.std.proofs.lemmas.Option.{slice_get_within}
use Rattle.njh_sight.specs.Waking.{IsFirstLook}
use Rattle.njh_sight.specs.declared.customers.Row.{Row}
use Rattle.njh_sight.proofs.RowLaws.{least_more, wanted_more}
use Rattle.njh_sight.proofs.customers.Customers.moment.Goals as goal

pub loop-row-preserved : goal.loop-row-preserved
loop-row-preserved c = record {
  least = least_more c.self.inside.rows c.loop-row.row-index c.loop-row.moment c.min-moment.result _
      (omega (arith, c.self.invariant))
      (c.min-moment.ensures ∙ ap (λ (n : ℕ). min c.loop-row.moment n) c.moment.ensures) c.loop-row.invariant.least;
  wanted = wanted_more c.self.inside.rows c.loop-row.row-index c.loop-row.moment c.min-moment.result _
      (omega (arith, c.self.invariant))
      (c.min-moment.ensures ∙ ap (λ (n : ℕ). min c.loop-row.moment n) c.moment.ensures) c.loop-row.invariant.wanted;
}

pub returns : goal.returns
returns c = subst (λ (rows : List Row). IsFirstLook rows c.loop-row.moment) c.self.view_is record {
  least = λ k row found.
      c.loop-row.invariant.least k row
      (omega (arith, c.self.invariant, slice_get_within c.self.inside.rows k row found)) found;
  wanted = c.loop-row.invariant.wanted;
}
