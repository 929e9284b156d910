use Rattle.std.proofs.Common.{◌∙◌, ◌+◌, arith, map, refl, subst, sym}
use Rattle.njh_ctl.proofs.EntryLaws.{seen_at}
use Rattle.njh_ctl.specs.Many.{EntryTried, Tried, entry_view, many_view, share_at, trying_begins, trying_goes_on}
use Rattle.njh_ctl.specs.Orders.{GiverView}
use Rattle.njh_ctl.specs.declared.counts.Counts.{Counts}
use Rattle.njh_ctl.proofs.operator.Operator.try_each.Goals as goal

pub loop-at-init : goal.loop-at-init
loop-at-init g c = record { tried = trying_begins; few = omega arith; giver = refl }

pub loop-at-preserved : goal.loop-at-preserved
loop-at-preserved g c =
    let many = many_view c.args.many in
    let entries = c.args.entries.now in
    let giver = c.args.self.now.giver in
    let at = c.loop-at.at in
    let mid = c.loop-at.self.talk in
    let new = c.try_entry.new.self in
    let e = entry_view c.index-entries-at.result in
    record {
      tried = subst (λ (n : Counts). Tried many giver (map entry_view entries) c.args.self.now.talk (at + 1) new.talk n)
          (sym c.with-counts.ensures.value)
          (trying_goes_on at e mid new.talk c.loop-at.counts c.in_ok-outcome.outcome c.loop-at.invariant.tried
          (seen_at entry_view entries at c.index-entries-at.result c.loop-at-test.true c.index-entries-at.is)
          (subst (λ (who : GiverView). EntryTried many who at e (share_at (map entry_view entries) at e) mid new.talk
          c.in_ok-outcome.outcome) c.loop-at.invariant.giver c.in_ok-outcome.ensures.done));
      few = omega arith;
      giver = c.try_entry.ensures.giver ∙ c.loop-at.invariant.giver;
    }
