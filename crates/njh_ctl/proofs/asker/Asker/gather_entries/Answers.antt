use Rattle.std.proofs.Common.{ℕ, List, Option, None, Some, map, subst, sym}
use Rattle.njh_ctl.specs.Asked.{Gathered, PartGathered, gathering_begins, gathering_goes_on}
use Rattle.njh_ctl.specs.Chosen.{wanted_by}
use Rattle.njh_ctl.specs.Lists.{Files}
use Rattle.njh_ctl.specs.Many.{IsEntry, entry_view}
use Rattle.njh_ctl.specs.declared.entries.Entry.{Entry}
use Rattle.njh_ctl.proofs.asker.Asker.gather_entries.Goals as goal

pub loop-init : goal.loop-init
loop-init g c =
    let link = c.args.self.now in
    let wanted = wanted_by c.args.filter in
    subst (λ (entries : List Entry). Gathered (Files c.args.customer.now wanted) (IsEntry wanted) link link
    (map entry_view entries) (Some 0))
    (sym c.requires) gathering_begins

pub returns-in-None-clause-done : goal.returns-in-None-clause-done
returns-in-None-clause-done g c =
    let mid = c.loop.self in
    let new = c.entries_from.new.self in
    let wanted = wanted_by c.args.filter in
    let before = map entry_view c.loop.entries.items in
    let after = map entry_view c.entries_from.new.entries.items in
    gathering_goes_on mid new before after c.loop.from None c.loop.invariant
    (subst (λ (next : Option ℕ). PartGathered (Files c.args.customer.now wanted) (IsEntry wanted) c.loop.from mid new
    before after next) c.in-None.is c.in_ok-next.ensures.done)

pub loop-preserved : goal.loop-preserved
loop-preserved g c =
    let mid = c.loop.self in
    let new = c.entries_from.new.self in
    let wanted = wanted_by c.args.filter in
    let before = map entry_view c.loop.entries.items in
    let after = map entry_view c.entries_from.new.entries.items in
    gathering_goes_on mid new before after c.loop.from (Some c.in-Some.next) c.loop.invariant
    (subst (λ (next : Option ℕ). PartGathered (Files c.args.customer.now wanted) (IsEntry wanted) c.loop.from mid new
    before after next) c.in-Some.is c.in_ok-next.ensures.done)
