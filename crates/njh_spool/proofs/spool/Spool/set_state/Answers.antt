use Rattle.std.proofs.Common.{◌≡◌, ◌+◌, ◌*◌, List, set, refl, sym, ap, subst, ◌∙◌}
use Rattle.njh_spool.specs.declared.file_slot.FileSlot.{FileSlot}
use Rattle.njh_spool.specs.declared.file_slot.Stage.TheVariants.{Whole}
use Rattle.njh_spool.specs.CustomerSpool.{CustomerSpool, with_state}
use Rattle.njh_spool.specs.Spools.{spool_at}
use Rattle.njh_spool.specs.code.Slots.{slot_of, is_whole_stage}
use Rattle.njh_spool.proofs.CallFinds as finds
use Rattle.njh_spool.proofs.CallLaws as call
use Rattle.njh_spool.proofs.Calls.{MovesTo, call_on}
use Rattle.njh_spool.proofs.spool.Spool.set_state.Goals as goal
use Rattle.njh_spool.proofs.spool.Spool.set_state.Goals.{After-set, After-is_whole}

pub slot_at-slot-requires : goal.slot_at-slot-requires
slot_at-slot-requires c = finds.row_fits
    (call_on c.self.inside c.args.customer c.args.id c.self.invariant (rw c.self.view_is c.requires))

stage_is : (c : After-is_whole)
    → is_whole_stage (slot_of c.self.inside.slots c.args.customer c.args.id).stage ≡ c.is_whole.result
stage_is c = ap (λ (x : FileSlot). is_whole_stage x.stage)
    (sym (c.slot_at-slot.ensures))
    ∙ sym c.is_whole.ensures

pub returns-then-not-is_whole-clause-answer : goal.returns-then-not-is_whole-clause-answer
returns-then-not-is_whole-clause-answer c =
    let here = call_on c.self.inside c.args.customer c.args.id c.self.invariant (rw c.self.view_is c.requires) in
    let none = finds.finds_no_whole here
    (stage_is (goal.at.returns-then-not-is_whole-clause-answer c).After-is_whole ∙ c.if-not-is_whole.true) in
    rw (← c.self.view_is, none.none) refl

pub returns-then-not-is_whole-clause-after : goal.returns-then-not-is_whole-clause-after
returns-then-not-is_whole-clause-after c =
    let here = call_on c.self.inside c.args.customer c.args.id c.self.invariant (rw c.self.view_is c.requires) in
    let none = finds.finds_no_whole here
    (stage_is (goal.at.returns-then-not-is_whole-clause-after c).After-is_whole ∙ c.if-not-is_whole.true) in
    rw (← c.self.view_is) (none.changes (λ x. record x { state = c.args.state }))

moved : (c : After-set) → MovesTo (call_on c.self.inside c.args.customer c.args.id c.self.invariant
    (rw c.self.view_is c.requires)) c.self.inside.store c.set.new.self c.self.inside.customers.items
    (with_state c.args.id c.args.state)
moved c =
    let here = call_on c.self.inside c.args.customer c.args.id c.self.invariant (rw c.self.view_is c.requires) in
    let there = ap (λ (x : FileSlot). is_whole_stage x.stage)
    (sym (c.slot_at-slot.ensures))
    ∙ sym c.is_whole.ensures ∙ c.if-not-is_whole.false in
    subst (λ (xs : List FileSlot). MovesTo here c.self.inside.store xs c.self.inside.customers.items
    (with_state c.args.id c.args.state)) (sym c.set.ensures)
    (subst (λ (x : FileSlot). MovesTo here c.self.inside.store
    (set c.self.inside.slots (1024 * c.args.customer + c.args.id)
    (record x { stage = Whole c.args.state })) c.self.inside.customers.items (with_state c.args.id c.args.state))
    (sym (c.slot_at-slot.ensures))
    (call.restates here c.args.state there
    (finds.small_whole here there)))

pub invariant_of-self : goal.invariant_of-self
invariant_of-self c = (moved (goal.at.invariant_of-self c).After-set).kept

pub returns-clause-answer : goal.returns-clause-answer
returns-clause-answer c =
    let here = call_on c.self.inside c.args.customer c.args.id c.self.invariant (rw c.self.view_is c.requires) in
    let there = stage_is (goal.at.returns-clause-answer c).After-is_whole ∙ c.if-not-is_whole.false in
    rw (← c.self.view_is, finds.finds_whole here there) refl

pub returns-clause-after : goal.returns-clause-after
returns-clause-after c =
    (moved (goal.at.returns-clause-after c).After-set).spools
    ∙ ap (λ (old : List CustomerSpool). set old c.args.customer
    (with_state c.args.id c.args.state (spool_at c.args.customer old))) c.self.view_is
