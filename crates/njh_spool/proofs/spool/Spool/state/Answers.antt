use Rattle.std.proofs.Common.{Ok, refl, sym, ap, ◌∙◌, arith}
use Rattle.njh_spool.specs.declared.file_slot.FileSlot.{FileSlot}
use Rattle.njh_spool.specs.declared.file_slot.Stage.{Stage}
use Rattle.njh_spool.specs.code.Slots.{is_partial, is_whole_stage, state_of}
use Rattle.njh_spool.proofs.WholeLaws.{whole_is, has_no_whole}
use Rattle.njh_spool.proofs.Calls.{call_on, own_at, files_at}
use Rattle.njh_spool.proofs.CallFinds as finds
use Rattle.njh_spool.proofs.spool.Spool.state.Goals as goal

pub slot_at-requires : goal.slot_at-requires
slot_at-requires c =
    let here = call_on c.self.inside c.args.customer c.args.id c.self.invariant (rw c.self.view_is c.requires) in
    omega (arith, (finds.has here).slot_within 1023 (omega arith))

pub returns-in-Whole : goal.returns-in-Whole
returns-in-Whole c =
    let here = call_on c.self.inside c.args.customer c.args.id c.self.invariant (rw c.self.view_is c.requires) in
    let has = finds.has here in
    let same = c.slot_at.ensures in
    let stage = ap (λ (x : FileSlot). x.stage) (sym same) ∙ c.in-Whole.is in
    rw (
      ← c.self.view_is,
      has.part,
      whole_is (own_at here)
          (files_at here) c.args.id has.own (ap is_whole_stage stage)
          (ap is_partial stage),
    ) (ap (λ (x : Stage). Ok (state_of x)) (sym stage))

pub returns-in-Partial : goal.returns-in-Partial
returns-in-Partial c =
    let here = call_on c.self.inside c.args.customer c.args.id c.self.invariant (rw c.self.view_is c.requires) in
    let has = finds.has here in
    let same = c.slot_at.ensures in
    let stage = ap (λ (x : FileSlot). x.stage) (sym same) ∙ c.in-Partial.is in
    rw (
      ← c.self.view_is,
      has.part,
      (has_no_whole (own_at here)
          (files_at here) c.args.id has.own (ap is_whole_stage stage)).none,
    ) refl

pub returns-in-Free : goal.returns-in-Free
returns-in-Free c =
    let here = call_on c.self.inside c.args.customer c.args.id c.self.invariant (rw c.self.view_is c.requires) in
    let has = finds.has here in
    let same = c.slot_at.ensures in
    let stage = ap (λ (x : FileSlot). x.stage) (sym same) ∙ c.in-Free.is in
    rw (
      ← c.self.view_is,
      has.part,
      (has_no_whole (own_at here)
          (files_at here) c.args.id has.own (ap is_whole_stage stage)).none,
    ) refl
