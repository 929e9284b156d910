use Rattle.std.proofs.Common.{◌≡◌, ℕ, ◌*◌, replicate, ap, ◌∙◌, arith}
use Rattle.njh_spool.specs.code.Slots.{free_slot}
use Rattle.njh_spool.specs.code.SlotRows.{slots_in}
use Rattle.njh_spool.proofs.RowLaws.{slots_in-free}
use Rattle.njh_spool.proofs.file_slots.FileSlots.open.Goals as goal

pub returns : goal.returns
returns c =
    let all : c.loop-done._done ≡ c.args.customers =
    omega (arith, c.loop-done-test.false, c.loop-done.auto._done-end) in
    ap slots_in c.loop-done.invariant.0 ∙ slots_in-free c.loop-done._done 1024
    ∙ ap (λ (n : ℕ). replicate (1024 * n) free_slot) all
