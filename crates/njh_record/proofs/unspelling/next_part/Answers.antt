use Rattle.std.proofs.Common.{ℕ, arith, length-drop, length-take}
use Rattle.njh_record.proofs.Fronts.{cut_none, cut_repeat, cut_literal}
use Rattle.njh_record.proofs.unspelling.next_part.Goals as goal

pub returns-in_default : goal.returns-in_default
returns-in_default c = cut_none _ c.in_default.len_below

pub returns-in_default-rest : goal.returns-in_default-rest
returns-in_default-rest c = cut_repeat _ (omega (arith, length-take {A = ℕ}, length-drop {A = ℕ})) (omega arith)
    (omega arith)

pub returns-in_default-split_at_checked : goal.returns-in_default-split_at_checked
returns-in_default-split_at_checked c =
    let lacks = c.in_default-split_at_checked.ensures.cases in
    cut_literal _ c.from-count-in-192-to-255.result (omega arith) (omega arith)
    (omega (arith, lacks, length-take {A = ℕ}, length-drop {A = ℕ}))
