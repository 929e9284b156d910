use Rattle.std.proofs.Common.{◌^◌, ◌%◌, ◌<◌, ◌==◌, ap, sym, subst, ◌∙◌, arith}
use Rattle.njh_table.specs.Ranges.{ends_in_zeros}
use Rattle.njh_table.proofs.RangeLaws.{all_behind}
use Rattle.njh_table.proofs.address_range.ends_in_zeros.Goals as goal

pub returns-in-None : goal.returns-in-None
unfolding ends_in_zeros
returns-in-None c =
    let over : ¬ (2 ^ c.args.bits < 2 ^ 128) = λ below.
    c.in-None.ensures (subst (λ b. 2 ^ b < 2 ^ 128) (sym c.from.ensures) below) in
    ap (λ n. n == 0) (sym (all_behind c.number_of-number.result c.args.bits (omega arith) over)
    ∙ ap (λ n. n % 2 ^ c.args.bits) c.number_of-number.ensures)
