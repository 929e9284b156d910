-- A flag's bits, by its value.
use Rattle.std.proofs.Common.{◌≡◌, ◌≢◌, ℕ, ◌<◌, true, not, ◌&&◌, eqb, refl, sym, ap, ◌∙◌}
use Rattle.std.specs.Prelude.{bit_and}
use Rattle.std.proofs.lemmas.Bool.{agree_below_at, ne_eqb}
use Rattle.njh_record.specs.Bytes.{has_bit}

command_bit : (flag : ℕ) → flag < 256 → not (eqb (bit_and flag 0x80) 0) ≡ has_bit 0x80 flag
command_bit flag small = agree_below_at (λ n. not (eqb (bit_and n 0x80) 0)) (has_bit 0x80) 256 flag refl small

user_bit : (flag : ℕ) → flag < 256 → not (eqb (bit_and flag 0x20) 0) ≡ has_bit 0x20 flag
user_bit flag small = agree_below_at (λ n. not (eqb (bit_and n 0x20) 0)) (has_bit 0x20) 256 flag refl small

-- both bits, one test after the other
pub both_bits : (flag : ℕ) → flag < 256 → bit_and flag 0x80 ≢ 0
    → not (eqb (bit_and flag 0x20) 0) ≡ (has_bit 0x80 flag && has_bit 0x20 flag)
both_bits flag small command =
    let is_command : has_bit 0x80 flag ≡ true = sym (command_bit flag small) ∙ ap not (ne_eqb _ 0 command) in
    user_bit flag small ∙ sym (ap (λ b. b && has_bit 0x20 flag) is_command)
