-- A test of one bit of a byte.
use Rattle.std.proofs.Common.{◌≡◌, ℕ, zero, suc, ◌<◌, eqb, refl, bit_and}
use Rattle.std.specs.Prelude.{not}
use Rattle.std.proofs.lemmas.Bool.{agree_below_at}
use Rattle.njh_record.specs.Bytes.{has_bit}

-- the bit of a stream, by its place in its byte
abbrev pub bit_at : ℕ → ℕ
bit_at zero = 8
bit_at (suc zero) = 4
bit_at (suc (suc zero)) = 2
bit_at (suc (suc (suc n))) = 1

pub mask_test : (byte : ℕ) → byte < 256 → not (eqb (bit_and byte 64) 0) ≡ has_bit 64 byte
mask_test byte below = agree_below_at (λ b. not (eqb (bit_and b 64) 0)) (has_bit 64) 256 byte refl below

pub stream_test : (place byte : ℕ) → byte < 256
    → not (eqb (bit_and byte (bit_at place)) 0) ≡ has_bit (bit_at place) byte
stream_test zero byte below = agree_below_at (λ b. not (eqb (bit_and b 8) 0)) (has_bit 8) 256 byte refl below
stream_test (suc zero) byte below = agree_below_at (λ b. not (eqb (bit_and b 4) 0)) (has_bit 4) 256 byte refl below
stream_test (suc (suc zero)) byte below = agree_below_at (λ b. not (eqb (bit_and b 2) 0)) (has_bit 2) 256 byte refl
    below
stream_test (suc (suc (suc n))) byte below =
    agree_below_at (λ b. not (eqb (bit_and b 1) 0)) (has_bit 1) 256 byte refl below
