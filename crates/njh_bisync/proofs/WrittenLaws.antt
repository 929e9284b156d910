-- How long what is written is.
use Rattle.std.proofs.Common.{◌≡◌, ℕ, ◌+◌, ◌*◌, ◌≤◌, ◌==◌, List, [], ◌∷◌, length, Bool, true, false, if◌then◌else◌}
use Rattle.std.proofs.Common.{refl, arith, length-append}
use Rattle.std.specs.Prelude.{flat_map, count_by}
use Rattle.std.proofs.lemmas.List.Sums.{count_by-le-length, sum_by-cons}
use Rattle.njh_bisync.specs.Written.{bytes_of_data, text_bytes}

-- the test of `count`, on one byte
length-if_doubled : (same : Bool) (byte : ℕ)
    → length (if same then 0x10 ∷ 0x10 ∷ [] else byte ∷ []) ≡ 1 + (if same then 1 else 0)
length-if_doubled true byte = refl
length-if_doubled false byte = refl

pub length-data_bytes : (held : List ℕ) → length (flat_map bytes_of_data held) ≡ length held + count_by
    (λ byte. byte == 0x10) held
length-data_bytes [] = refl
length-data_bytes (byte ∷ held) =
    omega (
      arith,
      length-append (bytes_of_data byte) (flat_map bytes_of_data held),
      length-if_doubled (byte == 0x10) byte,
      length-data_bytes held,
      sum_by-cons (λ b. if b == 0x10 then 1 else 0) byte held,
    )

pub length-text_bytes : (held : List ℕ) → length (text_bytes held) ≡ 4 + length (flat_map bytes_of_data held)
unfolding text_bytes
length-text_bytes held = omega (arith, length-append (flat_map bytes_of_data held) (0x10 ∷ 0x26 ∷ []))

pub length-data_bytes-le : (held : List ℕ) → length (flat_map bytes_of_data held) ≤ 2 * length held
length-data_bytes-le held = omega (arith, length-data_bytes held, count_by-le-length (λ byte. byte == 0x10) held)

pub ruleset lengths = (length-data_bytes, length-text_bytes, length-data_bytes-le)
