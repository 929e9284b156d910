-- A sign-on that is written reads back.
use Rattle.std.proofs.Common.{◌≡◌, ℕ, ◌<◌, ◌≤◌, true, List, [], ◌∷◌, ◌++◌, length, replicate, Ok, refl, sym, ◌∙◌, ap}
use Rattle.std.proofs.Common.{arith, append_assoc, length-append}
use Rattle.std.proofs.lemmas.Bool.{le-ltb}
use Rattle.njh_record.specs.Bytes.{field, number_at, two_bytes}
use Rattle.njh_ebcdic.specs.Names.{is_name}
use Rattle.njh_header.specs.SignOns.{SignOn, sign_on, sign_on_bytes}
use Rattle.njh_header.proofs.Fields.{field_at, number_at-two_bytes}

regroup : (a b c d e f g : List ℕ) → a ++ b ++ c ++ d ++ e ++ f ++ g ≡ (a ++ b) ++ (c ++ (d ++ (e ++ (f ++ g))))
regroup a b c d e f g = simp append_assoc

-- bytes whose fields are those of a sign-on
fields_read : (bytes : List ℕ) (s : SignOn) → 26 ≤ length bytes → field 1 8 bytes ≡ s.node → is_name s.node ≡ true
    → number_at 16 bytes ≡ s.block → field 18 8 bytes ≡ s.password
    → sign_on bytes ≡ Ok s
fields_read bytes s long node named block password =
    rw (le-ltb (length bytes) 18 (omega arith), le-ltb (length bytes) 26 long, node, named, block, password) refl

pub read_back : (s : SignOn) (rest : List ℕ) → length s.node ≡ 8 → is_name s.node ≡ true → s.block < 65536
    → length s.password ≡ 8
    → sign_on (sign_on_bytes s ++ rest) ≡ Ok s
read_back s rest eight named small whole =
    let tail : List ℕ = replicate 8 0x40 ++ (replicate 5 0x00 ++ rest) in
    let front : List ℕ = (0x29 ∷ s.node) ++ (0x01 ∷ replicate 6 0x00) in
    let is : sign_on_bytes s ++ rest ≡ front ++ (two_bytes s.block ++ (s.password ++ tail)) =
    regroup (0x29 ∷ s.node) (0x01 ∷ replicate 6 0x00) (two_bytes s.block) s.password (replicate 8 0x40)
    (replicate 5 0x00) rest in
    let sixteen : length front ≡ 16 = omega (arith, length-append (0x29 ∷ s.node) (0x01 ∷ replicate 6 0x00)) in
    let node_is : field 1 8 (sign_on_bytes s ++ rest) ≡ s.node =
    ap (field 1 8) (is ∙ append_assoc (0x29 ∷ s.node) (0x01 ∷ replicate 6 0x00)
    (two_bytes s.block ++ (s.password ++ tail)))
    ∙ field_at (0x29 ∷ []) s.node ((0x01 ∷ replicate 6 0x00) ++ (two_bytes s.block ++ (s.password ++ tail))) 1 8 refl
    eight in
    let block_is : number_at 16 (sign_on_bytes s ++ rest) ≡ s.block =
    ap (number_at 16) is ∙ number_at-two_bytes front (s.password ++ tail) 16 s.block sixteen small in
    let password_is : field 18 8 (sign_on_bytes s ++ rest) ≡ s.password =
    ap (field 18 8) (is ∙ sym (append_assoc front (two_bytes s.block) (s.password ++ tail)))
    ∙ field_at (front ++ two_bytes s.block) s.password tail 18 8
    (omega (arith, length-append front (two_bytes s.block))) whole in
    let long : 26 ≤ length (sign_on_bytes s ++ rest) =
    omega (
      arith,
      ap length is,
      length-append front (two_bytes s.block ++ (s.password ++ tail)),
      length-append
          s.password tail,
    ) in
    fields_read (sign_on_bytes s ++ rest) s long node_is named block_is password_is
