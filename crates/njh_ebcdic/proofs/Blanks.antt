-- What trimming leaves, by the last byte.
use Rattle.std.proofs.Common.{◌≡◌, ◌≢◌, ℕ, zero, suc, drop, not, ◌-◌, ◌<◌, ◌≤◌, arith, length, replicate, Bool, true}
use Rattle.std.proofs.Common.{false, cond, eqb, List, [], ◌∷◌, ◌++◌, refl, sym, ap, ◌∙◌}
use Rattle.std.specs.List.{list_all}
use Rattle.std.proofs.Math.Seq.{append_snoc}
use Rattle.std.proofs.lemmas.Bool.{ne_eqb, false≢true, and_parts, and_from, eq-eqb, eqb-true, not-true}
use Rattle.std.proofs.lemmas.List.{append-nil, drop-replicate, length-append, length-replicate}
use Rattle.njh_ebcdic.specs.Names.{without_end_blanks, is_name_byte, is_empty, is_name, padded_field}

-- a byte in front of what is left
abbrev in_front : ℕ → List ℕ → List ℕ
in_front b rest = elim rest [ [] ↦ cond (eqb b 0x40) [] (b ∷ []) | r ∷ rs ↦ b ∷ r ∷ rs ]

trimmed-push_blank : (xs : List ℕ) → without_end_blanks (xs ++ 0x40 ∷ []) ≡ without_end_blanks xs
trimmed-push_blank [] = refl
trimmed-push_blank (x ∷ xs) = ap (in_front x) (trimmed-push_blank xs)

in_front-push : (x : ℕ) (xs : List ℕ) (b : ℕ) → in_front x (xs ++ b ∷ []) ≡ x ∷ (xs ++ b ∷ [])
in_front-push x [] b = refl
in_front-push x (y ∷ ys) b = refl

lone : (b : ℕ) (t : Bool) → t ≡ false → cond t [] (b ∷ []) ≡ b ∷ []
lone b true e = cc
lone b false e = refl

trimmed-push : (xs : List ℕ) (b : ℕ) → eqb b 0x40 ≡ false → without_end_blanks (xs ++ b ∷ []) ≡ xs ++ b ∷ []
trimmed-push [] b other = lone b (eqb b 0x40) other
trimmed-push (x ∷ xs) b other = ap (in_front x) (trimmed-push xs b other) ∙ in_front-push x xs b

-- a blank at the end goes
pub trimmed-blank : (bytes front : List ℕ) (last : ℕ) → bytes ≡ front ++ last ∷ [] → last ≡ 0x40
    → without_end_blanks bytes ≡ without_end_blanks front
trimmed-blank bytes front last is blank =
    ap without_end_blanks (is ∙ ap (λ b. front ++ b ∷ []) blank) ∙ trimmed-push_blank front

-- with another byte at the end nothing goes
pub trimmed-other : (bytes front : List ℕ) (last : ℕ) → bytes ≡ front ++ last ∷ [] → last ≢ 0x40
    → without_end_blanks bytes ≡ bytes
trimmed-other bytes front last is other =
    ap without_end_blanks is ∙ trimmed-push front last (ne_eqb last 0x40 other) ∙ sym is

-- blanks at the end go
pub trimmed-append_blanks : (bytes : List ℕ) (count : ℕ)
    → without_end_blanks (bytes ++ replicate count 0x40) ≡ without_end_blanks bytes
trimmed-append_blanks bytes zero = ap without_end_blanks (append-nil bytes)
trimmed-append_blanks bytes (suc count) =
    ap without_end_blanks (sym (append_snoc bytes 0x40 (replicate count 0x40)))
    ∙ (trimmed-append_blanks (bytes ++ 0x40 ∷ []) count ∙ trimmed-push_blank bytes)

pub not_blank : (b : ℕ) → is_name_byte b ≡ true → eqb b 0x40 ≡ false
not_blank b name =
    ne_eqb b 0x40 (λ blank. false≢true (sym (ap is_name_byte blank) ∙ name))

in_front-other : (b : ℕ) (rest : List ℕ) → eqb b 0x40 ≡ false → in_front b rest ≡ b ∷ rest
in_front-other b [] other = lone b (eqb b 0x40) other
in_front-other b (r ∷ rs) other = refl

-- bytes of a name have no blank among them
pub trimmed-name_bytes : (bytes : List ℕ) → list_all is_name_byte bytes ≡ true → without_end_blanks bytes ≡ bytes
trimmed-name_bytes [] named = refl
trimmed-name_bytes (b ∷ bytes) named =
    let parts = and_parts (is_name_byte b) (list_all is_name_byte bytes) named in
    ap (in_front b) (trimmed-name_bytes bytes parts.1) ∙ in_front-other b bytes (not_blank b parts.0)

pub trimmed-padded : (bytes : List ℕ) → list_all is_name_byte bytes ≡ true
    → without_end_blanks (padded_field bytes) ≡ bytes
trimmed-padded bytes named =
    trimmed-append_blanks bytes (8 - length bytes) ∙ trimmed-name_bytes bytes named

length-padded : (bytes : List ℕ) → length bytes ≤ 8 → length (padded_field bytes) ≡ 8
length-padded bytes few =
    omega (
      arith,
      length-append bytes (replicate (8 - length bytes) 0x40),
      length-replicate {A = ℕ} (8 - length bytes)
          0x40,
    )

-- 1 to 8 bytes of a name, padded, are one
pub is_name-padded : (bytes : List ℕ) → 0 < length bytes → length bytes ≤ 8 → list_all is_name_byte bytes ≡ true
    → is_name (padded_field bytes) ≡ true
is_name-padded [] some few named = absurd (omega arith)
is_name-padded (b ∷ bytes) some few named =
    let whole = trimmed-padded (b ∷ bytes) named in
    and_from _ _ (eq-eqb _ 8 (length-padded (b ∷ bytes) few))
    (and_from _ _ (ap (λ t. not (is_empty t)) whole) (ap (list_all is_name_byte) whole ∙ named))

-- a word laid over blanks
pub padded-overlay : (front word : List ℕ) → front ≡ word
    → front ++ drop (length word) (replicate 8 0x40) ≡ padded_field word
padded-overlay front word same =
    ap (λ bytes. bytes ++ drop (length word) (replicate 8 0x40)) same
    ∙ ap (λ blanks. word ++ blanks) (drop-replicate (length word) 8 0x40)

-- a byte in front of bytes that are followed by blanks
lone-blanks : (b : ℕ) (bytes : List ℕ) (t : Bool) → (t ≡ true → b ≡ 0x40) → replicate (length bytes) 0x40 ≡ bytes
    → cond t [] (b ∷ []) ++ replicate (suc (length bytes) - length (cond t [] (b ∷ []))) 0x40 ≡ b ∷ bytes
lone-blanks b bytes true blank is =
    let same : suc (length bytes) - 0 ≡ suc (length bytes) = omega arith in
    ap (λ count. replicate {A = ℕ} count 0x40) same
    ∙ (ap (λ all. 0x40 ∷ all) is ∙ ap (λ first. first ∷ bytes) (sym (blank refl)))
lone-blanks b bytes false blank is =
    let same : suc (length bytes) - 1 ≡ length bytes = omega arith in
    ap (λ count. b ∷ replicate count 0x40) same ∙ ap (λ all. b ∷ all) is

in_front-blanks : (b : ℕ) (rest bytes : List ℕ) → rest ++ replicate (length bytes - length rest) 0x40 ≡ bytes
    → in_front b rest ++ replicate (suc (length bytes) - length (in_front b rest)) 0x40 ≡ b ∷ bytes
in_front-blanks b [] bytes is =
    let same : length bytes - 0 ≡ length bytes = omega arith in
    lone-blanks b bytes (eqb b 0x40) (eqb-true b 0x40) (ap (λ count. replicate {A = ℕ} count 0x40) (sym same) ∙ is)
in_front-blanks b (r ∷ rs) bytes is =
    let same : suc (length bytes) - length (b ∷ r ∷ rs) ≡ length bytes - length (r ∷ rs) = omega arith in
    ap (λ count. b ∷ ((r ∷ rs) ++ replicate count 0x40)) same ∙ ap (λ all. b ∷ all) is

-- what was trimmed were blanks
pub trimmed-blanks : (bytes : List ℕ) → without_end_blanks bytes ++ replicate
    (length bytes - length (without_end_blanks bytes)) 0x40 ≡ bytes
trimmed-blanks [] = refl
trimmed-blanks (b ∷ bytes) = in_front-blanks b (without_end_blanks bytes) bytes (trimmed-blanks bytes)

pub trimmed-trimmed : (bytes : List ℕ) → without_end_blanks (without_end_blanks bytes) ≡ without_end_blanks bytes
trimmed-trimmed bytes =
    sym (trimmed-append_blanks (without_end_blanks bytes) (length bytes - length (without_end_blanks bytes)))
    ∙ ap without_end_blanks (trimmed-blanks bytes)

length-trimmed : (bytes : List ℕ) → length (without_end_blanks bytes) ≤ length bytes
length-trimmed bytes =
    omega (
      arith,
      length-append (without_end_blanks bytes)
          (replicate (length bytes - length (without_end_blanks bytes)) 0x40),
      ap length (trimmed-blanks bytes),
    )

-- what makes a field a name
pub record IsNamed (field : List ℕ) : Type 0 where
  pub some : is_empty (without_end_blanks field) ≡ false
  pub few : length (without_end_blanks field) ≤ 8
  pub named : list_all is_name_byte (without_end_blanks field) ≡ true
  pub whole : padded_field (without_end_blanks field) ≡ field

pub IsNamed-is_name : (field : List ℕ) → is_name field ≡ true → IsNamed field
IsNamed-is_name field name =
    let parts = and_parts _ _ name in
    let inner = and_parts _ _ parts.1 in
    let size : length field ≡ 8 = eqb-true _ 8 parts.0 in
    record {
      some = not-true _ inner.0;
      few = omega (arith, length-trimmed field);
      named = inner.1;
      whole = ap (λ count. without_end_blanks field ++ replicate (count - length (without_end_blanks field)) 0x40)
          (sym size) ∙ trimmed-blanks field;
    }
