-- The walk over a header's sections.
use Rattle.std.proofs.Common.{◌≡◌, ◌≢◌, ℕ, zero, suc, ◌+◌, ◌-◌, ◌<◌, ◌≤◌, List, [], ◌∷◌, length, drop, nat_lt, Result}
use Rattle.std.proofs.Common.{Ok, Err, refl, sym, ◌∙◌, ap, arith, length-drop, inl, inr, ◌⊎◌}
use Rattle.std.proofs.lemmas.Bool.{le-ltb, cond-false}
use Rattle.std.proofs.lemmas.Bool.Decides.{nat_tests}
use Rattle.njh_record.specs.Bytes.{number_at}
use Rattle.njh_header.specs.declared.fault.HeaderFault.{HeaderFault}
use Rattle.njh_header.specs.declared.fault.HeaderFault.TheVariants.{TooShort, NoGeneralSection, SectionOverrun}
use Rattle.njh_header.specs.Walk.{Front, Ends, Cut, Small, General, Other, front_of, walk, general_section}
use Rattle.njh_header.specs.Sections.{BeginsGeneral, IsCut}

-- a whole section of another kind is at the front
pub record BeginsOther (rest : List ℕ) : Type 0 where
  pub length_field : 4 ≤ number_at 0 rest
  pub within : number_at 0 rest ≤ length rest
  pub kind : number_at 2 rest ≢ 0

-- what each word for the front means
abbrev pub IsFront : ℕ → List ℕ → Front → Type 0
IsFront size rest Ends = length rest ≡ 0
IsFront size rest Cut = IsCut rest
IsFront size rest Small = BeginsGeneral rest × ((number_at 0 rest < size) ⊎ (length rest < size))
IsFront size rest General = BeginsGeneral rest × (size ≤ number_at 0 rest) × (size ≤ length rest)
IsFront size rest Other = BeginsOther rest

cut_front : (size : ℕ) (rest : List ℕ) → 0 < length rest
    → (length rest < 4) ⊎ ((number_at 0 rest < 4) ⊎ ((number_at 2 rest ≢ 0) × (length rest < number_at 0 rest)))
    → front_of size rest ≡ Cut
cut_front size rest some_left (inl few) = grind (arith, nat_tests)
cut_front size rest some_left (inr (inl short)) = grind (arith, nat_tests)
cut_front size rest some_left (inr (inr over)) = grind (arith, nat_tests)

pub front_only : (size : ℕ) (rest : List ℕ) (front : Front) → IsFront size rest front → front_of size rest ≡ front
front_only size rest Ends none = grind (arith, nat_tests)
front_only size rest Cut cut = cut_front size rest cut.some_left cut.short
front_only size rest Small small = grind (arith, nat_tests)
front_only size rest General general = grind (arith, nat_tests)
front_only size rest Other other = grind (arith, nat_tests)

pub other_front : (size : ℕ) (rest : List ℕ) → front_of size rest ≡ Other → BeginsOther rest
other_front size rest e = grind (arith, nat_tests)

abbrev pub decided : Front → ℕ → Result ℕ HeaderFault → Result ℕ HeaderFault
decided front place next =
    elim front [
      | Ends ↦ Err NoGeneralSection
      | Cut ↦ Err SectionOverrun
      | Small ↦ Err TooShort
      | General ↦ Ok place
      | Other ↦ next
    ]

decided_same : (front : Front) (place : ℕ) (m n : Result ℕ HeaderFault) → (front ≡ Other → m ≡ n)
    → decided front place m ≡ decided front place n
decided_same Ends place m n same = refl
decided_same Cut place m n same = refl
decided_same Small place m n same = refl
decided_same General place m n same = refl
decided_same Other place m n same = same refl

pub walk_fuel : (k m size place : ℕ) (rest : List ℕ) → length rest ≤ k → length rest ≤ m
    → walk k size place rest ≡ walk m size place rest
walk_fuel zero zero size place rest h i = refl
walk_fuel zero (suc m) size place [] h i = refl
walk_fuel zero (suc m) size place (b ∷ rest) h i = absurd (omega arith)
walk_fuel (suc k) zero size place [] h i = refl
walk_fuel (suc k) zero size place (b ∷ rest) h i = absurd (omega arith)
walk_fuel (suc k) (suc m) size place rest h i =
    decided_same (front_of size rest) place _ _
    (λ e.
    let other = other_front size rest e in
    let shorter = length-drop (number_at 0 rest) rest in
    walk_fuel k m size (place + number_at 0 rest) (drop (number_at 0 rest) rest) (omega (arith, other.length_field))
    (omega (arith, other.length_field)))

-- one section on
walk_at : (size place : ℕ) (rest : List ℕ) → walk (length rest) size place rest
    ≡ decided (front_of size rest) place
    (walk (length (drop (number_at 0 rest) rest)) size (place + number_at 0 rest) (drop (number_at 0 rest) rest))
walk_at size place rest =
    walk_fuel (length rest) (suc (length rest)) size place rest (omega arith) (omega arith)
    ∙ decided_same (front_of size rest) place _ _
    (λ e.
    let other = other_front size rest e in
    let shorter = length-drop (number_at 0 rest) rest in
    walk_fuel (length rest) (length (drop (number_at 0 rest) rest)) size (place + number_at 0 rest)
    (drop (number_at 0 rest) rest)
    (omega arith) (omega arith))

pub walk_front : (size place : ℕ) (rest : List ℕ) (front : Front) → IsFront size rest front
    → walk (length rest) size place rest
    ≡ decided front place (walk (length (drop (number_at 0 rest) rest)) size (place + number_at 0 rest)
    (drop (number_at 0 rest) rest))
walk_front size place rest front is =
    walk_at size place rest
    ∙ ap (λ (f : Front). decided f place
    (walk (length (drop (number_at 0 rest) rest)) size (place + number_at 0 rest)
    (drop (number_at 0 rest) rest))) (front_only size rest front is)

pub walk_cut : (size place : ℕ) (rest : List ℕ) → IsCut rest → walk (length rest) size place rest ≡ Err SectionOverrun
walk_cut size place rest cut = walk_front size place rest Cut cut

pub walk_begins : (size : ℕ) (bytes rest : List ℕ) → 4 ≤ length bytes → rest ≡ drop 4 bytes
    → walk (length rest) size (length bytes - length rest) rest ≡ general_section size bytes
walk_begins size bytes rest enough is =
    let shorter : length rest + 4 ≡ length bytes = omega (arith, ap length is, length-drop 4 bytes) in
    let at_four : length bytes - length rest ≡ 4 = omega arith in
    walk_fuel (length rest) (length bytes) size (length bytes - length rest) rest (omega arith) (omega arith)
    ∙ ap (λ (place : ℕ). walk (length bytes) size place rest) at_four
    ∙ ap (λ (r : List ℕ). walk (length bytes) size 4 r) is
    ∙ sym (cond-false (nat_lt (length bytes) 4) (Err TooShort) (walk (length bytes) size 4 (drop 4 bytes))
    (le-ltb (length bytes) 4 enough))

pub walk_passes : (size : ℕ) (bytes rest after : List ℕ) → length rest ≤ length bytes → BeginsOther rest
    → after ≡ drop (number_at 0 rest) rest
    → walk (length after) size (length bytes - length after) after ≡ walk (length rest) size
    (length bytes - length rest) rest
walk_passes size bytes rest after within other is =
    let shorter : length after + number_at 0 rest ≡ length rest =
    omega (arith, ap length is, length-drop (number_at 0 rest) rest, other.within) in
    let further : length bytes - length after ≡ length bytes - length rest + number_at 0 rest = omega arith in
    ap (λ (place : ℕ). walk (length after) size place after) further
    ∙ ap (λ (r : List ℕ). walk (length r) size (length bytes - length rest + number_at 0 rest) r) is
    ∙ sym (walk_front size (length bytes - length rest) rest Other other)
