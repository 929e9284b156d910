-- What the walk over a header's sections gives is what is found in the list of them, and nothing else is found.
use Rattle.std.proofs.Common.{◌≡◌, ℕ, zero, suc, ◌+◌, ◌<◌, ◌≤◌, List, [], ◌∷◌, ◌++◌, length, drop, take, nat_lt, Result}
use Rattle.std.proofs.Common.{Ok, Err, refl, sym, ◌∙◌, ap, subst, arith, length-drop, length-append, append_assoc, inl}
use Rattle.std.proofs.Common.{inr, ◌⊎◌}
use Rattle.std.specs.List.{flat_map, AllByRecursion}
use Rattle.std.proofs.lemmas.Bool.{cases_lt, lt-ltb, le-ltb, cond-true, cond-false}
use Rattle.std.proofs.lemmas.Bool.Decides.{nat_tests}
use Rattle.std.proofs.lemmas.List.{append-nil, take-append-drop, drop_at, length-take-le, nil_from_length}
use Rattle.std.proofs.lemmas.Grind.{flat_map-append}
use Rattle.njh_record.specs.Bytes.{number_at}
use Rattle.njh_header.specs.declared.fault.HeaderFault.{HeaderFault}
use Rattle.njh_header.specs.declared.fault.HeaderFault.TheVariants.{TooShort, NoGeneralSection, BadName, SectionOverrun}
use Rattle.njh_header.specs.Walk.{Front, Ends, Cut, Small, General, Other, front_of, walk, general_section}
use Rattle.njh_header.specs.Sections.{IsOther, Passes, IsCut, HasGeneral, LacksGeneral}
use Rattle.njh_header.proofs.Fields.{number_at-take, number_at-append}
use Rattle.njh_header.proofs.Walking.{IsFront, BeginsOther, other_front, decided, walk_front, walk_fuel}

-- what is found says of the header what its sections are
abbrev pub Finds : ℕ → List ℕ → Result ℕ HeaderFault → Type 0
Finds size header (Ok place) = HasGeneral size header place
Finds size header (Err fault) = LacksGeneral size header fault

cut_is : (size : ℕ) (rest : List ℕ) → front_of size rest ≡ Cut → (length rest < 4) ⊎ (4 ≤ length rest)
    → (number_at 0 rest < 4) ⊎ (4 ≤ number_at 0 rest) → IsCut rest
cut_is size rest e (inl few) long = record { some_left = grind (arith, nat_tests); short = inl few }
cut_is size rest e (inr enough) (inl short) = record { some_left = grind (arith, nat_tests); short = inr (inl short) }
cut_is size rest e (inr enough) (inr long) =
    record {
      some_left = grind (arith, nat_tests);
      short = inr
          (inr (λ zero. grind (arith, nat_tests), grind (arith, nat_tests)));
    }

small_is : (size : ℕ) (rest : List ℕ) → front_of size rest ≡ Small → (number_at 0 rest < size)
    ⊎ (size ≤ number_at 0 rest)
    → (number_at 0 rest < size) ⊎ (length rest < size)
small_is size rest e (inl small) = inl small
small_is size rest e (inr enough) = inr (grind (arith, nat_tests))

front_is : (size : ℕ) (rest : List ℕ) (front : Front) → front_of size rest ≡ front → IsFront size rest front
front_is size rest Ends e = grind (arith, nat_tests)
front_is size rest Cut e = cut_is size rest e (cases_lt (length rest) 4) (cases_lt (number_at 0 rest) 4)
front_is size rest Small e = (
  record {
    head = grind (arith, nat_tests);
    length_field = grind (arith, nat_tests);
    kind = grind
        (arith, nat_tests);
  },
  small_is size rest e (cases_lt (number_at 0 rest) size),
)
front_is size rest General e = (
  record { head = grind (arith, nat_tests); length_field = grind (arith, nat_tests); kind = grind (arith, nat_tests) },
  grind
      (arith, nat_tests),
  grind (arith, nat_tests),
)
front_is size rest Other e = other_front size rest e

all_more : {A : Type 0} (P : A → Type 0) (xs : List A) (x : A) → AllByRecursion P xs → P x
    → AllByRecursion P (xs ++ x ∷ [])
all_more P [] x all at = (at, tt)
all_more P (y ∷ ys) x all at = (all.0, all_more P ys x all.1 at)

regroup : (a b c d : List ℕ) → a ++ b ++ (c ++ d) ≡ a ++ (b ++ c) ++ d
regroup a b c d = simp append_assoc

-- the header is its prefix and one section more
passes_on : (header : List ℕ) (place : ℕ) (rest : List ℕ) → Passes header place rest → BeginsOther rest
    → Passes header (place + number_at 0 rest) (drop (number_at 0 rest) rest)
passes_on header place rest p other =
    let section : List ℕ = take (number_at 0 rest) rest in
    let whole : length section ≡ number_at 0 rest = length-take-le (number_at 0 rest) rest other.within in
    let joined : flat_map (λ section. section) (p.sections ++ section ∷ []) ≡ flat_map (λ section. section)
    p.sections ++ section =
    flat_map-append (λ section. section) p.sections (section ∷ [])
    ∙ ap (λ more. flat_map (λ section. section) p.sections ++ more) (append-nil section) in
    record {
      before = p.before;
      four = p.four;
      sections = p.sections ++ section ∷ [];
      others =
          all_more IsOther p.sections section p.others
          (record {
            head = omega (arith, whole, other.length_field);
            whole = number_at-take 0 (number_at 0 rest) rest (omega (arith, other.length_field)) ∙ sym whole;
            kind = λ zero. other.kind (sym
                (number_at-take 2 (number_at 0 rest) rest (omega (arith, other.length_field))) ∙ zero);
          });
      parts =
          p.parts
          ∙ ap (λ (more : List ℕ). p.before ++ flat_map (λ section. section) p.sections ++ more)
          (sym (take-append-drop (number_at 0 rest) rest))
          ∙ regroup p.before (flat_map (λ section. section) p.sections) section (drop (number_at 0 rest) rest)
          ∙ ap (λ (more : List ℕ). p.before ++ more ++ drop (number_at 0 rest) rest) (sym joined);
      end = omega (
        arith,
        p.end,
        ap length joined,
        length-append (flat_map (λ section. section) p.sections) section,
        whole,
      );
    }

decided_finds : (size place : ℕ) (header rest : List ℕ) (next : Result ℕ HeaderFault) (front : Front)
    → Passes header place rest
    → front_of size rest ≡ front
    → (BeginsOther rest → Finds size header next) → Finds size header (decided front place next)
decided_finds size place header rest next Ends p e after =
    let none : rest ≡ [] = nil_from_length rest (front_is size rest Ends e) in
    (place, subst (Passes header place) none p)
decided_finds size place header rest next Cut p e after = (place, rest, p, front_is size rest Cut e)
decided_finds size place header rest next Small p e after =
    let is = front_is size rest Small e in
    inr (record { place = place; rest = rest; passes = p; begins = is.0; small = is.1 })
decided_finds size place header rest next General p e after =
    let is = front_is size rest General e in
    record { rest = rest; passes = p; begins = is.0; long_enough = is.1; whole = is.2 }
decided_finds size place header rest next Other p e after = after (other_front size rest e)

walk_finds : (k size place : ℕ) (header rest : List ℕ) → length rest ≤ k → Passes header place rest
    → Finds size header (walk k size place rest)
walk_finds zero size place header [] h p = (place, p)
walk_finds zero size place header (b ∷ rest) h p = absurd (omega arith)
walk_finds (suc k) size place header rest h p =
    decided_finds size place header rest _ (front_of size rest) p refl
    (λ other.
    let shorter = length-drop (number_at 0 rest) rest in
    walk_finds k size (place + number_at 0 rest) header (drop (number_at 0 rest) rest)
    (omega (arith, other.length_field))
    (passes_on header place rest p other))

-- the walk after whole sections of other kinds
walk_past : (size place : ℕ) (sections : List (List ℕ)) (rest : List ℕ) → AllByRecursion IsOther sections
    → walk (length (flat_map (λ section. section) sections ++ rest)) size place
    (flat_map (λ section. section) sections ++ rest)
    ≡ walk (length rest) size (place + length (flat_map (λ section. section) sections)) rest
walk_past size place [] rest others = ap (λ (n : ℕ). walk (length rest) size n rest) (omega arith)
walk_past size place (section ∷ sections) rest others =
    let more : List ℕ = flat_map (λ section. section) sections ++ rest in
    let left : List ℕ = section ++ more in
    let whole : number_at 0 left ≡ length section = number_at-append 0 section more (omega (arith, others.0.head))
    ∙ others.0.whole in
    let after : drop (number_at 0 left) left ≡ more = drop_at section more (number_at 0 left) (sym whole) in
    let front : BeginsOther left = record {
      length_field = omega (arith, whole, others.0.head);
      within = omega (arith, whole, length-append section more);
      kind = λ zero. others.0.kind (sym (number_at-append 2 section more (omega (arith, others.0.head))) ∙ zero);
    } in
    ap (λ (l : List ℕ). walk (length l) size place l)
    (append_assoc section (flat_map (λ section. section) sections) rest)
    ∙ walk_front size place left Other front
    ∙ ap (λ (l : List ℕ). walk (length l) size (place + number_at 0 left) l) after
    ∙ walk_past size (place + number_at 0 left) sections rest others.1
    ∙ ap (λ (n : ℕ). walk (length rest) size n rest)
    (omega (arith, whole, length-append section (flat_map (λ section. section) sections)))

-- the walk over a header is the walk over its rest
general_past : (size place : ℕ) (header rest : List ℕ) → Passes header place rest
    → general_section size header ≡ walk (length rest) size place rest
general_past size place header rest p =
    let behind : drop 4 header ≡ flat_map (λ section. section) p.sections ++ rest =
    ap (drop 4) (p.parts ∙ append_assoc p.before (flat_map (λ section. section) p.sections) rest)
    ∙ drop_at p.before (flat_map (λ section. section) p.sections ++ rest) 4 p.four in
    let enough : 4 ≤ length header =
    omega (
      arith,
      ap length p.parts,
      length-append (p.before ++ flat_map (λ section. section) p.sections) rest,
      length-append p.before
          (flat_map (λ section. section) p.sections),
      p.four,
    ) in
    let shorter = length-drop 4 header in
    cond-false (nat_lt (length header) 4) (Err TooShort) (walk (length header) size 4 (drop 4 header))
    (le-ltb (length header) 4 enough)
    ∙ walk_fuel (length header) (length (drop 4 header)) size 4 (drop 4 header) (omega arith) (omega arith)
    ∙ ap (λ (l : List ℕ). walk (length l) size 4 l) behind
    ∙ walk_past size 4 p.sections rest p.others
    ∙ ap (λ (n : ℕ). walk (length rest) size n rest) (sym p.end)

front_gives : (size place : ℕ) (header rest : List ℕ) (front : Front) → Passes header place rest
    → IsFront size rest front
    → general_section size header
    ≡ decided front place (walk (length (drop (number_at 0 rest) rest)) size (place + number_at 0 rest)
    (drop (number_at 0 rest) rest))
front_gives size place header rest front p is =
    general_past size place header rest p ∙ walk_front size place rest front is

-- a header that has its prefix
first_passes : (header : List ℕ) → 4 ≤ length header → Passes header 4 (drop 4 header)
first_passes header enough =
    record {
      before = take 4 header;
      four = length-take-le 4 header enough;
      sections = [];
      others = tt;
      parts = sym (ap (λ (front : List ℕ). front ++ drop 4 header) (append-nil (take 4 header))
          ∙ take-append-drop 4 header);
      end = refl;
    }

found_by : (size : ℕ) (header : List ℕ) → (length header < 4) ⊎ (4 ≤ length header)
    → Finds size header (general_section size header)
found_by size header (inl few) =
    subst (Finds size header)
    (sym (cond-true (nat_lt (length header) 4) (Err TooShort) (walk (length header) size 4 (drop 4 header))
    (lt-ltb (length header) 4 few))) (inl few)
found_by size header (inr enough) =
    let shorter = length-drop 4 header in
    subst (Finds size header)
    (sym (cond-false (nat_lt (length header) 4) (Err TooShort) (walk (length header) size 4 (drop 4 header))
    (le-ltb (length header) 4 enough)))
    (walk_finds (length header) size 4 header (drop 4 header) (omega arith) (first_passes header enough))

pub found : (size : ℕ) (header : List ℕ) → Finds size header (general_section size header)
found size header = found_by size header (cases_lt (length header) 4)

pub general_found : (size : ℕ) (header : List ℕ) (place : ℕ) → HasGeneral size header place
    → general_section size header ≡ Ok place
general_found size header place f = front_gives size place header f.rest General f.passes
    (f.begins, f.long_enough, f.whole)

pub lack_found : (size : ℕ) (header : List ℕ) (fault : HeaderFault) → LacksGeneral size header fault
    → general_section size header ≡ Err fault
lack_found size header TooShort (inl few) =
    cond-true (nat_lt (length header) 4) (Err TooShort) (walk (length header) size 4 (drop 4 header))
    (lt-ltb (length header) 4 few)
lack_found size header TooShort (inr f) = front_gives size f.place header f.rest Small f.passes (f.begins, f.small)
lack_found size header NoGeneralSection f = front_gives size f.0 header [] Ends f.1 refl
lack_found size header SectionOverrun f = front_gives size f.0 header f.1 Cut f.2 f.3
lack_found size header BadName f = absurd f

-- ---- both ways

pub general_law : (size : ℕ) (header : List ℕ) (place : ℕ)
    → (general_section size header
    ≡ Ok place → HasGeneral size header place) × (HasGeneral size header place → general_section size header ≡ Ok place)
general_law size header place = (λ is. rw is at (found size header), general_found size header place)

pub lack_law : (size : ℕ) (header : List ℕ) (fault : HeaderFault)
    → (general_section size header
    ≡ Err fault → LacksGeneral size header fault)
    × (LacksGeneral size header fault → general_section size header ≡ Err fault)
lack_law size header fault = (λ is. rw is at (found size header), lack_found size header fault)
