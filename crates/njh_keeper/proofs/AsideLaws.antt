-- The mark of a whole file that is set aside, and what comes of whole files that are tried one after the other.
use Rattle.njh_keeper.proofs.Words
use Words.{◌≡◌, ℕ, ◌==◌, Bool, true, false, cond, List, [], ◌∷◌, ◌++◌, drop, length, map, is_some, option_map, Option}
use Words.{Some, None}
use Words.{Result, Ok, Err, refl, sym, ap, ◌∙◌, bytes_eq, cases_Bool, nat_lt, NameFault, name_of_text, File, inl, inr}
use Words.{SpoolContents, Whole, contents_in, kept, records_of, whole_in, Part, part, NoneFails, hub_fault, hub_with}
use Words.{hub_with_all, number_of, FileFault, is_name_of, whole_fault, with_whole, slice_set}
use Rattle.std.proofs.{Common.{◌≢◌, Bor, MatchOption}, lemmas.Bool.false_from_ne_true}
use Rattle.std.specs.{List.cons_option, Str.chars}
use Rattle.njh_ebcdic.specs.Characters.{byte_of_character, byte_or_blank, bytes_or_blanks}
use Rattle.njh_ebcdic.specs.{Reading.name_of_word, declared.name.NameFault.TheVariants.{BadCharacter, TooLong}}
use Rattle.njh_keeper.proofs.{HubLaws.no_number, NumberedLaws.equal_to}
use Rattle.njh_keeper.specs.{Refusal.Refusal, SetAside.{all_tried, file_aside, file_taken_up, is_aside}}
use Rattle.njh_keeper.specs.SetAside.{refusal, refusals, row_of, row_tried, set_aside, spool_with, taken_up, tried}
use Rattle.njh_keeper.specs.SetAside.{whole_taken_up}

-- ---- the mark is in no name

first_character : (rest : List ℕ) → (more : List ℕ) × (chars (33 ∷ rest) ≡ 33 ∷ more)
unfolding chars
first_character [] = ([], refl)
first_character (b ∷ rest) = (chars (b ∷ rest), refl)

no_byte : byte_or_blank 33 ≡ 64
unfolding byte_of_character
no_byte = refl

abbrev failed : NameFault → Result (List ℕ) NameFault
failed fault = Err fault

no_word : (more : List ℕ) → (fault : NameFault) × (name_of_word (64 ∷ more) ≡ Err fault)
no_word more = by (nat_lt 8 (length (64 ∷ more)))
  where
    by : (b : Bool) → (fault : NameFault) × (cond b (Err TooLong) (Err BadCharacter) ≡ failed fault)
    by true = (TooLong, refl)
    by false = (BadCharacter, refl)

no_name : (text : List ℕ) → is_aside text ≡ true → (fault : NameFault) × (name_of_text text ≡ Err fault)
no_name [] marked = absurd (cc marked)
no_name (c ∷ rest) marked =
    let first = first_character rest in
    let word = no_word (bytes_or_blanks first.0) in (
      word.0,
      ap (λ x. name_of_text (x ∷ rest)) (equal_to c 33 marked)
          ∙ ap (λ cs. name_of_word (bytes_or_blanks cs)) first.1
          ∙ ap (λ b. name_of_word (b ∷ bytes_or_blanks first.0)) no_byte ∙ word.1,
    )

pub aside_owned : (name text : List ℕ) → is_aside text ≡ true → is_name_of text name ≡ false
aside_owned name text marked = ap (λ (r : Result (List ℕ) NameFault). elim r as (λ _. Bool)
    [ Ok read ↦ bytes_eq read name | Err f ↦ false ]) (no_name text marked).1

pub aside_number : (names : List (List ℕ)) (text : List ℕ) → is_aside text ≡ true → number_of names text ≡ None
aside_number names text marked = let fault = no_name text marked in no_number 0 names text fault.0 fault.1

pub unmarked_is : (text : List ℕ) → is_aside text ≡ false → taken_up text ≡ text
unmarked_is text plain = ap (λ b. cond b (drop 1 text) text) plain

pub owned_is : (name text : List ℕ) → is_name_of text name ≡ true → taken_up text ≡ text
owned_is name text owned = elim (cases_Bool (is_aside text)) [
  | inl marked ↦ absurd (let never = sym (aside_owned name text marked) ∙ owned in cc never)
  | inr plain ↦ unmarked_is text plain
]

-- ---- whether a text has it

no_mark : (text : List ℕ) → ((rest : List ℕ) → text ≢ 33 ∷ rest) → is_aside text ≡ false
no_mark [] none = refl
no_mark (c ∷ rest) none =
    false_from_ne_true (c == 33) (λ is. none rest (ap (λ x. x ∷ rest) (equal_to c 33 is)))

pub mark_seen : (text : List ℕ) (found : Option (Bor (List ℕ)))
    → MatchOption found ((rest : List ℕ) → text ≢ 33 ∷ rest) (λ name. text ≡ 33 ∷ name.now)
    → is_some found ≡ is_aside text
mark_seen text None none = sym (no_mark text none)
mark_seen text (Some name) is = sym (ap is_aside is)

pub no_mark_is : (text : List ℕ) → ((rest : List ℕ) → text ≢ 33 ∷ rest) → text ≡ taken_up text
no_mark_is text none = sym (unmarked_is text (no_mark text none))

pub marked_is : (text : List ℕ) → is_aside text ≡ true → set_aside text ≡ text
marked_is [] marked = absurd (cc marked)
marked_is (c ∷ rest) marked =
    ap (λ b. 33 ∷ cond b rest (c ∷ rest)) marked ∙ ap (λ x. x ∷ rest) (sym (equal_to c 33 marked))

-- ---- one file is tried

without : (names : List (List ℕ)) (parts : List Part) (w : Whole) → number_of names w.file.customer ≡ None
    → hub_with names parts w ≡ parts
without names parts w none = ap (λ (o : Option ℕ). elim o as (λ _. List Part)
    [ None ↦ parts | Some c ↦ slice_set parts c (with_whole (part c parts) w) ]) none

sound : (names : List (List ℕ)) (parts : List Part) (w : Whole) → number_of names w.file.customer ≡ None
    → hub_fault names parts w ≡ None
sound names parts w none = ap (λ (o : Option ℕ). elim o as (λ _. Option FileFault)
    [ None ↦ None | Some c ↦ whole_fault (part c parts) w ]) none

module _ (names : List (List ℕ)) (parts : List Part) (w : Whole) where
  abbrev number : Option ℕ
  number = number_of names (taken_up w.file.customer)

  abbrev fault : Option FileFault
  fault = hub_fault names parts (whole_taken_up w)

  abbrev at : Option ℕ → Option FileFault → Whole
  at a f = record w { file = row_tried (is_some a) (is_some f) w.file }

  tried_is : (a : Option ℕ) (f : Option FileFault) → number ≡ a → fault ≡ f → tried names parts w ≡ at a f
  tried_is a f is fails = λ i. at (is i) (fails i)

  pub foreign_fault : number ≡ None → fault ≡ None
  foreign_fault none = sound names parts (whole_taken_up w) none

  foreign_number : number ≡ None → number_of names w.file.customer ≡ None
  foreign_number none = elim (cases_Bool (is_aside w.file.customer)) [
    | inl marked ↦ aside_number names w.file.customer marked
    | inr plain ↦ ap (number_of names) (sym (unmarked_is w.file.customer plain)) ∙ none
  ]

  pub tried_foreign : number ≡ None → tried names parts w ≡ w
  tried_foreign none = tried_is None None none (foreign_fault none)

  pub tried_back : (c : ℕ) → number ≡ Some c → fault ≡ None → tried names parts w ≡ whole_taken_up w
  tried_back c is none = tried_is (Some c) None is none

  pub tried_aside : (c : ℕ) (why : FileFault) → number ≡ Some c → fault ≡ Some why
      → tried names parts w ≡ record w { file = file_aside w.file }
  tried_aside c why is fails = tried_is (Some c) (Some why) is fails

  aside_is : number_of names (set_aside w.file.customer) ≡ None
  aside_is = aside_number names (set_aside w.file.customer) refl

  pub hub_foreign : number ≡ None → hub_with names parts (tried names parts w) ≡ parts
  hub_foreign none = ap (hub_with names parts) (tried_foreign none) ∙ without names parts w (foreign_number none)

  pub hub_back : (c : ℕ) → number ≡ Some c → fault ≡ None
      → hub_with names parts (tried names parts w) ≡ hub_with names parts (whole_taken_up w)
  hub_back c is none = ap (hub_with names parts) (tried_back c is none)

  pub hub_aside : (c : ℕ) (why : FileFault) → number ≡ Some c → fault ≡ Some why
      → hub_with names parts (tried names parts w) ≡ parts
  hub_aside c why is fails =
      ap (hub_with names parts) (tried_aside c why is fails)
      ∙ without names parts (record w { file = file_aside w.file }) aside_is

  abbrev told : FileFault → Refusal
  told why = record { id = w.id; file = file_taken_up w.file; fault = why }

  pub refusal_none : fault ≡ None → refusal names parts w ≡ None
  refusal_none none = ap (option_map told) none

  pub refusal_some : (why : FileFault) → fault ≡ Some why → refusal names parts w ≡ Some (told why)
  refusal_some why fails = ap (option_map told) fails

  never_fails : hub_fault names parts (tried names parts w) ≡ None
  never_fails = by number refl fault refl
    where
      by : (a : Option ℕ) → number ≡ a → (f : Option FileFault) → fault ≡ f
          → hub_fault names parts (tried names parts w) ≡ None
      by None is f fails = ap (hub_fault names parts) (tried_foreign is) ∙ sound names parts w (foreign_number is)
      by (Some c) is None fails = ap (hub_fault names parts) (tried_back c is fails) ∙ fails
      by (Some c) is (Some why) fails = ap (hub_fault names parts) (tried_aside c why is fails)
          ∙ sound names parts (record w { file = file_aside w.file }) aside_is

-- ---- one after the other

pub tried_more : (names : List (List ℕ)) (parts : List Part) (ws : List Whole) (w : Whole)
    → all_tried names parts (ws ++ w ∷ [])
    ≡ all_tried names parts ws ++ tried names (hub_with_all names parts (all_tried names parts ws)) w ∷ []
tried_more names parts [] w = refl
tried_more names parts (x ∷ ws) w =
    ap (λ vs. tried names parts x ∷ vs) (tried_more names (hub_with names parts (tried names parts x)) ws w)

with_more : (o : Option Refusal) (xs ys : List Refusal) → cons_option o (xs ++ ys) ≡ cons_option o xs ++ ys
with_more None xs ys = refl
with_more (Some x) xs ys = refl

-- at one of them
pub refused_at : (names : List (List ℕ)) (parts : List Part) (ws : List Whole) (w : Whole) (vs : List Whole)
    → refusals names parts (ws ++ w ∷ vs)
    ≡ refusals names parts ws ++ refusals names (hub_with_all names parts (all_tried names parts ws)) (w ∷ vs)
refused_at names parts [] w vs = refl
refused_at names parts (x ∷ ws) w vs =
    let now = hub_with names parts (tried names parts x) in
    ap (cons_option (refusal names parts x)) (refused_at names now ws w vs)
    ∙ with_more (refusal names parts x) (refusals names now ws)
    (refusals names (hub_with_all names now (all_tried names now ws)) (w ∷ vs))

pub none_fails : (names : List (List ℕ)) (parts : List Part) (ws : List Whole)
    → NoneFails names parts (all_tried names parts ws)
none_fails names parts [] = tt
none_fails names parts (w ∷ ws) =
    (never_fails names parts w, none_fails names (hub_with names parts (tried names parts w)) ws)

-- ---- as they stand in a spool

pub key_tried : (is fails : Bool) (file : File) → (row_tried is fails file).key ≡ file.key
key_tried false fails file = refl
key_tried true false file = refl
key_tried true true file = refl

pub wholes_tried : (names : List (List ℕ)) (parts : List Part) (spool : SpoolContents) (es : List (ℕ × File))
    → map (whole_in spool) (map row_of (all_tried names parts (map (whole_in spool) es)))
    ≡ all_tried names parts (map (whole_in spool) es)
wholes_tried names parts spool [] = refl
wholes_tried names parts spool (e ∷ es) =
    let w = whole_in spool e in
    let now = tried names parts w in
    let key = key_tried (is_some (number_of names (taken_up e.1.customer)))
    (is_some (hub_fault names parts (whole_taken_up w))) e.1 in
    λ i. record { id = e.0; file = now.file; records = contents_in (records_of (key i) spool) }
    ∷ wholes_tried names (hub_with names parts now) spool es i

pub kept_tried : (names : List (List ℕ)) (parts : List Part) (spool : SpoolContents)
    → kept (spool_with (all_tried names parts (kept spool)) spool) ≡ all_tried names parts (kept spool)
kept_tried names parts spool = wholes_tried names parts spool spool.files
