-- Whole files put back into a hub one after the other: each customer has its own.
use Rattle.njh_keeper.proofs.Words
use Words.{◌≡◌, ◌≢◌, ℕ, ◌+◌, ◌<◌, ◌≤◌, Bool, true, false, cond, List, [], ◌∷◌, ◌++◌, length, map, get_or, slice_set}
use Words.{bytes_eq, Option, Some, None, Result, Ok, Err, refl, sym, ap, subst, ◌∙◌, nat_lt, arith, cases_lt, lt-ltb}
use Words.{get_or-map, get_or-set_same, get_or-set_other, length-map, length-set, bytes_eq-Decides, fold, NameFault}
use Words.{name_of_text, SpoolContents, Whole, kept, AreDistinct, NamedCustomer, TableFile, customer_at, no_customer}
use Words.{Part, no_part, part, part_at_open, NoneFails, hub_fault, hub_with, hub_with_all, number_from, number_of}
use Words.{FileFault, AllAreBack, AreBack, hub_opened, is_name_of, is_own, own_files, part_opened, whole_fault}
use Words.{with_whole}
use Rattle.std.proofs.{Common.{⊎_elim, eqb}, lemmas.Bool.{false_from_ne_true, Decides.eqb_tells}}
use Rattle.std.proofs.lemmas.{Iterator.Adapters.position_from-zero, List.{ext_get_or, Quantifiers.position-Some}}
use Rattle.std.{proofs.lemmas.List.Sums.{fails_before_first, fold-append}, specs.List.position_or_len}
use Rattle.{njh_table.specs.TableFile.entry_of, njh_keeper.specs.Opened.own}

-- ---- a text is one name at most

named_by : (r : Result (List ℕ) NameFault) (name : List ℕ)
    → (elim r [ Ok read ↦ bytes_eq read name | Err fault ↦ false ]) ≡ true → r ≡ Ok name
named_by (Ok read) name is = ap Ok ((bytes_eq-Decides read name).0 is)
named_by (Err fault) name is = absurd (cc is)

pub one_name : (text a b : List ℕ) → is_name_of text a ≡ true → is_name_of text b ≡ true → a ≡ b
one_name text a b first second =
    let same : ◌≡◌ {A = Result (List ℕ) NameFault} (Ok a) (Ok b) =
    sym (named_by (name_of_text text) a first) ∙ named_by (name_of_text text) b second in
    cc

-- ---- the number of the customer that it names

pub found : (names : List (List ℕ)) (text : List ℕ) (c : ℕ) → number_of names text ≡ Some c
    → (c < length names) × (is_name_of text (get_or names c []) ≡ true)
found names text c e =
    let test : List ℕ → Bool = λ name. is_name_of text name in
    let h = position-Some test names c [] (position_from-zero test names ∙ e) in
    (h.0, h.1)

number_missing : (names : List (List ℕ)) (text : List ℕ) → number_of names text ≡ None → (k : ℕ) → k < length names
    → is_name_of text (get_or names k []) ≡ false
number_missing names text e k there =
    let test : List ℕ → Bool = λ name. is_name_of text name in
    let at = position_or_len test names in
    let none : cond (nat_lt at (length names)) (Some at) None ≡ None = position_from-zero test names ∙ e in
    fails_before_first test names k [] (⊎_elim (λ (less : at < length names).
    absurd (let never = sym (ap (λ b. cond b (Some at) None) (lt-ltb at (length names) less)) ∙ none in cc never))
    (λ (high : length names ≤ at). omega (arith, there, high)) (cases_lt at (length names)))

-- a text that is no name is no customer's
pub no_number : (n : ℕ) (names : List (List ℕ)) (text : List ℕ) (fault : NameFault) → name_of_text text ≡ Err fault
    → number_from n names text ≡ None
no_number n [] text fault is = refl
no_number n (name ∷ names) text fault is =
    let other : is_name_of text name ≡ false =
    ap (λ (r : Result (List ℕ) NameFault). elim r as (λ _. Bool) [ Ok read ↦ bytes_eq read name | Err f ↦ false ]) is in
    ap (λ (b : Bool). cond b (Some n) (number_from (n + 1) names text)) other ∙ no_number (n + 1) names text fault is

-- ---- the customers are apart

abbrev pub Apart : List (List ℕ) → Type 0
Apart names = (i j : ℕ) → i < length names → j < length names → get_or names i [] ≡ get_or names j [] → i ≡ j

pub apart : (names : List (List ℕ)) → AreDistinct names → Apart names
apart names distinct i j low high same =
    ⊎_elim (λ (w : i < j). absurd (distinct i j [] w high same))
    (λ (w : j ≤ i). ⊎_elim (λ (v : j < i). absurd (distinct j i [] v low (sym same)))
    (λ (v : i ≤ j). omega (arith, w, v)) (cases_lt j i)) (cases_lt i j)

-- the name of which a text is is that of the customer of the number
pub own_number : (names : List (List ℕ)) (text : List ℕ) (c : ℕ) → Apart names → c < length names
    → is_name_of text (get_or names c []) ≡ true → number_of names text ≡ Some c
own_number names text c distinct there is = split (number_of names text) refl
  where
    split : (o : Option ℕ) → number_of names text ≡ o → number_of names text ≡ Some c
    split None e = absurd (let missing = number_missing names text e c there in cc)
    split (Some d) e =
        let h = found names text d e in
        let same : d ≡ c = distinct d c h.0 there (one_name text (get_or names d []) (get_or names c []) h.1 is) in
        e ∙ ap Some same

-- ---- one file

pub length-hub_with : (names : List (List ℕ)) (parts : List Part) (w : Whole)
    → length (hub_with names parts w) ≡ length parts
length-hub_with names parts w = split (number_of names w.file.customer)
  where
    split : (o : Option ℕ) → length (elim o as (λ _. List Part)
        [ None ↦ parts | Some c ↦ slice_set parts c (with_whole (part c parts) w) ]) ≡ length parts
    split None = refl
    split (Some c) = length-set parts c (with_whole (part c parts) w)

module _ (names : List (List ℕ)) (distinct : Apart names) (c : ℕ) (there : c < length names) where
  abbrev name : List ℕ
  name = get_or names c []

  pub one : (parts : List Part) (w : Whole) → length parts ≡ length names
      → part c (hub_with names parts w) ≡ cond (is_own name w.file) (with_whole (part c parts) w) (part c parts)
  one parts w count = split (number_of names w.file.customer) refl
    where
      split : (o : Option ℕ) → number_of names w.file.customer ≡ o → part c (elim o as (λ _. List Part)
          [ None ↦ parts | Some d ↦ slice_set parts d (with_whole (part d parts) w) ])
          ≡ cond (is_own name w.file) (with_whole (part c parts) w) (part c parts)
      split None e = ap (λ (b : Bool). cond b (with_whole (part c parts) w) (part c parts))
          (sym (number_missing names w.file.customer e c there))
      split (Some d) e = ⊎_elim (λ (v : (eqb c d ≡ true) × (c ≡ d)).
          let is : is_own name w.file ≡ true =
          subst (λ (k : ℕ). is_name_of w.file.customer (get_or names k []) ≡ true) (sym v.1)
          (found names w.file.customer d e).1 in
          ap (λ (k : ℕ). part c (slice_set parts k (with_whole (part k parts) w))) (sym v.1)
          ∙ get_or-set_same parts c (with_whole (part c parts) w) no_part (omega (arith, there, count))
          ∙ ap (λ (b : Bool). cond b (with_whole (part c parts) w) (part c parts)) (sym is))
          (λ (v : (eqb c d ≡ false) × (c ≢ d)). get_or-set_other parts d c (with_whole (part d parts) w) no_part v.1
          ∙ ap (λ (b : Bool). cond b (with_whole (part c parts) w) (part c parts))
          (sym (false_from_ne_true (is_own name w.file) (λ is. v.1
          (let same : ◌≡◌ {A = Option ℕ} (Some d) (Some c) = sym e
          ∙ own_number names w.file.customer c distinct there is in cc))))) (eqb_tells c d)

  -- ---- all files

  with_own : (b : Bool) (p : Part) (w : Whole) (ws : List Whole)
      → fold with_whole (cond b (with_whole p w) p) ws ≡ fold with_whole p (cond b (w ∷ ws) ws)
  with_own true p w ws = refl
  with_own false p w ws = refl

  pub all : (ws : List Whole) (parts : List Part) → length parts ≡ length names
      → part c (hub_with_all names parts ws) ≡ fold with_whole (part c parts) (own name ws)
  all [] parts count = refl
  all (w ∷ ws) parts count =
      all ws (hub_with names parts w) (length-hub_with names parts w ∙ count)
      ∙ ap (λ (p : Part). fold with_whole p (own name ws)) (one parts w count)
      ∙ with_own (is_own name w.file) (part c parts) w (own name ws)

  back_own : (b : Bool) (p : Part) (w : Whole) (ws : List Whole) → (b ≡ true → whole_fault p w ≡ None)
      → AreBack (cond b (with_whole p w) p) ws → AreBack p (cond b (w ∷ ws) ws)
  back_own true p w ws none rest = (none refl, rest)
  back_own false p w ws none rest = rest

  pub back : (ws : List Whole) (parts : List Part) → length parts ≡ length names → NoneFails names parts ws
      → AreBack (part c parts) (own name ws)
  back [] parts count none = tt
  back (w ∷ ws) parts count none =
      back_own (is_own name w.file) (part c parts) w (own name ws)
      (λ is. ap (λ (o : Option ℕ). elim o as (λ _. Option FileFault)
      [ None ↦ None | Some d ↦ whole_fault (part d parts) w ])
      (sym (own_number names w.file.customer c distinct there is)) ∙ none.0)
      (subst (λ (p : Part). AreBack p (own name ws)) (one parts w count)
      (back ws (hub_with names parts w) (length-hub_with names parts w ∙ count) none.1))

pub length-hub_with_all : (names : List (List ℕ)) (parts : List Part) (ws : List Whole)
    → length (hub_with_all names parts ws) ≡ length parts
length-hub_with_all names parts [] = refl
length-hub_with_all names parts (w ∷ ws) =
    length-hub_with_all names (hub_with names parts w) ws ∙ length-hub_with names parts w

-- ---- one more

pub more : (names : List (List ℕ)) (parts : List Part) (ws : List Whole) (w : Whole)
    → hub_with_all names parts (ws ++ w ∷ []) ≡ hub_with names (hub_with_all names parts ws) w
more names parts ws w = fold-append (hub_with names) parts ws (w ∷ [])

pub more-fails : (names : List (List ℕ)) (parts : List Part) (ws : List Whole) (w : Whole) → NoneFails names parts ws
    → hub_fault names (hub_with_all names parts ws) w ≡ None → NoneFails names parts (ws ++ w ∷ [])
more-fails names parts [] w none one = (one, tt)
more-fails names parts (x ∷ ws) w none one = (none.0, more-fails names (hub_with names parts x) ws w none.1 one)

-- ---- a hub that was just opened

module _ (table : TableFile) (distinct : AreDistinct (map (λ c. c.name) table.customers)) where
  abbrev names : List (List ℕ)
  names = map (λ (c : NamedCustomer). c.name) table.customers

  abbrev start : List Part
  start = map part_at_open (map entry_of table.customers)

  pub count : length start ≡ length names
  count =
      length-map (map entry_of table.customers) part_at_open ∙ length-map table.customers entry_of
      ∙ sym (length-map table.customers (λ (c : NamedCustomer). c.name))

  module _ (c : ℕ) (there : c < length table.customers) where
    pub name_is : get_or names c [] ≡ (customer_at table c).name
    name_is = get_or-map (λ (x : NamedCustomer). x.name) table.customers c no_customer [] there

    pub start_is : part c start ≡ part_at_open (entry_of (customer_at table c))
    start_is =
        get_or-map part_at_open (map entry_of table.customers) c (entry_of no_customer) no_part
        (omega (arith, there, length-map table.customers entry_of))
        ∙ ap part_at_open (get_or-map entry_of table.customers c no_customer (entry_of no_customer) there)

    pub low : c < length names
    low = omega (arith, there, length-map table.customers (λ (x : NamedCustomer). x.name))

    pub part_all : (ws : List Whole) → part c (hub_with_all names start ws) ≡ part_opened
        (entry_of (customer_at table c)) (own (customer_at table c).name ws)
    part_all ws =
        all names (apart names distinct) c low ws start count ∙ (λ i. fold with_whole (start_is i) (own (name_is i) ws))

    pub back_all : (ws : List Whole) → NoneFails names start ws
        → AreBack (part_at_open (entry_of (customer_at table c))) (own (customer_at table c).name ws)
    back_all ws none =
        let h = back names (apart names distinct) c low ws start count none in
        let P : Part → List ℕ → Type 0 = λ p n. AreBack p (own n ws) in
        subst (λ (n : List ℕ). P (part_at_open (entry_of (customer_at table c))) n) name_is
        (subst (λ (p : Part). P p (get_or names c [])) start_is h)

  pub opened : (spool : SpoolContents) → hub_with_all names start (kept spool) ≡ hub_opened table spool
  opened spool =
      let F : NamedCustomer → Part = λ x. part_opened (entry_of x) (own_files x.name spool) in
      let long = length-hub_with_all names start (kept spool) in
      ext_get_or no_part (hub_with_all names start (kept spool)) (hub_opened table spool)
      (long ∙ count ∙ length-map table.customers (λ (x : NamedCustomer). x.name) ∙ sym (length-map table.customers F))
      (λ (c : ℕ) (within : c < length (hub_with_all names start (kept spool))).
      let there : c < length table.customers =
      omega (arith, within, long, count, length-map table.customers (λ (x : NamedCustomer). x.name)) in
      part_all c there (kept spool) ∙ sym (get_or-map F table.customers c no_customer no_part there))

  pub all_back : (ws : List Whole) → NoneFails names start ws → AllAreBack table ws
  all_back ws none c there = back_all c there ws none

-- ---- a customer's part

pub own_decide : (table other : TableFile) (spool others : SpoolContents) (c d : ℕ) → c < length table.customers
    → d < length other.customers → entry_of (customer_at table c) ≡ entry_of (customer_at other d)
    → own_files (customer_at table c).name spool ≡ own_files (customer_at other d).name others
    → part c (hub_opened table spool) ≡ part d (hub_opened other others)
own_decide table other spool others c d there is_there entries files =
    get_or-map (λ (x : NamedCustomer). part_opened (entry_of x) (own_files x.name spool)) table.customers c no_customer
    no_part there ∙ (λ i. part_opened (entries i) (files i))
    ∙ sym (get_or-map (λ (x : NamedCustomer). part_opened (entry_of x) (own_files x.name others)) other.customers d
    no_customer no_part is_there)
