-- What the opening of a hub leaves of the customers' whole files, whether it comes to an end or not.
use Rattle.njh_keeper.proofs.Words
use Words.{◌≡◌, ◌≢◌, ◌⊎◌, inl, inr, ℕ, zero, suc, ◌<◌, true, false, List, [], ◌∷◌, length, bytes_eq, filter_map}
use Words.{map, sym, subst, ◌∙◌, arith, cases_Bool, bytes_eq-Decides, AllZip, Survives}
use Words.{contents_in, File, filter, map-map, Option, records_of, SpoolContents, Whole, kept, TableFile, KeptFile}
use Words.{Part}
use Words.{AllAreBack, AllAreFound, AreRemembered, clean_before, entries, file_in, HasCleanDisk, Holds, hub_opened}
use Words.{is_own, Leads, left_in, name_at, own_files, own_rows, OwnFiles, State, Stays, StoredFile, survives_both}
use Words.{whole_in, ap, without_keys}
use Rattle.sqlite.proofs.StateLemmas.{survives_then}
use Rattle.njh_keeper.proofs.{KnownLaws.stood_still, OpeningBegun.is_written}
use Rattle.njh_keeper.proofs.KeptAside.{alike_equal, AreKeptAlike, kept_rows, read_ever, taken_up_same}
use Rattle.njh_keeper.proofs.{OpeningFound.all_alike, RowLaws.{is_ordered, own_files_are}}
use Rattle.njh_keeper.specs.Keeper.{AreStillKept, IsStillKept, KeepsAll}
use Rattle.njh_keeper.specs.{code.Opening.{IsWritten, MayBegin, RememberingAll}, SetAside.{all_taken_up, file_taken_up}}
use Rattle.njh_keeper.specs.SetAside.{fresh_hub, names_in, spool_tried}
use Rattle.njh_keeper.specs.code.Writing.{LackUnused}

-- ---- on the way

pub begun_commits : (files : List StoredFile) (names : List (List ℕ)) (hub : List Part) (owns : List OwnFiles)
    (old first second new : State) → length owns ≡ length names
    → (HasCleanDisk first → (s : SpoolContents) → Holds s old.now.trees → entries files ≡ s.files)
    → (HasCleanDisk first → Stays old first)
    → (AllAreFound names hub → HasCleanDisk second
    → Leads (RememberingAll names hub (entries files) owns) first second)
    → Survives old first (λ _. ⊥) → Survives first second (λ _. ⊥) → Survives second new (LackUnused files second)
    → Survives old new (MayBegin names hub old)
begun_commits files names hub owns old first second new long read stays led one two three =
    survives_then old second new (λ _. ⊥) (LackUnused files second) (MayBegin names hub old)
    (λ clean db none. absurd none)
    (λ clean db made s stands distinct found reads.
    let clean_second = clean_before three clean in
    let clean_first = clean_before two clean_second in
    let rows = read clean_first s.now stands.now in
    let moved = (led found clean_second).leads s (stood_still s old first (stays clean_first) stands) in
    let all : AreRemembered names hub owns s.now moved.0 =
    moved.2 (is_ordered s.now old.now.trees stands.now) rows distinct reads in (
      without_keys made.0 moved.0,
      made.2 (record s { now = moved.0 }) moved.1,
      is_written files names hub owns s.now moved.0 rows long all made.0 made.1,
    ))
    (survives_both one two) three

-- ---- customer by customer

no_place : (name other : List ℕ) (names : List (List ℕ)) → bytes_eq other name ≡ false
    → ((c : ℕ) → c < length names → name_at names c ≢ name) → (c : ℕ) → c < length (other ∷ names)
    → name_at (other ∷ names) c ≢ name
no_place name other names differs none zero low is =
    absurd (let never : true ≡ false = sym ((bytes_eq-Decides other name).1 is) ∙ differs in cc)
no_place name other names differs none (suc c) low is = none c (omega (arith, low)) is

-- at which place a name is, if at one
place_of : (name : List ℕ) (names : List (List ℕ)) → ((c : ℕ) × (c < length names) × (name_at names c ≡ name))
    ⊎ ((c : ℕ) → c < length names → name_at names c ≢ name)
place_of name [] = inr (λ c low is. absurd (omega (arith, low)))
place_of name (other ∷ names) = elim (cases_Bool (bytes_eq other name)) [
  | inl same ↦ inl (0, omega arith, (bytes_eq-Decides other name).0 same)
  | inr differs ↦ elim (place_of name names) [
    | inl found ↦ inl (suc found.0, omega (arith, found.1), found.2)
    | inr none ↦ inr (no_place name other names differs none)
  ]
]

module _ (table : TableFile) (began t : SpoolContents) (names : List (List ℕ)) (hub : List Part)
    (are : names ≡ map (λ c. c.name) table.customers) (hub_is : hub ≡ hub_opened table (spool_tried table began))
    (back : AllAreBack table (kept (spool_tried table began)))
    (written : IsWritten names hub (spool_tried table began) t) where
  abbrev s : SpoolContents
  s = spool_tried table began

  abbrev read : Whole → Option KeptFile
  read w = file_in w.file w.records

  abbrev row : SpoolContents → ℕ × File → Option KeptFile
  row spool e = file_in e.1 (contents_in (records_of e.1.key spool))

  alike : (name : List ℕ) → AllZip (λ e f. AreKeptAlike (row s e) (row t f)) (own_rows name s) (own_rows name t)
  alike name = elim (place_of name names) [
    | inl found ↦ subst (λ n. AllZip (λ e f. AreKeptAlike (row s e) (row t f)) (own_rows n s) (own_rows n t)) found.2
        (all_alike table s back names are found.0 found.1 t (subst (λ ps. IsWritten names ps s t) hub_is written))
    | inr none ↦ alike_equal (row s) (row t) (own_rows name s) (own_rows name t)
        (sym (map-map read (whole_in t) (own_rows name t))
        ∙ ap (map read) (sym (own_files_are name t) ∙ written.others name none ∙ own_files_are name s)
        ∙ map-map read (whole_in s) (own_rows name s))
  ]

  one : (name : List ℕ)
      → AllZip IsStillKept (filter_map read (own_files name (all_taken_up s)))
      (filter_map read (own_files name (all_taken_up t)))
  one name =
      subst (λ fs. AllZip IsStillKept fs (filter_map read (own_files name (all_taken_up t)))) (sym (read_ever s name))
      (subst (λ fs. AllZip IsStillKept (filter_map (row s) (filter (λ e. is_own name (file_taken_up e.1)) s.files)) fs)
      (sym (read_ever t name))
      (kept_rows s t name s.files t.files written.still written.records (alike name)))

  all_of_them : KeepsAll s t
  all_of_them [] = tt
  all_of_them (name ∷ more) = (one name, all_of_them more)

  pub keeps_all : KeepsAll began t
  keeps_all who = subst (λ u. AreStillKept (left_in who u) (left_in who (all_taken_up t)))
      (taken_up_same (names_in table) (fresh_hub table) began) (all_of_them who)
