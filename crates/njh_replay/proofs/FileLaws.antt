-- The lines of files, one after another.
use Rattle.std.proofs.Common.{◌≡◌, ◌+◌, ◌<◌, ◌≤◌, ℕ, zero, suc, true, List, [], ◌∷◌, ◌++◌, length, get_or, take, drop}
use Rattle.std.proofs.Common.{Option, Some, refl, sym, ap, ◌∙◌, append_assoc, append-nil, arith, map, ltb}
use Rattle.std.proofs.Common.{ltb-true, eqb, find, take_all, unwrap_or}
use Rattle.std.specs.List.{flat_map, list_all}
use Rattle.std.specs.Option.{option_map}
use Rattle.std.specs.Io.KnownBytes.{Appends}
use Rattle.std.proofs.KnownBytes.{Appends-trans}
use Rattle.std.proofs.lemmas.Bool.{and_parts, cond_both}
use Rattle.std.proofs.lemmas.List.{take_more}
use Rattle.std.proofs.lemmas.List.Concat.{flat_map-append}
use Rattle.njh_ebcdic.specs.Characters.{character_of, printed_character, table}
use Rattle.njh_spool.specs.CustomerSpool.{WholeFile}
use Rattle.njh_hub.specs.declared.event.Event.{Event}
use Rattle.njh_hub.specs.Files.{files_at, view_of_file}
use Rattle.njh_hub.specs.Views.{file_summary}
use Rattle.njh_hub.specs.WholeHub.{Part, hub_run}
use Rattle.njh_io.specs.Written.{AppendsBeginning}
use Rattle.njh_replay.specs.Printed.{file_text, files_from, files_text, replies_text, run_text, summary_text, told_line}
use Rattle.njh_replay.specs.Replayed.{text_by}
use Rattle.njh_replay.proofs.PrintedParts.{beginning-after}

-- what is shown is of ASCII
found-ascii : (byte : ℕ) (pairs : List (ℕ × ℕ)) → list_all (λ (pair : ℕ × ℕ). ltb pair.1 128) pairs ≡ true
    → unwrap_or (option_map (λ (pair : ℕ × ℕ). pair.1) (find (λ (pair : ℕ × ℕ). eqb pair.0 byte) pairs)) 63 < 128
found-ascii byte [] ascii = omega arith
found-ascii byte (pair ∷ pairs) ascii =
    let parts = and_parts (ltb pair.1 128) (list_all (λ (pair : ℕ × ℕ). ltb pair.1 128) pairs) ascii in
    cond_both (eqb pair.0 byte) (Some pair) (find (λ (pair : ℕ × ℕ). eqb pair.0 byte) pairs)
    (λ found. unwrap_or (option_map (λ (pair : ℕ × ℕ). pair.1) found) 63 < 128)
    (λ here. ltb-true pair.1 128 parts.0) (λ other. found-ascii byte pairs parts.1)

pub shown-ascii : (byte : ℕ) → printed_character byte < 128
unfolding character_of
shown-ascii byte = found-ascii byte table refl

-- the items before one, that one, and those after it
pub flat_map-split : {X : Type 0} (f : X → List ℕ) (xs : List X) (i : ℕ) (none : X) → i < length xs
    → flat_map f (take i xs) ++ (f (get_or xs i none) ++ flat_map f (drop (suc i) xs)) ≡ flat_map f xs
flat_map-split f [] i none within = absurd (omega (arith, within))
flat_map-split f (y ∷ xs) zero none within = refl
flat_map-split f (y ∷ xs) (suc i) none within =
    append_assoc (f y) (flat_map f (take i xs)) (f (get_or xs i none) ++ flat_map f (drop (suc i) xs))
    ∙ ap (λ text. f y ++ text) (flat_map-split f xs i none (omega (arith, within)))

-- a file's line, by what is shown of it without its records
abbrev pub line_text : List ℕ → WholeFile → List ℕ
line_text name f = summary_text name (file_summary f)

line-same : (name : List ℕ) (f : WholeFile) → line_text name f ≡ file_text name (view_of_file f)
unfolding summary_text file_text
line-same name f = refl

pub lines-same : (name : List ℕ) (whole : List WholeFile)
    → flat_map (line_text name) whole ≡ files_text name (map view_of_file whole)
lines-same name [] = refl
lines-same name (f ∷ whole) =
    ap (λ (text : List ℕ). text ++ flat_map (line_text name) whole) (line-same name f)
    ∙ ap (λ (text : List ℕ). file_text name (view_of_file f) ++ text) (lines-same name whole)

-- the same of customers, the first of which has the number c
pub files_from-more : (c k : ℕ) (names : List (List ℕ)) (parts : List Part) (i : ℕ) (name : List ℕ) → i < length names
    → name ≡ get_or names i name → k ≡ c + i
    → files_from c (take i names) parts ++ files_text name (files_at k parts) ≡ files_from c (take (suc i) names) parts
files_from-more c k [] parts i name within is at = absurd (omega (arith, within))
files_from-more c k (n ∷ names) parts zero name within is at =
    let here : k ≡ c = omega (arith, at) in
    ap (λ z. files_text z (files_at k parts)) is ∙ ap (λ z. files_text n (files_at z parts)) here
    ∙ sym (append-nil (files_text n (files_at c parts)))
files_from-more c k (n ∷ names) parts (suc i) name within is at =
    append_assoc (files_text n (files_at c parts)) (files_from (c + 1) (take i names) parts)
    (files_text name (files_at k parts))
    ∙ ap (λ text. files_text n (files_at c parts) ++ text)
    (files_from-more (c + 1) k names parts i name (omega (arith, within)) is (omega (arith, at)))

pub files_from-split : (c : ℕ) (names : List (List ℕ)) (parts : List Part) (i : ℕ)
    → (rest : List ℕ) × (files_from c (take i names) parts ++ rest ≡ files_from c names parts)
files_from-split c names parts zero = (files_from c names parts, refl)
files_from-split c [] parts (suc i) = ([], refl)
files_from-split c (n ∷ names) parts (suc i) =
    let later = files_from-split (c + 1) names parts i in (
      later.0,
      append_assoc (files_text n (files_at c parts)) (files_from (c + 1) (take i names) parts) later.0
          ∙ ap (λ text. files_text n (files_at c parts) ++ text) later.1,
    )

-- ---- frames and replies, and then files

module _ (names : List (List (List ℕ))) (parts after : List Part) (events : List Event) (shown : List (List ℕ))
    (a b c : Option (List ℕ)) (same : after ≡ (hub_run parts events).parts) where
  pub all_printed : Appends a b (run_text names shown parts events) → Appends b c (files_from 0 shown after)
      → Appends a c (text_by names parts events shown)
  all_printed run files =
      Appends-trans a b c (run_text names shown parts events) (files_from 0 shown (hub_run parts events).parts) run
      (rw same at files)

  pub files_begun : Appends a b (run_text names shown parts events) → AppendsBeginning b c (files_from 0 shown after)
      → AppendsBeginning a c (text_by names parts events shown)
  files_begun run files =
      beginning-after a b c (run_text names shown parts events) (files_from 0 shown after) []
      (text_by names parts events shown) run files
      (ap (λ text. run_text names shown parts events ++ text)
      (append-nil (files_from 0 shown after) ∙ ap (files_from 0 shown) same))

pub run_begun : (names : List (List (List ℕ))) (parts : List Part) (events : List Event) (shown : List (List ℕ))
    (a b : Option (List ℕ))
    → AppendsBeginning a b (run_text names shown parts events)
    → AppendsBeginning a b (text_by names parts events shown)
run_begun names parts events shown a b begun =
    let files = files_from 0 shown (hub_run parts events).parts in
    (begun.0, begun.1 ++ files, sym (append_assoc begun.0 begun.1 files) ∙ ap (λ text. text ++ files) begun.2, begun.3)

-- the texts of items that are seen as others
pub flat_map-map : {X Y : Type 0} (f : Y → List ℕ) (g : X → Y) (xs : List X)
    → flat_map (λ x. f (g x)) xs ≡ flat_map f (map g xs)
flat_map-map f g [] = refl
flat_map-map f g (x ∷ xs) = ap (λ (text : List ℕ). f (g x) ++ text) (flat_map-map f g xs)

-- replies: those before one, the text of that one, and those behind it
module _ {X : Type 0} (name : List ℕ) (items : X → List ℕ) (xs : List X) where
  abbrev line_of_reply : X → List ℕ
  line_of_reply x = told_line name (items x)

  pub replies-split : (i : ℕ) (one : X) (text : List ℕ) → i < length xs → one ≡ get_or xs i one
      → text ≡ told_line name (items one)
      → flat_map (λ x. told_line name (items x)) (take i xs)
      ++ (text ++ flat_map (λ x. told_line name (items x)) (drop (suc i) xs))
      ≡ replies_text name (map items xs)
  replies-split i one text within is line =
      ap (λ (t : List ℕ). flat_map line_of_reply (take i xs) ++ (t ++ flat_map line_of_reply (drop (suc i) xs)))
      (line ∙ ap line_of_reply is)
      ∙ flat_map-split line_of_reply xs i one within ∙ flat_map-map (told_line name) items xs

  pub replies-more : (i : ℕ) (one : X) (text : List ℕ) → i < length xs → one ≡ get_or xs i one
      → text ≡ told_line name (items one)
      → flat_map (λ x. told_line name (items x)) (take i xs) ++ text
      ≡ flat_map (λ x. told_line name (items x)) (take (i + 1) xs)
  replies-more i one text within is line =
      ap (λ (t : List ℕ). flat_map line_of_reply (take i xs) ++ t)
      (line ∙ ap line_of_reply is ∙ sym (append-nil (line_of_reply (get_or xs i one))))
      ∙ sym (flat_map-append line_of_reply (take i xs) (get_or xs i one ∷ []))
      ∙ ap (flat_map line_of_reply) (sym (take_more xs i one within))

  -- all of them
  pub replies-all : (i : ℕ) → length xs ≤ i
      → flat_map (λ x. told_line name (items x)) (take i xs) ≡ replies_text name (map items xs)
  replies-all i all =
      ap (flat_map line_of_reply) (take_all i xs all) ∙ flat_map-map (told_line name) items xs
