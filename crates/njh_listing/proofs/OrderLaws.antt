-- The order in which files are listed.
use Rattle.std.proofs.Common.{◌≡◌, ℕ, ◌+◌, ◌<◌, Bool, true, false, cond, List, [], ◌∷◌, ◌++◌, map, take, length, get_or}
use Rattle.std.proofs.Common.{Some, refl, sym, ap, subst, ◌∙◌, append-nil, append_assoc, option_map}
use Rattle.std.specs.Prelude.{◌||◌, slice_get, string_bytes}
use Rattle.std.specs.List.{list_any}
use Rattle.std.proofs.lemmas.List.{map-append, take-map, take_more}
use Rattle.std.proofs.lemmas.List.Elements.{filter-append}
use Rattle.std.proofs.lemmas.Option.{slice_get-map, slice_get-get_or}
use Rattle.njh_spoolfile.specs.Kept.{File, entry_of}
use Rattle.njh_spoolfile.specs.declared.kept.StoredFile.{StoredFile}
use Rattle.njh_listing.specs.Listed.{files_of, first_files, first_files_of, has_customer, is_of}

list_any-map : {X Y : Type 0} (p : Y → Bool) (g : X → Y) (xs : List X)
    → list_any (λ x. p (g x)) xs ≡ list_any p (map g xs)
list_any-map p g [] = refl
list_any-map p g (x ∷ xs) = ap (λ b. p (g x) || b) (list_any-map p g xs)

-- the entries of one file more
entries_more : (files : List StoredFile) (at : ℕ) (s : StoredFile) → at < length files → s ≡ get_or files at s
    → map entry_of (take (at + 1) files) ≡ map entry_of (take at files) ++ entry_of s ∷ []
entries_more files at s within got =
    ap (map entry_of) (take_more files at s within) ∙ map-append entry_of (take at files) (get_or files at s ∷ [])
    ∙ ap (λ (y : StoredFile). map entry_of (take at files) ++ entry_of y ∷ []) (sym got)

-- one file more, whether it is the customer's or not
pub own_more : (customer : List ℕ) (files : List StoredFile) (at : ℕ) (s : StoredFile) (first old new : List (ℕ × File))
    → at < length files → s ≡ get_or files at s
    → old ≡ first ++ files_of customer (map entry_of (take at files))
    → new ≡ old ++ cond (is_of customer (entry_of s)) (entry_of s ∷ []) []
    → new ≡ first ++ files_of customer (map entry_of (take (at + 1) files))
own_more customer files at s first old new within got before is =
    let es = map entry_of (take at files) in
    let one = cond (is_of customer (entry_of s)) (entry_of s ∷ []) [] in
    is ∙ ap (λ ys. ys ++ one) before ∙ append_assoc first (files_of customer es) one
    ∙ ap (λ ys. first ++ ys)
    (sym (ap (files_of customer) (entries_more files at s within got)
    ∙ filter-append (is_of customer) es (entry_of s ∷ [])))

-- a file at a place, and whether its customer has an earlier one
first_is : (files : List StoredFile) (at : ℕ) (s : StoredFile) → slice_get files at ≡ Some s
    → first_files at (map entry_of files)
    ≡ cond (list_any (λ x. is_of (string_bytes s.file.customer) (entry_of x)) (take at files)) []
    (files_of (string_bytes s.file.customer) (map entry_of files))
unfolding first_files
first_is files at s here =
    let all = map entry_of files in
    let who = string_bytes s.file.customer in
    let got : slice_get all at ≡ Some (entry_of s) =
    slice_get-map entry_of files at ∙ ap (λ o. option_map entry_of o) here in
    let seen : has_customer who (take at all) ≡ list_any (λ x. is_of who (entry_of x)) (take at files) =
    ap (λ es. has_customer who es) (take-map entry_of at files)
    ∙ sym (list_any-map (is_of who) entry_of (take at files)) in
    ap (λ o. first_files_of all (take at all) o) got ∙ ap (λ b. cond b [] (files_of who all)) seen

at_is : (files : List StoredFile) (at : ℕ) (s : StoredFile) → at < length files → s ≡ get_or files at s
    → slice_get files at ≡ Some s
at_is files at s within got = slice_get-get_or files at s within ∙ ap (λ (x : StoredFile). Some x) (sym got)

pub first_none : (files : List StoredFile) (at : ℕ) (s : StoredFile) (who : List ℕ) (front : List (ℕ × File))
    → at < length files
    → s ≡ get_or files at s
    → who ≡ string_bytes s.file.customer
    → list_any (λ x. is_of who (entry_of x)) (take at files) ≡ true
    → front ≡ front ++ first_files at (map entry_of files)
first_none files at s who front within got is seen =
    let P : List ℕ → Type 0 = λ w. list_any (λ x. is_of w (entry_of x)) (take at files) ≡ true in
    let none : first_files at (map entry_of files) ≡ [] =
    first_is files at s (at_is files at s within got)
    ∙ ap (λ b. cond b [] (files_of (string_bytes s.file.customer) (map entry_of files))) (subst P is seen) in
    sym (ap (λ es. front ++ es) none ∙ append-nil front)

pub first_all : (files : List StoredFile) (at : ℕ) (s : StoredFile) (who : List ℕ) → at < length files
    → s ≡ get_or files at s
    → who ≡ string_bytes s.file.customer
    → list_any (λ x. is_of who (entry_of x)) (take at files) ≡ false
    → files_of who (map entry_of files) ≡ first_files at (map entry_of files)
first_all files at s who within got is unseen =
    let P : List ℕ → Type 0 = λ w. list_any (λ x. is_of w (entry_of x)) (take at files) ≡ false in
    ap (λ w. files_of w (map entry_of files)) is
    ∙ sym (first_is files at s (at_is files at s within got)
    ∙ ap (λ b. cond b [] (files_of (string_bytes s.file.customer) (map entry_of files))) (subst P is unseen))
