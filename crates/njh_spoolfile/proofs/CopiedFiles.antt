-- Whole files come behind those of another spool.
use Rattle.std.proofs.Common.{◌≡◌, ◌≢◌, ℕ, zero, suc, ◌+◌, ◌-◌, ◌^◌, ◌<◌, ◌≤◌, Bool, true, false, cond, List, [], ◌∷◌}
use Rattle.std.proofs.Common.{◌++◌, map, filter, length, take, get_or, refl, sym, ap, subst, append-nil, append_assoc}
use Rattle.std.proofs.Common.{◌∙◌, arith, Option}
use Rattle.std.specs.List.{AllByRecursion, list_any}
use Rattle.std.proofs.lemmas.List.{map-append, take_more, length-map, length-append}
use Rattle.std.proofs.lemmas.List.Elements.{filter-append}
use Rattle.sqlite.specs.State.{HasCleanDisk, State, Survives}
use Rattle.sqlite.proofs.StateLemmas.{survives_weaker}
use Rattle.njh_spoolfile.specs.Copies.{AreBelow, IsCopied, asked, is_asked, numbered, under}
use Rattle.njh_spoolfile.specs.Kept.{File, SpoolContents, Whole, Holds, as_stands, kept, records_of}
use Rattle.njh_spoolfile.specs.Kept.{entry_of, file_of, whole_in, with_file}
use Rattle.njh_spoolfile.specs.Steps.{Stays}
use Rattle.njh_spoolfile.specs.code.CopySteps.{Adds, AddsAsked, Fills, IsBehind, LeadsTo, asked_of}
use Rattle.njh_spoolfile.specs.declared.kept.StoredFile.{StoredFile}
use Rattle.njh_spoolfile.specs.declared.copying.Numbers.{Numbers}
use Rattle.sqlite_keyed.proofs.ListLemmas.{filter-map}
use Rattle.njh_spoolfile.proofs.ListLaws.{comes_last, last, map_alike, whole_as}
use Rattle.njh_spoolfile.proofs.CopyLaws.{clean_before, survives_both, holds_still}
use Rattle.njh_spoolfile.proofs.PackedLaws.{same_contents}

ids_below : (id key : ℕ) (spool : SpoolContents) (es : List (ℕ × File)) → AreBelow id key (map (whole_in spool) es)
    → AllByRecursion (λ e. e.0 < id) es
ids_below id key spool [] low = tt
ids_below id key spool (e ∷ es) low = (low.0.0, ids_below id key spool es low.1)

keys_apart : (id key : ℕ) (spool : SpoolContents) (es : List (ℕ × File)) → AreBelow id key (map (whole_in spool) es)
    → AllByRecursion (λ e. e.1.key ≢ key) es
keys_apart id key spool [] low = tt
keys_apart id key spool (e ∷ es) low = ((λ same. omega (arith, same, low.0.1)), keys_apart id key spool es low.1)

abbrev whole_with : ℕ → File → List (ℕ × ℕ × List ℕ) → Whole
whole_with id file records = record { id = id; file = file; records = records }

pub adds_one : (id key : ℕ) (from : SpoolContents) (e : ℕ × File) (s t : SpoolContents) (file : File)
    → file ≡ record e.1 { key = key } → Fills key (map as_stands (records_of e.1.key from)) s t
    → Adds id key from (e ∷ []) s (with_file id file t)
adds_one id key from e s t file is fills below =
    let ids : AllByRecursion (λ (x : ℕ × File). x.0 < id) t.files =
    subst (AllByRecursion (λ (x : ℕ × File). x.0 < id)) (sym fills.files) (ids_below id key s s.files below) in
    let same : kept t ≡ kept s =
    ap (map (whole_in t)) fills.files ∙ map_alike (λ x. x.1.key ≢ key) (whole_in t) (whole_in s)
    (λ x other. whole_as x.0 x.1 (records_of x.1.key t) (records_of x.1.key s) (fills.others x.1.key other)) s.files
    (keys_apart id key s s.files below) in
    let new : whole_in t (id, file) ≡ under id key (whole_in from e) =
    ap (λ (f : File). whole_in t (id, f)) is
    ∙ ap (λ (rs : List (ℕ × ℕ × List ℕ)). whole_with id (record e.1 { key = key }) rs)
    (same_contents (records_of key t) (records_of e.1.key from) fills.records) in
    comes_last id file t ids ∙ (λ i. same i ++ new i ∷ [])

-- ---- several files, one after the other

lower_still : (i j k l : ℕ) → i ≤ k → j ≤ l → (ws : List Whole) → AreBelow i j ws → AreBelow k l ws
lower_still i j k l ids keys [] low = tt
lower_still i j k l ids keys (w ∷ ws) low =
    ((omega (arith, low.0.0, ids), omega (arith, low.0.1, keys)), lower_still i j k l ids keys ws low.1)

below_both : (id key : ℕ) (ws vs : List Whole) → AreBelow id key ws → AreBelow id key vs → AreBelow id key (ws ++ vs)
below_both id key [] vs one more = more
below_both id key (w ∷ ws) vs one more = (one.0, below_both id key ws vs one.1 more)

numbered_below : (id key i j : ℕ) (ws : List Whole) → id + length ws ≤ i → key + length ws ≤ j
    → AreBelow i j (numbered id key ws)
numbered_below id key i j [] ids keys = tt
numbered_below id key i j (w ∷ ws) ids keys = (
  (omega (arith, ids), omega (arith, keys)),
  numbered_below (suc id) (suc key) i j ws (omega (arith, ids)) (omega (arith, keys)),
)

numbered_append : (id key : ℕ) (ws vs : List Whole)
    → numbered id key (ws ++ vs) ≡ numbered id key ws ++ numbered (id + length ws) (key + length ws) vs
numbered_append id key [] vs =
    let ids : id ≡ id + 0 = omega arith in
    let keys : key ≡ key + 0 = omega arith in
    (λ i. numbered (ids i) (keys i) vs)
numbered_append id key (w ∷ ws) vs =
    let ids : suc id + length ws ≡ id + suc (length ws) = omega arith in
    let keys : suc key + length ws ≡ key + suc (length ws) = omega arith in
    ap (λ (xs : List Whole). under id key w ∷ xs) (numbered_append (suc id) (suc key) ws vs
    ∙ (λ i. numbered (suc id) (suc key) ws ++ numbered (ids i) (keys i) vs))

-- all are lower then
pub copied_below : (id key : ℕ) (ws : List Whole) (s t : SpoolContents) (i j : ℕ) → id + length ws ≤ i
    → key + length ws ≤ j → AreBelow id key (kept s) → AddsAsked id key ws s t → AreBelow i j (kept t)
copied_below id key ws s t i j ids keys below adds =
    subst (AreBelow i j) (sym (adds below)) (below_both i j (kept s) (numbered id key ws)
    (lower_still id key i j (omega (arith, ids)) (omega (arith, keys)) (kept s) below)
    (numbered_below id key i j ws ids keys))

pub adds_more : (id key i j : ℕ) (from : SpoolContents) (done more : List (ℕ × File)) (s t u : SpoolContents)
    → i ≡ id + length done → j ≡ key + length done → Adds id key from done s t → Adds i j from more t u
    → Adds id key from (done ++ more) s u
adds_more id key i j from done more s t u ids keys one next below =
    let all = map (whole_in from) done in
    let rest = map (whole_in from) more in
    let long : length all ≡ length done = length-map done (whole_in from) in
    let here : AreBelow i j (kept t) =
    copied_below id key all s t i j (omega (arith, ids, long)) (omega (arith, keys, long)) below one in
    let i_is : i ≡ id + length all = omega (arith, ids, long) in
    let j_is : j ≡ key + length all = omega (arith, keys, long) in
    next here ∙ ap (λ (ws : List Whole). ws ++ numbered i j rest) (one below)
    ∙ append_assoc (kept s) (numbered id key all) (numbered i j rest)
    ∙ ap (λ (ws : List Whole). kept s ++ ws)
    ((λ k. numbered id key all ++ numbered (i_is k) (j_is k) rest) ∙ sym (numbered_append id key all rest)
    ∙ ap (numbered id key) (sym (map-append (whole_in from) done more)))

pub behind_more : (first next after : Numbers) (done more all : List (ℕ × File)) → all ≡ done ++ more
    → IsBehind first done next → IsBehind next more after → IsBehind first all after
behind_more first next after done more all is one two =
    let long : length all ≡ length done + length more = ap (λ (es : List (ℕ × File)). length es) is
    ∙ length-append done more in
    (omega (arith, one.0, two.0, long), omega (arith, one.1, two.1, long))

pub adds_nothing : (id key : ℕ) (from s : SpoolContents) → Adds id key from [] s s
adds_nothing id key from s below = sym (append-nil (kept s))

pub not_asked : (customer : Option (List ℕ)) (e : ℕ × File) → is_asked customer e.1 ≡ false
    → asked_of customer (e ∷ []) ≡ []
not_asked customer e is = ap (λ b. cond b (e ∷ []) []) is

pub is_one : (customer : Option (List ℕ)) (e : ℕ × File) → is_asked customer e.1 ≡ true
    → asked_of customer (e ∷ []) ≡ e ∷ []
is_one customer e is = ap (λ b. cond b (e ∷ []) []) is

pub asked_more : (customer : Option (List ℕ)) (files : List StoredFile) (at : ℕ) (x : StoredFile) → at < length files
    → x ≡ get_or files at x
    → asked_of customer (map entry_of (take (at + 1) files))
    ≡ asked_of customer (map entry_of (take at files)) ++ asked_of customer (entry_of x ∷ [])
asked_more customer files at x within here =
    ap (λ (fs : List StoredFile). asked_of customer (map entry_of fs)) (take_more files at x within)
    ∙ ap (asked_of customer) (map-append entry_of (take at files) (get_or files at x ∷ []))
    ∙ filter-append (λ (e : ℕ × File). is_asked customer e.1) (map entry_of (take at files))
    (entry_of (get_or files at x) ∷ [])
    ∙ ap (λ (y : StoredFile). asked_of customer (map entry_of (take at files)) ++ asked_of customer (entry_of y ∷ []))
    (sym here)

-- ---- what is there before

list_of : (at : ℕ) (files : List StoredFile) (x : StoredFile) (i k : ℕ) → at < length files → x ≡ get_or files at x
    → x.id < i → x.file.key < k → AllByRecursion (λ f. (f.id < i) × (f.file.key < k)) (take at files)
    → AllByRecursion (λ f. (f.id < i) × (f.file.key < k)) (take (suc at) files)
list_of at [] x i k within here id key low = absurd (omega (arith, within))
list_of zero (f ∷ fs) x i k within here id key low =
    (subst (λ (y : StoredFile). (y.id < i) × (y.file.key < k)) here (id, key), tt)
list_of (suc at) (f ∷ fs) x i k within here id key low =
    (low.0, list_of at fs x i k (omega (arith, within)) here id key low.1)

lower_files : (i k j l : ℕ) → i ≤ j → k ≤ l → (files : List StoredFile)
    → AllByRecursion (λ f. (f.id < i) × (f.file.key < k)) files
    → AllByRecursion (λ f. (f.id < j) × (f.file.key < l)) files
lower_files i k j l ids keys [] low = tt
lower_files i k j l ids keys (f ∷ fs) low =
    ((omega (arith, low.0.0, ids), omega (arith, low.0.1, keys)), lower_files i k j l ids keys fs low.1)

-- one more file has lower numbers
pub numbers_more : (files : List StoredFile) (at : ℕ) (x : StoredFile) (i k j l : ℕ) → at < length files
    → x ≡ get_or files at x → (i ≤ j) × (k ≤ l) × (x.id < j) × (x.file.key < l)
    → AllByRecursion (λ f. (f.id < i) × (f.file.key < k)) (take at files)
    → AllByRecursion (λ f. (f.id < j) × (f.file.key < l)) (take (at + 1) files)
numbers_more files at x i k j l within here more low =
    let one : suc at ≡ at + 1 = omega arith in
    subst (λ n. AllByRecursion (λ f. (f.id < j) × (f.file.key < l)) (take n files)) one
    (list_of at files x j l within here more.2 more.3 (lower_files i k j l more.0 more.1 (take at files) low))

files_below : (id key : ℕ) (spool : SpoolContents) (files : List StoredFile)
    → AllByRecursion (λ f. (f.id < id) × (f.file.key < key)) files
    → AreBelow id key (map (whole_in spool) (map entry_of files))
files_below id key spool [] low = tt
files_below id key spool (f ∷ fs) low = (low.0, files_below id key spool fs low.1)

pub all_below : (id key : ℕ) (spool : SpoolContents) (files : List StoredFile) → map entry_of files ≡ spool.files
    → AllByRecursion (λ f. (f.id < id) × (f.file.key < key)) files → AreBelow id key (kept spool)
all_below id key spool files is low =
    subst (λ (es : List (ℕ × File)). AreBelow id key (map (whole_in spool) es)) is (files_below id key spool files low)

module _ (customer : Option (List ℕ)) (spool : SpoolContents) where
  abbrev wanted : List (ℕ × File) → List Whole
  wanted es = filter (λ w. is_asked customer w.file) (map (whole_in spool) es)

  some_asked : (files : List StoredFile) → list_any (λ f. is_asked customer (file_of f.file)) files ≡ true
      → wanted (map entry_of files) ≡ [] → ⊥
  some_asked [] has none = absurd (cc)
  some_asked (f ∷ fs) has none = split (is_asked customer (file_of f.file)) refl (some_asked fs)
    where
      split : (b : Bool) → is_asked customer (file_of f.file) ≡ b
          → (list_any (λ x. is_asked customer (file_of x.file)) fs ≡ true → wanted (map entry_of fs) ≡ [] → ⊥) → ⊥
      split true is rest =
          let w = whole_in spool (entry_of f) in
          let ws = wanted (map entry_of fs) in
          let full : (w ∷ ws) ≡ [] = sym (ap (λ c. cond c (w ∷ ws) ws) is) ∙ none in
          absurd (cc)
      split false is rest =
          let w = whole_in spool (entry_of f) in
          let ws = wanted (map entry_of fs) in
          rest (rw is at has) (sym (ap (λ c. cond c (w ∷ ws) ws) is) ∙ none)

  none_asked : (files : List StoredFile) → list_any (λ f. is_asked customer (file_of f.file)) files ≡ false
      → wanted (map entry_of files) ≡ []
  none_asked [] has = refl
  none_asked (f ∷ fs) has = split (is_asked customer (file_of f.file)) refl (none_asked fs)
    where
      split : (b : Bool) → is_asked customer (file_of f.file) ≡ b
          → (list_any (λ x. is_asked customer (file_of x.file)) fs ≡ false → wanted (map entry_of fs) ≡ [])
          → wanted (map entry_of (f ∷ fs)) ≡ []
      split true is rest = absurd (let never = rw is at has in cc)
      split false is rest =
          let w = whole_in spool (entry_of f) in
          let ws = wanted (map entry_of fs) in
          ap (λ c. cond c (w ∷ ws) ws) is ∙ rest (rw is at has)

  pub has_some : (files : List StoredFile) → map entry_of files ≡ spool.files
      → list_any (λ f. is_asked customer (file_of f.file)) files ≡ true → asked customer spool ≢ []
  has_some files is has none = some_asked files has (ap wanted is ∙ none)

  pub has_none : (files : List StoredFile) → map entry_of files ≡ spool.files
      → list_any (λ f. is_asked customer (file_of f.file)) files ≡ false → asked customer spool ≡ []
  has_none files is has = ap wanted (sym is) ∙ none_asked files has

  -- the files that are asked for
  pub asked_in : (es : List (ℕ × File)) → es ≡ spool.files
      → map (whole_in spool) (asked_of customer es) ≡ asked customer spool
  asked_in es is =
      sym (filter-map (λ (w : Whole). is_asked customer w.file) (whole_in spool) es) ∙ ap wanted is

-- ---- all of it

pub copied_there : (customer : Option (List ℕ)) (id key count : ℕ) (spool before : SpoolContents) (old one mid : State)
    → Stays old one → AreBelow id key (kept before) × (asked customer before ≡ [])
    → (count ≡ length (asked customer spool)) × LeadsTo (AddsAsked id key (asked customer spool)) one mid
    → (id + count < 2 ^ 63) × (key + count < 2 ^ 32) → Holds before old.now.trees
    → (after : SpoolContents) × Holds after mid.now.trees × IsCopied customer spool before after
copied_there customer id key count spool before old one mid same told copied room held =
    let led = copied.1.leads before (holds_still same held) in (
      led.0,
      led.1,
      record {
        id = id;
        key = key;
        behind = told.0;
        copies = led.2 told.0;
        low = copied_below id key (asked customer spool) before led.0 (2 ^ 63 - 1) (2 ^ 32 - 1)
            (omega (arith, room.0, copied.0)) (omega (arith, room.1, copied.0)) told.0 led.2;
        none = told.1;
      },
    )

-- only the commit leaves all of it after a crash
pub crash_there : (customer : Option (List ℕ)) (id key count : ℕ) (from_old from_new old one mid new : State)
    → Survives old one (λ _. ⊥) → Survives one mid (λ _. ⊥) → Survives mid new (λ trees. trees ≡ mid.now.trees)
    → (HasCleanDisk one → Stays old one)
    → (HasCleanDisk one → (before : SpoolContents) → Holds before old.now.trees
    → AreBelow id key (kept before) × (asked customer before ≡ []))
    → (HasCleanDisk from_new → HasCleanDisk mid → (spool : SpoolContents) → Holds spool from_old.now.trees
    → (count ≡ length (asked customer spool)) × LeadsTo (AddsAsked id key (asked customer spool)) one mid)
    → (id + count < 2 ^ 63) × (key + count < 2 ^ 32)
    → Survives old new (λ trees. HasCleanDisk from_new → (spool before : SpoolContents)
    → Holds spool from_old.now.trees → Holds before old.now.trees → (after : SpoolContents) × Holds after trees
    × IsCopied customer spool before after)
crash_there customer id key count from_old from_new old one mid new first next last same told copied room =
    survives_both (survives_both first next) (survives_weaker mid new (λ trees. trees ≡ mid.now.trees)
    (λ trees. HasCleanDisk from_new → (spool before : SpoolContents) → Holds spool from_old.now.trees
    → Holds before old.now.trees → (after : SpoolContents) × Holds after trees × IsCopied customer spool before after)
    (λ clean trees is clean_from spool before held held_into.
    let clean_mid = clean_before last clean in
    let clean_one = clean_before next clean_mid in
    let there = copied_there customer id key count spool before old one mid (same clean_one)
    (told clean_one before held_into) (copied clean_from clean_mid spool held) room held_into in
    (there.0, subst (λ db. Holds there.0 db) (sym is) there.1, there.2)) last)
