-- A spool file goes on to have the whole files of a hub, call by call.
use Rattle.njh_keeper.proofs.Words
use Words.{◌≡◌, ◌≢◌, ℕ, ◌+◌, ◌<◌, ◌≤◌, true, List, [], ◌∷◌, ◌++◌, length, get_or, set, remove, refl, sym, ap}
use Words.{subst, ◌∙◌, arith, get_or_default, set-get_or, AllByRecursion, File, SpoolContents, contents_in, records_of}
use Words.{with_changed, with_file, without_file, WholeFile, is_held, IsOrdered, IsStored, WritesRowsOf, is_sent, Kind}
use Words.{Stored}
use Words.{WritesUnder, own_rows, AllBeside, AreBelow, Claim, IsKept, IsRowOf, KeptWhole, Mirrored, Moves, OwnFiles}
use Words.{Remembers, keyed, is_own, kind_word, AreApart}
use Rattle.njh_keeper.proofs.{FrameLaws.{adds_row, changes_row, drops_row, rows_stay}, ListLaws.{BesideAt, beside_at}}
use Rattle.njh_keeper.proofs.{ListLaws.{beside_push, beside_remove, beside_set, beside_weaker}, NumberedLaws.all_weaker}
use Rattle.njh_keeper.proofs.RowLaws.{below_with_changed, below_with_file, below_without_file, row_below, row_changes}
use Rattle.njh_keeper.proofs.{RowLaws.{row_comes_last, row_leaves}, UsesLaws.{each_counts, keyed_apart, keyed_at}}
use Rattle.njh_keeper.proofs.UsesLaws.{keyed_none}
pub use Rattle.sqlite_trees.proofs.ListLemmas.{all_of}

pub moves_then : (a b c : Claim) (s t u : SpoolContents) → Moves a b s t → Moves b c t u → Moves a c s u
moves_then a b c s t u one more = record {
  name = more.name ∙ one.name;
  uses = λ n. let first = one.uses n in let then = more.uses n in omega (arith, first, then);
  ordered = more.ordered;
  next = let first = one.next in let then = more.next in omega (arith, first, then);
  below = λ below. more.below (one.below below);
  records = λ key free. more.records key (let less = one.uses key in omega (arith, free, less)) ∙ one.records key free;
  rows = λ other apart. more.rows other (λ here. apart (here ∙ one.name)) ∙ one.rows other apart;
}

-- no number is used twice then, either
pub still_apart : (a b : Claim) (s t : SpoolContents) → Moves a b s t → AreApart a → AreApart b
still_apart a b s t moves apart n = let less = moves.uses n in let once = apart n in omega (arith, less, once)

module _ (a b : Claim) (s : SpoolContents) (name : b.name ≡ a.name) (uses : (n : ℕ) → b.uses n ≤ a.uses n) where
  -- nothing is written
  pub moves_memory : IsOrdered s → a.next_id ≤ b.next_id → Moves a b s s
  moves_memory h more = record {
    name = name;
    uses = uses;
    ordered = h;
    next = more;
    below = all_weaker (λ (e : ℕ × File). e.0 < a.next_id) (λ e. e.0 < b.next_id) (λ e less. omega (arith, less, more))
        s.files;
    records = λ key free. refl;
    rows = λ other apart. refl;
  }

  -- records under one key are written
  pub moves_under : (key : ℕ) (t : SpoolContents) → WritesUnder key s t → 1 ≤ a.uses key → b.next_id ≡ a.next_id
      → Moves a b s t
  moves_under key t w busy next = record {
    name = name;
    uses = uses;
    ordered = w.ordered;
    next = omega (arith, next);
    below = λ below. subst (λ end. AreBelow end t) (sym next)
        (subst (λ es. AllByRecursion (λ (e : ℕ × File). e.0 < a.next_id) es) (sym w.files) below);
    records = λ other free. w.others other
        (λ here. absurd (let none : a.uses key ≡ 0 = sym (ap a.uses here) ∙ free in omega (arith, none, busy)));
    rows = λ other apart. rows_stay key s t w other;
  }

  -- rows of the customer are written
  pub moves_rows : (t : SpoolContents) → WritesRowsOf a.name s t → a.next_id ≤ b.next_id
      → (AreBelow a.next_id s → AreBelow b.next_id t) → Moves a b s t
  moves_rows t w more below = record {
    name = name;
    uses = uses;
    ordered = w.ordered;
    next = more;
    below = below;
    records = λ other free. λ i. records_of other (record { files = t.files; records = w.records i });
    rows = w.others;
  }

pub moves_nothing : (a : Claim) (s : SpoolContents) → IsOrdered s → Moves a a s s
moves_nothing a s h = moves_memory a a s refl (λ n. omega arith) h (omega arith)

-- ---- the files stay

pub stored_still : (s t : SpoolContents) (key : ℕ) (kind : Kind) (text : List ℕ) (rs : List Stored)
    → records_of key t ≡ records_of key s → IsStored s key kind text rs → IsStored t key kind text rs
stored_still s t key kind text rs same one = record {
  before = one.before;
  stored = ap contents_in same ∙ one.stored;
  fits = one.fits;
  are = one.are;
}

pub kept_still : (s t : SpoolContents) (k : KeptWhole) (e : ℕ × File) (f : WholeFile)
    → records_of k.key t ≡ records_of k.key s → IsKept s k e f → IsKept t k e f
kept_still s t k e f same one = record {
  id = one.id;
  row = one.row;
  sent = one.sent;
  remembers = one.remembers;
  stored = stored_still s t k.key f.kind e.1.to_node f.records same one.stored;
}

module _ (s t : SpoolContents) (own : OwnFiles) (files : List WholeFile) (all : Mirrored s own files) where
  -- where neither their rows change nor the records under their keys
  pub mirrored_still : own_rows own.name t ≡ own_rows own.name s
      → AllByRecursion (λ k. records_of k.key t ≡ records_of k.key s) own.whole → Mirrored t own files
  mirrored_still rows records =
      subst (λ es. AllBeside (IsKept t) own.whole es files) (sym rows)
      (beside_weaker (λ k. records_of k.key t ≡ records_of k.key s) (IsKept s) (IsKept t) (kept_still s t) own.whole
      (own_rows own.name s) files records all)

  -- records under another key come or leave
  pub mirrored_under : (key : ℕ) → WritesUnder key s t → keyed (λ (k : KeptWhole). k.key) key own.whole ≡ 0
      → Mirrored t own files
  mirrored_under key w foreign =
      mirrored_still (rows_stay key s t w own.name)
      (all_weaker (λ (k : KeptWhole). k.key ≢ key) (λ k. records_of k.key t ≡ records_of k.key s)
      (λ k apart. w.others k.key apart) own.whole (keyed_none (λ (k : KeptWhole). k.key) key own.whole foreign))

  -- a call was about another customer's files
  pub mirrored_of_another : (a b : Claim) → Moves a b s t → own.name ≢ a.name
      → ((n : ℕ) → a.uses n + keyed (λ (k : KeptWhole). k.key) n own.whole ≤ 1) → Mirrored t own files
  mirrored_of_another a b moves other once =
      mirrored_still (moves.rows own.name other)
      (all_weaker (λ (k : KeptWhole). 1 ≤ keyed (λ (x : KeptWhole). x.key) k.key own.whole)
      (λ k. records_of k.key t ≡ records_of k.key s)
      (λ k least. moves.records k.key (omega (arith, least, once k.key))) own.whole
      (each_counts (λ (k : KeptWhole). k.key) (λ n. keyed (λ (x : KeptWhole). x.key) n own.whole) own.whole
      (λ n. omega arith)))

-- ---- one of them

module _ (s : SpoolContents) (own : OwnFiles) (files : List WholeFile) (h : IsOrdered s) (all : Mirrored s own files)
    (i : ℕ) (k : KeptWhole) (there : i < length own.whole) (is : k ≡ get_or own.whole i k) where
  abbrev rows : List (ℕ × File)
  rows = own_rows own.name s

  one : BesideAt (IsKept s) rows files i k
  one = beside_at (IsKept s) own.whole rows files i k all there is

  -- it leaves

  pub leaving_row : WritesRowsOf own.name s (without_file k.id s)
  leaving_row = subst (λ n. WritesRowsOf own.name s (without_file n s)) one.holds.id
      (drops_row own.name s h i one.second one.second_there one.second_is)

  pub file_leaves : Mirrored (without_file k.id s) (record own { whole = remove own.whole i }) (remove files i)
  file_leaves =
      let left : own_rows own.name (without_file k.id s) ≡ remove rows i =
      subst (λ n. own_rows own.name (without_file n s) ≡ remove rows i) one.holds.id
      (row_leaves own.name s h i one.second one.second_there one.second_is) in
      let t = without_file k.id s in
      subst (λ es. AllBeside (IsKept t) (remove own.whole i) es (remove files i)) (sym left)
      (beside_weaker (λ x. records_of x.key t ≡ records_of x.key s) (IsKept s) (IsKept t) (kept_still s t)
      (remove own.whole i) (remove rows i) (remove files i)
      (all_of (λ x. records_of x.key t ≡ records_of x.key s) (λ x. refl) (remove own.whole i))
      (beside_remove (IsKept s) own.whole rows files i all))

  pub leaving_moves : (a b : Claim) → a.name ≡ own.name → b.name ≡ a.name → b.next_id ≡ a.next_id
      → ((n : ℕ) → b.uses n ≤ a.uses n) → Moves a b s (without_file k.id s)
  leaving_moves a b mine name next uses =
      moves_rows a b s name uses (without_file k.id s)
      (subst (λ who. WritesRowsOf who s (without_file k.id s)) (sym mine) leaving_row) (omega (arith, next))
      (λ below. subst (λ end. AreBelow end (without_file k.id s)) (sym next)
      (below_without_file a.next_id k.id s below))

  -- only its state changes, and nothing is written

  pub state_changes : (f g : WholeFile) (now : KeptWhole) → f ≡ get_or files i f → g.kind ≡ f.kind
      → is_held g.state ≡ is_held f.state → g.records ≡ f.records → now.id ≡ k.id → now.key ≡ k.key
      → now.is_sent ≡ k.is_sent → Remembers now g
      → Mirrored s (record own { whole = set own.whole i now }) (set files i g)
  state_changes f g now found kind held records id key sent remembers =
      let here : one.third ≡ f = one.third_is ∙ get_or_default files i one.third f one.third_there ∙ sym found in
      let kept : IsKept s k one.second f = subst (IsKept s k one.second) here one.holds in
      let row : set rows i one.second ≡ rows = ap (set rows i) one.second_is ∙ set-get_or rows i one.second in
      subst (λ es. AllBeside (IsKept s) (set own.whole i now) es (set files i g)) row
      (beside_set (λ x. records_of x.key s ≡ records_of x.key s) (IsKept s) (IsKept s) (kept_still s s) own.whole rows
      files i now one.second g
      (all_of (λ (x : KeptWhole). records_of x.key s ≡ records_of x.key s) (λ x. refl) (remove own.whole i)) all
      (record {
        id = kept.id ∙ sym id;
        row = record {
          key = kept.row.key ∙ sym key;
          kind = kept.row.kind ∙ ap kind_word (sym kind);
          held = kept.row.held ∙ sym held;
          count = kept.row.count ∙ ap length (sym records);
        };
        sent = kept.sent ∙ sym sent;
        remembers = remembers;
        stored = subst (λ n. IsStored s n g.kind one.second.1.to_node g.records) (sym key)
            (subst (λ x. IsStored s k.key x one.second.1.to_node g.records) (sym kind)
            (subst (λ rs. IsStored s k.key f.kind one.second.1.to_node rs) (sym records) kept.stored));
      }))

  -- its row changes, and the records under its key

  module _ (t : SpoolContents) (under : WritesUnder k.key s t) (file : File) (owned : is_own own.name file ≡ true) where
    same_rows : own_rows own.name t ≡ rows
    same_rows = rows_stay k.key s t under own.name

    there_still : i < length (own_rows own.name t)
    there_still = subst (λ es. i < length es) (sym same_rows) one.second_there

    is_still : one.second ≡ get_or (own_rows own.name t) i one.second
    is_still = one.second_is ∙ ap (λ (es : List (ℕ × File)). get_or es i one.second) (sym same_rows)

    changing_row : WritesRowsOf own.name t (with_changed k.id file t)
    changing_row =
        subst (λ n. WritesRowsOf own.name t (with_changed n file t)) one.holds.id
        (changes_row own.name t under.ordered i one.second there_still is_still file owned)

    pub file_changes : (g : WholeFile) (now : KeptWhole) → keyed (λ (x : KeptWhole). x.key) k.key own.whole ≤ 1
        → now.id ≡ k.id → now.key ≡ k.key
        → IsRowOf k.key g file → is_sent file.to_node ≡ now.is_sent → Remembers now g
        → IsStored t k.key g.kind file.to_node g.records
        → Mirrored (with_changed k.id file t) (record own { whole = set own.whole i now }) (set files i g)
    file_changes g now once id key row sent remembers stored =
        let u = with_changed k.id file t in
        let changed : own_rows own.name u ≡ set rows i (one.second.0, file) =
        subst (λ n. own_rows own.name (with_changed n file t) ≡ set (own_rows own.name t) i (one.second.0, file))
        one.holds.id (row_changes own.name t under.ordered i one.second there_still is_still file owned)
        ∙ ap (λ (es : List (ℕ × File)). set es i (one.second.0, file)) same_rows in
        subst (λ es. AllBeside (IsKept u) (set own.whole i now) es (set files i g)) (sym changed)
        (beside_set (λ x. x.key ≢ k.key) (IsKept s) (IsKept u)
        (λ x e f apart kept. kept_still s u x e f (under.others x.key apart) kept) own.whole rows files i now
        (one.second.0, file) g (keyed_apart (λ (x : KeptWhole). x.key) own.whole i k there is once) all
        (record {
          id = one.holds.id ∙ sym id;
          row = subst (λ n. IsRowOf n g file) (sym key) row;
          sent = sent;
          remembers = remembers;
          stored = subst (λ n. IsStored u n g.kind file.to_node g.records) (sym key)
              (stored_still t u k.key g.kind file.to_node g.records refl stored);
        }))

    pub changing_moves : (a b : Claim) → a.name ≡ own.name → b.name ≡ a.name → b.next_id ≡ a.next_id
        → ((n : ℕ) → b.uses n ≤ a.uses n) → ((n : ℕ) → keyed (λ (x : KeptWhole). x.key) n own.whole ≤ a.uses n)
        → Moves a b s (with_changed k.id file t)
    changing_moves a b mine name next uses least =
        let u = with_changed k.id file t in
        let busy : 1 ≤ a.uses k.key =
        omega (arith, keyed_at (λ (x : KeptWhole). x.key) own.whole i k there is, least k.key) in
        moves_then a a b s t u (moves_under a a s refl (λ n. omega arith) k.key t under busy refl)
        (moves_rows a b t name uses u (subst (λ who. WritesRowsOf who t u) (sym mine) changing_row)
        (omega (arith, next)) (λ below. subst (λ end. AreBelow end u) (sym next)
        (below_with_changed a.next_id k.id file t (subst (λ n. n < a.next_id) one.holds.id
        (row_below own.name t under.ordered i one.second there_still is_still a.next_id below)) below)))

-- ---- one comes

module _ (s t : SpoolContents) (own : OwnFiles) (files : List WholeFile) (all : Mirrored s own files) (k : KeptWhole)
    (under : WritesUnder k.key s t) (file : File) (owned : is_own own.name file ≡ true) (low : AreBelow k.id s) where
  low_still : AreBelow k.id t
  low_still = subst (λ es. AllByRecursion (λ (e : ℕ × File). e.0 < k.id) es) (sym under.files) low

  pub file_comes : (g : WholeFile) → keyed (λ (x : KeptWhole). x.key) k.key own.whole ≡ 0 → IsRowOf k.key g file
      → is_sent file.to_node ≡ k.is_sent → Remembers k g → IsStored t k.key g.kind file.to_node g.records
      → Mirrored (with_file k.id file t) (record own { whole = own.whole ++ k ∷ [] }) (files ++ g ∷ [])
  file_comes g foreign row sent remembers stored =
      let u = with_file k.id file t in
      let rows = own_rows own.name s in
      let added : own_rows own.name u ≡ rows ++ (k.id, file) ∷ [] =
      row_comes_last own.name k.id file t low_still owned ∙ ap (λ (es : List (ℕ × File)). es ++ (k.id, file) ∷ [])
      (rows_stay k.key s t under own.name) in
      subst (λ es. AllBeside (IsKept u) (own.whole ++ k ∷ []) es (files ++ g ∷ [])) (sym added)
      (beside_push (IsKept u) own.whole rows files k (k.id, file) g
      (beside_weaker (λ x. x.key ≢ k.key) (IsKept s) (IsKept u)
      (λ x e f apart kept. kept_still s u x e f (under.others x.key apart) kept) own.whole rows files
      (keyed_none (λ (x : KeptWhole). x.key) k.key own.whole foreign) all)
      (record {
        id = refl;
        row = row;
        sent = sent;
        remembers = remembers;
        stored = stored_still t u k.key g.kind file.to_node g.records refl stored;
      }))

  pub coming_moves : (a b : Claim) → a.name ≡ own.name → b.name ≡ a.name → a.next_id ≡ k.id → b.next_id ≡ k.id + 1
      → 1 ≤ a.uses k.key → ((n : ℕ) → b.uses n ≤ a.uses n) → Moves a b s (with_file k.id file t)
  coming_moves a b mine name next then busy uses =
      let same : (n : ℕ) → a.uses n ≤ a.uses n = λ n. omega arith in
      moves_then a a b s t (with_file k.id file t) (moves_under a a s refl same k.key t under busy refl)
      (moves_rows a b t name uses (with_file k.id file t)
      (subst (λ who. WritesRowsOf who t (with_file k.id file t)) (sym mine)
      (adds_row own.name k.id file t under.ordered low_still owned)) (omega (arith, next, then))
      (λ below. subst (λ end. AreBelow end (with_file k.id file t)) (sym then) (below_with_file k.id file t low_still)))
