-- The rows of a customer on a spool file beside the files that a hub has of them.
use Rattle.njh_keeper.proofs.Words
use Words.{◌≡◌, ℕ, ◌+◌, ◌<◌, ◌==◌, true, List, [], ◌∷◌, ◌++◌, length, get_or, set, refl, sym, ap, subst}
use Words.{append_assoc, append-nil, ◌∙◌, arith, AllZip, File, SpoolContents, contents_in, records_of, with_changed}
use Words.{CustomerSpool, WholeFile, KeptFile, HasHeaders, is_held, IsStored, said_destination, is_sent, with_mark}
use Words.{field_text, IsOrdered, WritesRowsOf, own_rows, IsRead}
use Words.{IsReadFor, Remembering, keyed_rows, owned_of, AllBeside, none_beside, IsKept, IsRowOf, KeptWhole, OwnFiles}
use Words.{Remembers, keyed, one_if, file_in, is_own, length-append, ⊤, ◌≢◌, ◌⊎◌, inl, inr, cases_lt, AreDistinct, Part}
use Words.{part, AllAreRead, AreRemembered, IsOwnOf, files_at, name_at, Mirrored}
use Rattle.njh_keeper.proofs.{FrameLaws.changes_row, HubLaws.apart, ListLaws.{beside_lengths, beside_push}}
use Rattle.njh_keeper.proofs.{ListLaws.{beside_weaker, all_zip_weaker}}
use Rattle.njh_keeper.proofs.{MirrorLaws.{all_of, kept_still, mirrored_still, stored_still}}
use Rattle.njh_keeper.proofs.{ReadBackLaws.{IsReadAs, is_kept_as_read, is_read_as}, RowLaws.below_with_changed}
use Rattle.njh_keeper.proofs.SentLaws.{is_sent_back, still_stored}
use Rattle.njh_keeper.proofs.StillRows.{still_changed, still_same, still_then}
use Rattle.njh_keeper.{proofs.{RowLaws.{row_below, row_changes}, UsesLaws.keyed-append}, specs.code.Opening.IsCustomer}
use Rattle.{njh_keeper.specs.code.Opening.IsRemembered, std.proofs.lemmas.List.{get_or_at, set_at, get_or_append_left}}
use Rattle.std.proofs.lemmas.List.{get_or_push, length_push}

-- ---- lists

one_more : {X : Type 0} (done : List X) (x : X) (left : List X) → done ++ x ∷ left ≡ (done ++ x ∷ []) ++ left
one_more done x left = sym (append_assoc done (x ∷ []) left)

-- ---- rows change, and records stay

module _ (s t : SpoolContents) (same : t.records ≡ s.records) where
  records_same : (key : ℕ) → records_of key t ≡ records_of key s
  records_same key = λ i. records_of key (record { files = t.files; records = same i })

  pub all_kept_same : (ks : List KeptWhole) (es : List (ℕ × File)) (fs : List WholeFile) → AllBeside (IsKept s) ks es fs
      → AllBeside (IsKept t) ks es fs
  all_kept_same ks es fs all =
      beside_weaker (λ k. records_of k.key t ≡ records_of k.key s) (IsKept s) (IsKept t) (kept_still s t) ks es fs
      (all_of (λ (k : KeptWhole). records_of k.key t ≡ records_of k.key s) (λ k. records_same k.key) ks) all

  pub all_read_same : (es : List (ℕ × File)) (gs : List WholeFile) → AllZip (IsReadFor s) es gs
      → AllZip (IsReadFor t) es gs
  all_read_same es gs =
      all_zip_weaker (λ _. ⊤) (IsReadFor s) (IsReadFor t) (λ e g _ is. ap (λ rs. file_in e.1 (contents_in rs))
      (records_same e.1.key) ∙ is) es gs (all_of (λ _. ⊤) (λ _. tt) es)

writes_then : (name : List ℕ) (s t u : SpoolContents) → WritesRowsOf name s t → WritesRowsOf name t u
    → WritesRowsOf name s u
writes_then name s t u one more = record {
  records = more.records ∙ one.records;
  ordered = more.ordered;
  others = λ other apart. more.others other apart ∙ one.others other apart;
}

-- ---- the next row

module _ (name : List ℕ) (whole : List KeptWhole) (e : ℕ × File) (left : List (ℕ × File)) (spool : CustomerSpool)
    (from s : SpoolContents) (is : IsRead name whole (e ∷ left) spool.whole from s) where
  -- which file it is of
  pub record IsNextRead (g : WholeFile) : Type 0 where
    pub rest : List WholeFile
    pub behind : is.behind ≡ g ∷ rest
    pub read : IsReadFor s e g
    pub others : AllZip (IsReadFor s) left rest
    pub there : length whole < length spool.whole
    pub at : g ≡ get_or spool.whole (length whole) g

  next : (gs : List WholeFile) → is.behind ≡ gs → AllZip (IsReadFor s) (e ∷ left) gs → (g : WholeFile) × IsNextRead g
  next [] none all = absurd all
  next (g ∷ gs) some all =
      let files : spool.whole ≡ is.before ++ g ∷ gs =
      is.files_are ∙ ap (λ (xs : List WholeFile). is.before ++ xs) some in
      let long : length is.before ≡ length whole = (beside_lengths (IsKept s) whole is.rows is.before is.beside).1 in (
        g,
        record {
          rest = gs;
          behind = some;
          read = all.0;
          others = all.1;
          there = omega (arith, long, ap length files, length-append is.before (g ∷ gs));
          at = sym (get_or_at is.before g gs g (length whole) long) ∙ ap (λ xs. get_or xs (length whole) g) (sym files);
        },
      )

  pub next_read : (g : WholeFile) × IsNextRead g
  next_read = next is.behind refl is.reads

  module _ (k : KeptWhole) (g : WholeFile) (it : IsNextRead g) (id : k.id ≡ e.0) (key : k.key ≡ e.1.key)
      (sent : is_sent e.1.to_node ≡ k.is_sent) (remembers : Remembers k g) where
    abbrev as_read : KeptFile
    as_read = record { kind = g.kind; held = e.1.held; records = g.records }

    read_as : IsReadAs s e.1 as_read
    read_as = is_read_as s e.1 as_read it.read

    keys_now : (n : ℕ) → keyed (λ (x : KeptWhole). x.key) n (whole ++ k ∷ []) + keyed_rows n left ≡ keyed_rows n
        (own_rows name from)
    keys_now n =
        let push = keyed-append (λ (x : KeptWhole). x.key) n whole (k ∷ []) in
        let same : one_if (k.key == n) ≡ one_if (e.1.key == n) = ap (λ m. one_if (m == n)) key in
        let before : keyed (λ (x : KeptWhole). x.key) n whole + (one_if (e.1.key == n) + keyed_rows n left)
        ≡ keyed_rows n (own_rows name from) = is.keys n in
        omega (arith, push, same, before)

    files_now : spool.whole ≡ (is.before ++ g ∷ []) ++ it.rest
    files_now = is.files_are ∙ ap (λ (xs : List WholeFile). is.before ++ xs) it.behind ∙ one_more is.before g it.rest

    -- its row says of it what the hub says
    pub goes_on_same : is_held g.state ≡ e.1.held → IsRead name (whole ++ k ∷ []) left spool.whole from s
    goes_on_same held = record {
      rows = is.rows ++ e ∷ [];
      before = is.before ++ g ∷ [];
      behind = it.rest;
      rows_are = is.rows_are ∙ one_more is.rows e left;
      files_are = files_now;
      beside = beside_push (IsKept s) whole is.rows is.before k e g is.beside
          (is_kept_as_read s k e as_read g read_as refl refl held id key sent remembers);
      reads = it.others;
      writes = is.writes;
      still = is.still;
      below = is.below;
      keys = keys_now;
    }

    -- it is written anew
    module _ (row : File) (owned : is_own name row ≡ true) (is_row : IsRowOf k.key g row)
        (headers : HasHeaders g.kind g.records)
        (node : row.to_node ≡ with_mark k.is_sent (field_text (said_destination g.kind g.records).node)) where
      at_row : e ≡ get_or (own_rows name s) (length is.rows) e
      at_row = sym (get_or_at is.rows e left e (length is.rows) refl)
          ∙ ap (λ es. get_or es (length is.rows) e) (sym is.rows_are)

      there_row : length is.rows < length (own_rows name s)
      there_row = omega (arith, ap length is.rows_are, length-append is.rows (e ∷ left))

      writes_row : WritesRowsOf name s (with_changed e.0 row s)
      writes_row = changes_row name s is.writes.ordered (length is.rows) e there_row at_row row owned

      kept_new : IsKept (with_changed e.0 row s) k (e.0, row) g
      kept_new =
          let still = still_stored s e.1.key g.kind e.1.to_node g.records read_as.stored headers.destination
          headers.goes k.is_sent sent in
          record {
            id = sym id;
            row = is_row;
            sent = ap is_sent node ∙ is_sent_back k.is_sent (said_destination g.kind g.records).node;
            remembers = remembers;
            stored = stored_still s (with_changed e.0 row s) k.key g.kind row.to_node g.records refl
                (subst (λ text. IsStored s k.key g.kind text g.records) (sym node)
                (subst (λ n. IsStored s n g.kind (with_mark k.is_sent
                (field_text (said_destination g.kind g.records).node)) g.records) (sym key) still));
          }

      pub goes_on_anew : IsRead name (whole ++ k ∷ []) left spool.whole from (with_changed e.0 row s)
      goes_on_anew = record {
        rows = is.rows ++ (e.0, row) ∷ [];
        before = is.before ++ g ∷ [];
        behind = it.rest;
        rows_are = row_changes name s is.writes.ordered (length is.rows) e there_row at_row row owned
            ∙ ap (λ (es : List (ℕ × File)). set es (length is.rows) (e.0, row)) is.rows_are
            ∙ set_at is.rows e left (e.0, row) (length is.rows) refl ∙ one_more is.rows (e.0, row) left;
        files_are = files_now;
        beside = beside_push (IsKept (with_changed e.0 row s)) whole is.rows is.before k (e.0, row) g
            (all_kept_same s (with_changed e.0 row s) refl whole is.rows is.before is.beside) kept_new;
        reads = all_read_same s (with_changed e.0 row s) refl left it.rest it.others;
        writes = writes_then name from s (with_changed e.0 row s) is.writes writes_row;
        still = still_then from.files s.files (with_changed e.0 row s).files is.still
            (still_changed name s is.writes.ordered (length is.rows) e there_row at_row row owned);
        below = λ end all.
            let low = is.below end all in
            below_with_changed end e.0 row s
            (row_below name s is.writes.ordered (length is.rows) e there_row at_row end low) low;
        keys = keys_now;
      }

-- ---- all rows of a customer

pub nothing_read : (name : List ℕ) (files : List WholeFile) (s : SpoolContents) → IsOrdered s
    → AllZip (IsReadFor s) (own_rows name s) files → IsRead name [] (own_rows name s) files s s
nothing_read name files s ordered all = record {
  rows = [];
  before = [];
  behind = files;
  rows_are = refl;
  files_are = refl;
  beside = none_beside;
  reads = all;
  writes = record { records = refl; ordered = ordered; others = λ other apart. refl };
  still = still_same s.files;
  below = λ end low. low;
  keys = λ n. omega arith;
}

none_left : {X Y : Type 0} (R : X → Y → Type 0) (ys : List Y) → AllZip R [] ys → ys ≡ []
none_left R [] all = refl
none_left R (y ∷ ys) all = absurd all

pub all_read : (name : List ℕ) (whole : List KeptWhole) (files : List WholeFile) (from now : SpoolContents)
    → IsRead name whole [] files from now → AllBeside (IsKept now) whole (own_rows name now) files
all_read name whole files from now is =
    let rows : own_rows name now ≡ is.rows = is.rows_are ∙ append-nil is.rows in
    let end : files ≡ is.before =
    is.files_are ∙ ap (λ (xs : List WholeFile). is.before ++ xs) (none_left (IsReadFor now) is.behind is.reads)
    ∙ append-nil is.before in
    subst (λ (fs : List WholeFile). AllBeside (IsKept now) whole (own_rows name now) fs) (sym end)
    (subst (λ (es : List (ℕ × File)). AllBeside (IsKept now) whole es is.before) (sym rows) is.beside)

-- a customer whose rows were gone through
pub remembered : (own : OwnFiles) (name : List ℕ) (rows : List (ℕ × File)) (files : List WholeFile)
    (s t : SpoolContents) → own.name ≡ name
    → (IsRead name [] (owned_of name rows) files s s → IsRead name own.whole [] files s t)
    → Remembering name rows files own s t
remembered own name rows files s t named step ordered are all =
    let is = step (subst (λ (es : List (ℕ × File)). IsRead name [] es files s s) (sym are)
    (nothing_read name files s ordered all)) in
    record {
      mirrored = subst (λ who. AllBeside (IsKept t) own.whole (own_rows who t) files) (sym named)
          (all_read name own.whole files s t is);
      writes = subst (λ who. WritesRowsOf who s t) (sym named) is.writes;
      still = is.still;
      below = is.below;
      keys = λ n. omega (arith, is.keys n, ap (λ who. keyed_rows n (own_rows who s)) named);
    }

pub none_remembered : (names : List (List ℕ)) (hub : List Part) (s : SpoolContents) → IsOrdered s
    → AreRemembered names hub [] s s
none_remembered names hub s ordered = record {
  each = λ c own there is. absurd (omega (arith, there));
  records = refl;
  ordered = ordered;
  others = λ name foreign. refl;
  still = still_same s.files;
  below = λ end low. low;
}

module _ (names : List (List ℕ)) (hub : List Part) (rows : List (ℕ × File)) (owns : List OwnFiles) (own : OwnFiles)
    (s t u : SpoolContents) (rows_are : rows ≡ s.files) (distinct : AreDistinct names)
    (reads : AllAreRead names hub s) (few : length owns < length names)
    (pure : IsOwnOf (name_at names (length owns)) (part (length owns) hub).customer.spool own)
    (so_far : AreRemembered names hub owns s t) where
  not_yet : (j : ℕ) → j < length owns → name_at names j ≢ name_at names (length owns)
  not_yet j low same = omega (arith, low, apart names distinct j (length owns) (omega (arith, low, few)) few same)

  named : own.name ≡ name_at names (length owns)
  named = pure.name_is

  rows_stay : own_rows (name_at names (length owns)) t ≡ own_rows (name_at names (length owns)) s
  rows_stay = so_far.others (name_at names (length owns)) not_yet

  module _ (one : Remembering (name_at names (length owns)) rows (files_at (length owns) hub) own t u) where
    done : IsRemembered own (files_at (length owns) hub) t u
    done =
        one so_far.ordered (ap (owned_of (name_at names (length owns))) rows_are ∙ sym rows_stay)
        (subst (λ (es : List (ℕ × File)). AllZip (IsReadFor t) es (files_at (length owns) hub)) (sym rows_stay)
        (all_read_same s t so_far.records (own_rows (name_at names (length owns)) s) (files_at (length owns) hub)
        (reads (length owns) few)))

    still : (other : OwnFiles) (files : List WholeFile) → other.name ≢ own.name → Mirrored t other files
        → Mirrored u other files
    still other files apart_from all =
        mirrored_still t u other files all (done.writes.others other.name apart_from)
        (all_of (λ (k : KeptWhole). records_of k.key u ≡ records_of k.key t)
        (λ k i. records_of k.key (record { files = u.files; records = done.writes.records i })) other.whole)

    this_one : IsCustomer names hub s u (length owns) own
    this_one = record {
      opened = record { owned = pure; mirrored = done.mirrored };
      keys = λ n. done.keys n ∙ ap (λ who. keyed_rows n (own_rows who t)) named ∙ ap (keyed_rows n) rows_stay;
    }

    each_now : (j : ℕ) (other : OwnFiles) → other ≡ get_or (owns ++ own ∷ []) j other
        → (j < length owns) ⊎ (j ≡ length owns) → IsCustomer names hub s u j other
    each_now j other is (inl low) =
        let before = so_far.each j other low (is ∙ get_or_append_left owns (own ∷ []) other j low) in
        let opened = before.opened in
        record {
          opened = record {
            owned = opened.owned;
            mirrored = still other (files_at j hub) (λ same. not_yet j low (sym opened.owned.name_is ∙ same ∙ named))
                opened.mirrored;
          };
          keys = before.keys;
        }
    each_now j other is (inr last) =
        let this : other ≡ own = is ∙ get_or_push owns own other j (sym last) in
        subst (λ (x : OwnFiles). IsCustomer names hub s u j x) (sym this)
        (subst (λ n. IsCustomer names hub s u n own) (sym last) this_one)

    place : (j : ℕ) → j < length (owns ++ own ∷ []) → (j < length owns) ⊎ (j ≡ length owns)
    place j there = elim (cases_lt j (length owns)) [
      | inl low ↦ inl low
      | inr high ↦ inr (omega (arith, high, length_push owns own, there))
    ]

    pub one_more_remembered : AreRemembered names hub (owns ++ own ∷ []) s u
    one_more_remembered = record {
      each = λ j other there is. each_now j other is (place j there);
      records = done.writes.records ∙ so_far.records;
      ordered = done.writes.ordered;
      others = λ name foreign.
          let long = length_push owns own in
          done.writes.others name (λ same. foreign (length owns) (omega (arith, long)) (sym named ∙ sym same))
          ∙ so_far.others name (λ j low. foreign j (omega (arith, long, low)));
      still = still_then s.files t.files u.files so_far.still done.still;
      below = λ end low. done.below end (so_far.below end low);
    }
