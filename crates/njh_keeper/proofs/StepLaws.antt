-- One whole file of a spool, put back or not.
use Rattle.njh_keeper.proofs.Words
use Words.{◌≡◌, ℕ, ◌<◌, ◌+◌, List, [], ◌∷◌, ◌++◌, length, map, take, get_or, slice_set, Option, Some, None, sym, ap}
use Words.{subst, ◌∙◌, map-append, take_more, map-map, State, StoredFile, StoredRecord, SpoolContents, Whole, Holds}
use Words.{contents_in, contents_of, kept, records_of, whole_in, entry_of, Stays, Part, part, NoneFails, hub_fault}
use Words.{hub_with, hub_with_all, number_of, wholes, FileFault, Contents, file_fault, whole_fault, with_whole}
use Words.{Database, AllAreBack, hub_opened, drop, append_assoc, take-append-drop, AreDistinct}
use Words.{◌==◌, append-nil, CommitState, Err, File, file_of, get_or, IfOk, inl, inr, length-append, Ok, OnOk}
use Words.{option_map, put, refl, Result, Rise, Stands, arith}
use Words.{drop_more, slice_get, TableFile, part_at_open, DepotFault, without}
use Rattle.{sqlite.specs.Tree.Trees, njh_spoolfile.{proofs.ReadingLaws.of_file, specs.Kept.records_between}}
use Rattle.std.{proofs.lemmas.List.{get_or_at, set_at}, specs.List.cons_option}
use Rattle.njh_keeper.proofs.{AsideLaws.{kept_tried, none_fails, refused_at, tried_more}, NumberedLaws.put_at}
use Rattle.njh_keeper.{proofs.HubLaws.{more, all_back, opened}, specs.Faults.{IsNoFile, Tells}}
use Rattle.njh_keeper.specs.{Opened.with_file, Refusal.{Refusal, refusal_of}, code.Refusing.Notes}
use Rattle.njh_keeper.specs.SetAside.{all_refused, all_tried, fresh_hub, IsFirstRefused, names_in, refusal, refusals}
use Rattle.njh_keeper.specs.SetAside.{row_of, spool_tried, tried}
use Rattle.njh_keeper.specs.code.Restoring.{AreTried, IsTried, IsWrittenAs, KeepsCommit, spool_midway, StopsAt, StopsOn}
use Rattle.njh_keeper.specs.declared.fault.RefusedFile.{RefusedFile}
use Rattle.njh_keeper.specs.declared.fault.OpeningFault.{OpeningFault, TheVariants.{Memory, Store, File as Refused}}
use Rattle.njh_table.specs.TableFile.{entry_of as entry_in}
use Rattle.njh_turns.specs.declared.depot.DepotFault.TheVariants as depot

pub ok_both : {T E : Type 0} (r : Result T E) {P : T → Type 0} {Q R : Type 0} → IfOk r P → OnOk r Q
    → ((x : T) → P x → Q → R) → OnOk r R
ok_both (Ok x) one other both = both x one other
ok_both (Err e) one other both = tt

-- ---- the records of a file are those between two numbers

pub all_read : (spool : SpoolContents) (trees : Trees) (key : ℕ) (read : List StoredRecord) → Holds spool trees
    → map contents_of read ≡ contents_in (records_between key 0 8388608 spool)
    → map contents_of read ≡ contents_in (records_of key spool)
all_read spool trees key read held is = is ∙ ap contents_in (of_file key spool.records held.numbered)

-- ---- by the number of its customer

module _ (names : List (List ℕ)) (hub : List Part) (w : Whole) where
  pub with_it : (c : ℕ) (read : List Contents) (new : List Part) → number_of names w.file.customer ≡ Some c
      → read ≡ w.records → new ≡ slice_set hub c (with_file (part c hub) w.file read) → new ≡ hub_with names hub w
  with_it c read new is whole moved =
      moved ∙ ap (λ (rs : List Contents). slice_set hub c (with_file (part c hub) w.file rs)) whole
      ∙ sym (ap (λ (o : Option ℕ). elim o as (λ _. List Part)
      [ None ↦ hub | Some d ↦ slice_set hub d (with_whole (part d hub) w) ]) is)

  pub fault_is : (c : ℕ) (read : List Contents) → number_of names w.file.customer ≡ Some c → read ≡ w.records
      → hub_fault names hub w ≡ file_fault (part c hub) w.file read
  fault_is c read is whole =
      ap (λ (o : Option ℕ). elim o as (λ _. Option FileFault) [ None ↦ None | Some d ↦ whole_fault (part d hub) w ]) is
      ∙ ap (λ (rs : List Contents). file_fault (part c hub) w.file rs) (sym whole)

-- ---- one file more

pub wholes_more : (spool : SpoolContents) (files : List StoredFile) (at : ℕ) (f : StoredFile) → at < length files
    → f ≡ get_or files at f
    → wholes spool (take (at + 1) files) ≡ wholes spool (take at files) ++ whole_in spool (entry_of f) ∷ []
wholes_more spool files at f low here =
    let G : StoredFile → Whole = λ x. whole_in spool (entry_of x) in
    ap (map G) (take_more files at f low) ∙ map-append G (take at files) (get_or files at f ∷ [])
    ∙ ap (λ (x : StoredFile). map G (take at files) ++ G x ∷ []) (sym here)

around : (files : List StoredFile) (at : ℕ) (f : StoredFile) → at < length files → f ≡ get_or files at f
    → files ≡ take at files ++ f ∷ drop (at + 1) files
around files at f low here =
    sym (take-append-drop (at + 1) files) ∙ ap (λ (xs : List StoredFile). xs ++ drop (at + 1) files)
    (take_more files at f low) ∙ append_assoc (take at files) (get_or files at f ∷ []) (drop (at + 1) files)
    ∙ ap (λ (x : StoredFile). take at files ++ x ∷ drop (at + 1) files) (sym here)

-- ---- the row of one is written

module _ (names : List (List ℕ)) (hub now new : List Part) (spool : SpoolContents) (files : List StoredFile) (at : ℕ)
    (f : StoredFile) (low : at < length files) (here : f ≡ get_or files at f) where
  abbrev done : List StoredFile
  done = take at files

  abbrev left : List StoredFile
  left = drop (at + 1) files

  abbrev midway : SpoolContents
  midway = spool_midway names hub spool done (drop at files)

  abbrev w : Whole
  w = whole_in spool (entry_of f)

  abbrev before : List (ℕ × File)
  before = map row_of (all_tried names hub (wholes spool done))

  abbrev behind : List (ℕ × File)
  behind = map entry_of left

  next : drop at files ≡ f ∷ left
  next = drop_more files at f low ∙ ap (λ x. x ∷ left) (sym here)

  rows_midway : midway.files ≡ before ++ entry_of f ∷ behind
  rows_midway = ap (λ xs. before ++ map entry_of xs) next

  module _ (so_far : now ≡ hub_with_all names hub (all_tried names hub (wholes spool done))) where
    abbrev now_tried : Whole
    now_tried = tried names now w

    tried_next : all_tried names hub (wholes spool (take (at + 1) files))
        ≡ all_tried names hub (wholes spool done) ++ now_tried ∷ []
    tried_next =
        ap (all_tried names hub) (wholes_more spool files at f low here)
        ∙ tried_more names hub (wholes spool done) w
        ∙ ap (λ ps. all_tried names hub (wholes spool done) ++ tried names ps w ∷ []) (sym so_far)

    rows_next : (spool_midway names hub spool (take (at + 1) files) left).files ≡ before ++ row_of now_tried ∷ behind
    rows_next =
        ap (λ ws. map row_of ws ++ behind) tried_next
        ∙ ap (λ es. es ++ behind) (map-append row_of (all_tried names hub (wholes spool done)) (now_tried ∷ []))
        ∙ append_assoc before (row_of now_tried ∷ []) behind

    spool_next : (u : SpoolContents) → Rise midway.files
        → IsWrittenAs f.id (file_of f.file) now_tried.file midway u
        → u ≡ spool_midway names hub spool (take (at + 1) files) left
    spool_next u up (inl is) =
        let e = entry_of f in
        let rise : Rise (before ++ e ∷ behind) = subst Rise rows_midway up in
        let place : put (f.id, now_tried.file) (without (λ n. n == f.id) midway.files) ≡ before ++ row_of now_tried
        ∷ behind =
        ap (λ es. put (f.id, now_tried.file) (without (λ n. n == f.id) es)) rows_midway
        ∙ put_at (before ++ e ∷ behind) (length before) e now_tried.file rise
        (omega (arith, length-append before (e ∷ behind)))
        (sym (get_or_at before e behind e (length before) refl))
        ∙ set_at before e behind (f.id, now_tried.file) (length before) refl in
        is ∙ (λ i. record spool { files = (place ∙ sym rows_next) i })
    spool_next u up (inr same) =
        same.0
        ∙ (λ i. record spool {
          files = (rows_midway ∙ ap (λ file. before ++ (f.id, file) ∷ behind) (sym same.1)
              ∙ sym rows_next) i;
        })

    told_next : refusals names hub (wholes spool (take (at + 1) files))
        ≡ refusals names hub (wholes spool done) ++ cons_option (refusal names now w) []
    told_next =
        ap (refusals names hub) (wholes_more spool files at f low here)
        ∙ refused_at names hub (wholes spool done) w []
        ∙ ap (λ ps. refusals names hub (wholes spool done) ++ cons_option (refusal names ps w) []) (sym so_far)

    hub_next : new ≡ hub_with names now now_tried
        → new ≡ hub_with_all names hub (all_tried names hub (wholes spool (take (at + 1) files)))
    hub_next one =
        one ∙ ap (λ ps. hub_with names ps now_tried) so_far
        ∙ sym (ap (hub_with_all names hub) tried_next
        ∙ more names hub (all_tried names hub (wholes spool done)) now_tried)

  -- one more was tried
  pub one_more_tried : {told : List Refusal} {one : Option RefusedFile} {old_at new_at : State}
      → AreTried names hub now done (drop at files) told spool old_at
      → IsTried names now new f one midway new_at
      → AreTried names hub new (take (at + 1) files) left (told ++ cons_option (option_map refusal_of one) []) spool
      new_at
  one_more_tried {told} {one} {old_at} {new_at} so_far is = record {
    hub = hub_next so_far.hub is.hub;
    told_are = (λ i. so_far.told_are i ++ cons_option (is.told_is i) []) ∙ sym (told_next so_far.hub);
    holds = subst (λ u. Holds u new_at.now.trees)
        (spool_next so_far.hub is.row.left so_far.holds.files_rise is.row.written) is.row.holds;
  }

  -- it is the first that isn't put back
  pub first_told : {told : List Refusal} {old_at : State}
      → AreTried names hub now done (drop at files) told spool old_at → told ≡ [] → (fault : OpeningFault)
      → StopsAt (refusal names now w) fault
      → StopsOn names hub (wholes spool files) fault
  first_told so_far none Memory stops = tt
  first_told so_far none (Store error) stops = tt
  first_told so_far none (Refused it) stops =
      let split : wholes spool files ≡ wholes spool done ++ w ∷ wholes spool left =
      ap (wholes spool) (around files at f low here)
      ∙ map-append (λ x. whole_in spool (entry_of x)) done (f ∷ left) in
      let first = hub_with_all names hub (all_tried names hub (wholes spool done)) in
      let rest = refusals names (hub_with names now (tried names now w)) (wholes spool left) in
      ap (λ ws. slice_get (refusals names hub ws) 0) split
      ∙ ap (λ rs. slice_get rs 0) (refused_at names hub (wholes spool done) w (wholes spool left))
      ∙ ap (λ rs. slice_get (rs ++ refusals names first (w ∷ wholes spool left)) 0) (sym so_far.told_are ∙ none)
      ∙ ap (λ ps. slice_get (refusals names ps (w ∷ wholes spool left)) 0) (sym so_far.hub)
      ∙ ap (λ o. slice_get (cons_option o rest) 0) stops

-- What was found: the customers' names, the files without their records, and the hub as it was opened.
pub record Finds (table : TableFile) (spool : SpoolContents) (names : List (List ℕ)) (hub : List Part)
    (files : List StoredFile) : Type 0 where
  pub distinct : AreDistinct (map (λ c. c.name) table.customers)
  pub names_are : names ≡ map (λ c. c.name) table.customers
  pub hub_is : hub ≡ map part_at_open (map entry_in table.customers)
  pub files_are : map entry_of files ≡ spool.files

-- it is so in a spool file that a call left as it was
pub found_in : (table : TableFile) {names : List (List ℕ)} {hub : List Part} {files : List StoredFile}
    {old mid : State} → Stays old mid → AreDistinct (map (λ c. c.name) table.customers)
    → names ≡ map (λ c. c.name) table.customers → hub ≡ map part_at_open (map entry_in table.customers)
    → ((spool : SpoolContents) → Holds spool old.now.trees → map entry_of files ≡ spool.files)
    → (spool : SpoolContents) → Holds spool old.now.trees
    → Finds table spool names hub files × Holds spool mid.now.trees
found_in table same distinct names_are hub_is files_are spool held = (
  record { distinct = distinct; names_are = names_are; hub_is = hub_is; files_are = files_are spool held },
  subst (λ (d : Database). Holds spool d.trees) (sym same.now) held,
)

module _ {table : TableFile} {spool : SpoolContents} {names : List (List ℕ)} {hub : List Part} {files : List StoredFile}
    (f : Finds table spool names hub files) where
  all_are : wholes spool files ≡ kept spool
  all_are = sym (map-map (whole_in spool) entry_of files) ∙ ap (map (whole_in spool)) f.files_are

  abbrev tried_of : SpoolContents
  tried_of = spool_tried table spool

  all_of_them : all_tried names hub (wholes spool files)
      ≡ all_tried (names_in table) (fresh_hub table) (kept spool)
  all_of_them = λ i. all_tried (f.names_are i) (f.hub_is i) (all_are i)

  pub opens : (new : List Part) → new ≡ hub_with_all names hub (all_tried names hub (wholes spool files))
      → new ≡ hub_opened table tried_of
  opens new is =
      is ∙ (λ i. hub_with_all (f.names_are i) (f.hub_is i) (all_of_them i))
      ∙ ap (hub_with_all (names_in table) (fresh_hub table))
      (sym (kept_tried (names_in table) (fresh_hub table) spool)) ∙ opened table f.distinct tried_of

  pub come_back : AllAreBack table (kept tried_of)
  come_back =
      all_back table f.distinct (kept tried_of)
      (subst (NoneFails (names_in table) (fresh_hub table))
      (sym (kept_tried (names_in table) (fresh_hub table) spool))
      (none_fails (names_in table) (fresh_hub table) (kept spool)))

  told_all : refusals names hub (wholes spool files) ≡ all_refused table spool
  told_all = λ i. refusals (f.names_are i) (f.hub_is i) (all_are i)

  pub told_of : (told : List Refusal) → told ≡ refusals names hub (wholes spool files)
      → told ≡ all_refused table spool
  told_of told is = is ∙ told_all

  pub stands_tried : spool_midway names hub spool files [] ≡ tried_of
  stands_tried = λ i. record spool {
    files = (append-nil (map row_of (all_tried names hub (wholes spool files)))
        ∙ ap (map row_of) all_of_them) i;
  }

  pub stands_so : (s : CommitState) (old mid new : State) → s.now ≡ spool → Stays old mid → KeepsCommit mid new
      → Stands s old → Holds (spool_midway names hub spool files []) new.now.trees
      → Stands (record s { now = tried_of }) new
  stands_so s old mid new here same keeps stands held = record {
    is_open = keeps.is_open (same.is_open stands.is_open);
    now = subst (λ u. Holds u new.now.trees) stands_tried held;
    kept = subst (λ (d : Database). Holds s.kept d.trees) (sym (keeps.committed ∙ same.committed)) stands.kept;
  }

  pub tells : (fault : OpeningFault) → StopsOn names hub (wholes spool files) fault → Tells table spool fault
  tells Memory h = tt
  tells (Store error) h = tt
  tells (Refused it) h = ap (λ rs. slice_get rs 0) (sym told_all) ∙ h

-- ---- the file that ends it

-- a whole file that is told is noted
pub noted_so : (table : TableFile) (spool : SpoolContents) (fault : OpeningFault) (told : DepotFault)
    (after : List Refusal) → Notes fault told after → told ≡ depot.Refused → Tells table spool fault
    → IsFirstRefused table spool after
noted_so table spool Memory told after noted is tells = absurd (cc (noted, is))
noted_so table spool (Store error) told after noted is tells = absurd (noted is)
noted_so table spool (Refused it) told after noted is tells = (refusal_of it, noted is, tells)

-- no whole file is refused where none is told
pub refused_none : (fault : OpeningFault) (told : DepotFault) (after : List Refusal) → Notes fault told after
    → told ≡ depot.Refused → IsNoFile fault → ⊥
refused_none Memory told after noted is none = cc (noted, is)
refused_none (Store error) told after noted is none = noted is
refused_none (Refused it) told after noted is none = none
