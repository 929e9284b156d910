-- The whole files of a hub that was opened from a spool file: from which rows they were read, and that each is found by
-- its number.
use Rattle.njh_keeper.proofs.Words
use Words.{◌≡◌, ℕ, ◌<◌, List, [], ◌∷◌, length, get_or, drop, map, Option, Some, sym, ap, subst, ◌∙◌, arith, get_or-map}
use Words.{length-map, AllZip, File, SpoolContents, Whole, contents_in, kept, records_of, whole_in, CustomerEntry}
use Words.{entry_unmarked, NamedCustomer, TableFile, customer_at, no_customer, next_number-fresh, WholeFile}
use Words.{with_arrived, KeptFile, records_in, Part, no_part, part, part_at_open, own_rows, AreFound, IsReadFor}
use Words.{files_at, name_at, AllAreBack, AreBack, file_in, hub_opened, own_files, part_opened, OpenedFile, as_opened}
use Words.{cond, destination_of, destination_unrouted, map-map, Held, is_held, kept_file, opened_of, Ready, ◌||◌}
use Rattle.njh_keeper.{proofs.KeptAside.{AreKeptAlike, alike_some}, specs.{code.Opening.IsWritten, Keeper.IsStillKept}}
use Rattle.{njh_table.specs.TableFile.entry_of as entry_in, njh_customer.proofs.FileLimits.{apart_arrived, apart_fresh}}
use Rattle.njh_customer.{proofs.FileLimits.{apart_routes, whole_distinct}, specs.InOrder.AreApart}
use Rattle.njh_keeper.proofs.{BegunLaws.all_by_place, NewFilesLaws.records_at, OpenedLaws.{fits_in, put_back, stays_so}}
use Rattle.njh_keeper.proofs.{OpenedLaws.{new, opened_files}, ReadBackLaws.is_read_as, RowLaws.own_files_are}
use Rattle.njh_keeper.proofs.WalkLaws.{are_numbered}

-- ---- from which rows

-- a row that is read as a file is read as the hub's
read_for : (s : SpoolContents) (e : ℕ × File) (f : KeptFile) (g : WholeFile)
    → file_in e.1 (contents_in (records_of e.1.key s)) ≡ Some f → g.kind ≡ f.kind → g.records ≡ f.records
    → IsReadFor s e g
read_for s e f g is kind records =
    let read = is_read_as s e.1 f is in
    is ∙ (λ i. Some (record { kind = sym kind i; held = sym read.held i; records = sym records i }))

read_from : (s : SpoolContents) (entry : CustomerEntry) (es : List (ℕ × File)) (gs : List WholeFile)
    (fs : List KeptFile) → map (λ w. file_in w.file w.records) (map (whole_in s) es) ≡ map Some fs
    → map opened_of gs ≡ map (as_opened entry) fs → AllZip (IsReadFor s) es gs
read_from s entry [] [] fs all opened = tt
read_from s entry [] (g ∷ gs) [] all opened = absurd (let long = ap length opened in omega (arith, long))
read_from s entry [] (g ∷ gs) (f ∷ fs) all opened = absurd (let long = ap length all in omega (arith, long))
read_from s entry (e ∷ es) gs [] all opened = absurd (let long = ap length all in omega (arith, long))
read_from s entry (e ∷ es) [] (f ∷ fs) all opened = absurd (let long = ap length opened in omega (arith, long))
read_from s entry (e ∷ es) (g ∷ gs) (f ∷ fs) all opened =
    let first : file_in e.1 (contents_in (records_of e.1.key s)) ≡ Some f =
    ap (λ (os : List (Option KeptFile)). get_or os 0 (Some f)) all in
    let here : opened_of g ≡ as_opened entry f = ap (λ (os : List OpenedFile). get_or os 0 (opened_of g)) opened in (
      read_for s e f g first (ap (λ (o : OpenedFile). o.kind) here) (ap (λ (o : OpenedFile). o.records) here),
      read_from s entry es gs fs (ap (λ (os : List (Option KeptFile)). drop 1 os) all)
          (ap (λ (os : List OpenedFile). drop 1 os) opened),
    )

-- what is written of them is the same, but that some are Held now
still_kept : (entry : CustomerEntry) (gs : List WholeFile) (fs : List KeptFile)
    → map opened_of gs ≡ map (as_opened entry) fs → AllZip IsStillKept fs (map kept_file gs)
still_kept entry [] [] opened = tt
still_kept entry [] (f ∷ fs) opened = absurd (let long = ap length opened in omega (arith, long))
still_kept entry (g ∷ gs) [] opened = absurd (let long = ap length opened in omega (arith, long))
still_kept entry (g ∷ gs) (f ∷ fs) opened =
    let here : opened_of g ≡ as_opened entry f = ap (λ (os : List OpenedFile). get_or os 0 (opened_of g)) opened in (
      record {
        kind = ap (λ (o : OpenedFile). o.kind) here;
        records = ap (λ (o : OpenedFile). o.records) here;
        held = λ was. ap (λ (o : OpenedFile). is_held o.state) here
            ∙ ap (λ b. is_held (cond (b || destination_unrouted entry (destination_of f.kind f.records)) Held Ready))
            was;
      },
      still_kept entry gs fs (ap (λ (os : List OpenedFile). drop 1 os) opened),
    )

-- ---- by its number

-- each number is one file's
opened_apart : (entry : CustomerEntry) (ws : List Whole) → AreBack (part_at_open entry) ws
    → AreApart (part_opened entry ws).customer.spool
opened_apart entry ws back =
    let put = put_back ws (part_at_open entry) back in
    stays_so (λ p. AreApart p.customer.spool) (λ f p none apart.
    let s = p.customer.spool in
    apart_routes p.customer.entry.routes (record p.customer { spool = with_arrived (new p f) s })
    (apart_arrived (new p f) s (next_number-fresh s (fits_in f s none).room) apart))
    ws put.0 (part_at_open entry) (part_opened entry ws) put.1 (apart_fresh entry)

-- ---- all customers

module _ (table : TableFile) (spool : SpoolContents) (back : AllAreBack table (kept spool)) (names : List (List ℕ))
    (are : names ≡ map (λ c. c.name) table.customers) (c : ℕ) (low : c < length names) where
  there : c < length table.customers
  there = omega (arith, low, ap length are, length-map table.customers (λ (x : NamedCustomer). x.name))

  abbrev its_entry : CustomerEntry
  its_entry = entry_in (customer_at table c)

  abbrev its_name : List ℕ
  its_name = (customer_at table c).name

  abbrev its_part : Part
  its_part = part_opened its_entry (own_files its_name spool)

  part_is : (P : Part → Type 0) → P its_part → P (part c (hub_opened table spool))
  part_is P so = subst P (sym (get_or-map (λ (x : NamedCustomer). part_opened (entry_in x) (own_files x.name spool))
      table.customers c no_customer no_part there)) so

  named : name_at names c ≡ its_name
  named = ap (λ ns. get_or ns c []) are
      ∙ get_or-map (λ (x : NamedCustomer). x.name) table.customers c no_customer [] there

  pub all_found : AreFound (part c (hub_opened table spool)).customer.spool
  all_found = part_is (λ (p : Part). AreFound p.customer.spool)
      (let s = its_part.customer.spool in
      let apart = opened_apart its_entry (own_files its_name spool) (back c there) in
      all_by_place (λ g. records_in g.number s ≡ g.records) s.whole
      (λ i g at is. records_at s i g (are_numbered s.whole (whole_distinct s apart)) at is))

  pub all_read_from : AllZip (IsReadFor spool) (own_rows (name_at names c) spool) (files_at c (hub_opened table spool))
  all_read_from =
      let opened = opened_files its_entry (own_files its_name spool) (back c there) in
      let rows : map (λ (w : Whole). file_in w.file w.records) (map (whole_in spool) (own_rows its_name spool))
      ≡ map Some opened.files =
      ap (map (λ (w : Whole). file_in w.file w.records)) (sym (own_files_are its_name spool)) ∙ opened.all in
      part_is (λ (p : Part). AllZip (IsReadFor spool) (own_rows (name_at names c) spool) p.customer.spool.whole)
      (subst (λ who. AllZip (IsReadFor spool) (own_rows who spool) its_part.customer.spool.whole) (sym named)
      (read_from spool (entry_unmarked its_entry) (own_rows its_name spool) its_part.customer.spool.whole opened.files
      rows opened.whole))

  pub all_alike : (t : SpoolContents) → IsWritten names (hub_opened table spool) spool t
      → AllZip (λ e f. AreKeptAlike (file_in e.1 (contents_in (records_of e.1.key spool)))
      (file_in f.1 (contents_in (records_of f.1.key t))))
      (own_rows (name_at names c) spool) (own_rows (name_at names c) t)
  all_alike t written =
      let name = name_at names c in
      let read = λ (w : Whole). file_in w.file w.records in
      let files = files_at c (hub_opened table spool) in
      let opened = opened_files its_entry (own_files its_name spool) (back c there) in
      let row = λ (s : SpoolContents) (e : ℕ × File). file_in e.1 (contents_in (records_of e.1.key s)) in
      let before : map (row spool) (own_rows name spool) ≡ map Some opened.files =
      sym (map-map read (whole_in spool) (own_rows name spool)) ∙ ap (map read) (sym (own_files_are name spool))
      ∙ ap (λ n. map read (own_files n spool)) named ∙ opened.all in
      let now : map (row t) (own_rows name t) ≡ map Some (map kept_file files) =
      sym (map-map read (whole_in t) (own_rows name t)) ∙ ap (map read) (sym (own_files_are name t))
      ∙ written.each c low in
      alike_some (row spool) (row t) (own_rows name spool) (own_rows name t) opened.files (map kept_file files) before
      now
      (part_is (λ (p : Part). AllZip IsStillKept opened.files (map kept_file p.customer.spool.whole))
      (still_kept (entry_unmarked its_entry) its_part.customer.spool.whole opened.files opened.whole))
