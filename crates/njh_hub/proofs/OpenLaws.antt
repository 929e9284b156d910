-- A hub that is opened.
use Rattle.std.proofs.Common.{◌≡◌, ℕ, ◌<◌, ◌≤◌, List, length, map, ap, ap₂, sym, subst, ◌∙◌, arith}
use Rattle.std.proofs.lemmas.List.{get_or-map, length-map, ext_get_or}
use Rattle.std.proofs.lemmas.List.Elements.{All-map}
use Rattle.njh_spool.specs.CustomerSpool.{CustomerSpool}
use Rattle.njh_spool.specs.Spools as spools
use Rattle.njh_table.specs.Accepted.{IsAccepted}
use Rattle.njh_table.specs.Entries.{CustomerEntry}
use Rattle.njh_table.specs.Marks.{customer_unmarked, entry_unmarked, without_marks}
use Rattle.njh_table.specs.TableFile.{TableFile, no_customer, customer_at, entry_of}
use Rattle.njh_table.proofs.MarkLaws.{each_entry-unmarked}
use Rattle.njh_customer.specs.Customer.{IsMarked}
use Rattle.njh_customer.specs.code.Coherence.{IsCoherent}
use Rattle.njh_customer.specs.Part.{Lines, part_with}
use Rattle.njh_customer.proofs.{CoherenceLaws.fresh_coherent, MarkLaws.marks_right}
use Rattle.njh_hub.specs.WholeHub.{Part, part_at_open, no_entry, no_part}
use Rattle.njh_hub.specs.Parts.{empty_files, entries_of, lines_at, part_held, parts_of}
use Rattle.njh_hub.specs.code.HubInvariant.{IsHub}
use Rattle.njh_hub.proofs.PartsLaws.{length-parts_of, part-there}

-- All marks of a table were taken away, and the files and the lines of its customers were opened.
pub record AreOpened (from table : TableFile) (files : List CustomerSpool) (lines : List Lines) : Type 0 where
  pub down : table ≡ without_marks from
  pub empty : files ≡ map empty_files table.customers
  pub count : length lines ≡ length table.customers
  pub each : (c : ℕ) → c < length table.customers →
      part_with (entry_unmarked (entry_of (customer_at table c))) (empty_files (customer_at table c)) (lines_at c lines)
      ≡ part_at_open (entry_of (customer_at table c))

-- there are as many customers, with the entries that they had, without their marks
pub as_many : {from table : TableFile} {files : List CustomerSpool} {lines : List Lines}
    → AreOpened from table files lines
    → length table.customers ≡ length from.customers
as_many {from} {table} {files} {lines} o =
    ap (λ (t : TableFile). length t.customers) o.down ∙ length-map from.customers customer_unmarked

pub entry-down : {from table : TableFile} {files : List CustomerSpool} {lines : List Lines}
    → AreOpened from table files lines
    → (c : ℕ) → c < length table.customers
    → entry_of (customer_at table c) ≡ entry_unmarked (entry_of (customer_at from c))
entry-down {from} {table} {files} {lines} o c there =
    ap (λ t. entry_of (customer_at t c)) o.down ∙ each_entry-unmarked from c (omega (arith, there, as_many o))

-- the part of each is that of a customer just opened
pub held-opened : {from table : TableFile} {files : List CustomerSpool} {lines : List Lines}
    → AreOpened from table files lines
    → (c : ℕ) → c < length table.customers
    → part_held table files lines c ≡ part_at_open (entry_of (customer_at table c))
held-opened {from} {table} {files} {lines} o c there =
    let is : entry_of (customer_at table c) ≡ entry_unmarked (entry_of (customer_at table c)) =
    entry-down o c there ∙ ap entry_unmarked (sym (entry-down o c there)) in
    ap₂ (λ (e : CustomerEntry) (s : CustomerSpool). part_with e s (lines_at c lines)) is
    (ap (spools.spool_at c) o.empty ∙ get_or-map empty_files table.customers c no_customer spools.no_spool there)
    ∙ o.each c there

-- the list of all parts
pub parts-opened : {from table : TableFile} {files : List CustomerSpool} {lines : List Lines}
    → AreOpened from table files lines
    → parts_of table files lines ≡ map part_at_open (entries_of from)
parts-opened {from} {table} {files} {lines} o =
    let long = length-parts_of table files lines in
    let entries = length-map from.customers entry_of in
    ext_get_or no_part (parts_of table files lines) (map part_at_open (entries_of from))
    (long ∙ as_many o ∙ sym (length-map (entries_of from) part_at_open ∙ entries))
    (λ (c : ℕ) (within : c < length (parts_of table files lines)).
    let there : c < length table.customers = omega (arith, within, long) in
    let was_there : c < length from.customers = omega (arith, there, as_many o) in
    part-there table files lines c there ∙ held-opened o c there ∙ ap part_at_open (entry-down o c there)
    ∙ ap part_at_open (sym (get_or-map entry_of from.customers c no_customer no_entry was_there))
    ∙ sym (get_or-map part_at_open (entries_of from) c no_entry no_part (omega (arith, was_there, entries))))

-- it belongs together
pub hub-opened : {from table : TableFile} {files : List CustomerSpool} {lines : List Lines}
    → AreOpened from table files lines
    → IsAccepted table
    → IsHub table files lines
hub-opened {from} {table} {files} {lines} o accepted = record {
  spooled = ap length o.empty ∙ length-map table.customers empty_files;
  lined = o.count;
  coherent = λ (c : ℕ) (there : c < length table.customers).
      let named = customer_at table c in
      let customer = accepted.each c no_customer there in
      subst (λ (p : Part). IsCoherent p.customer) (sym (held-opened o c there))
      (fresh_coherent (entry_of named)
      (All-map (λ line. line.streams ≤ 4) (λ l. l.entry) named.lines (λ i d h. (customer.lines i d h).streams.1)));
  marked = λ (c : ℕ) (there : c < length table.customers).
      subst (λ (p : Part). IsMarked p.customer) (sym (held-opened o c there))
      (marks_right.fresh (entry_of (customer_at table c)));
}
