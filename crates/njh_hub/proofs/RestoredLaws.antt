-- A hub of which one customer has a whole file more.
use Rattle.std.proofs.Common.{◌≡◌, ℕ, ◌<◌, Bool, true, false, cond, ◌&&◌, List, length, set, slice_set, Option, Some}
use Rattle.std.proofs.Common.{None}
use Rattle.std.proofs.Common.{Result, Ok, Err, IsOk, MatchOption, is_some, refl, sym, ap, subst, ◌∙◌, arith}
use Rattle.std.proofs.lemmas.List.{get_or-set_same, length-set, set-set}
use Rattle.std.proofs.lemmas.List.Elements.{All-push}
use Rattle.njh_header.specs.FileHeaders.{name_of, file_owner, destination_of}
use Rattle.njh_header.specs.WholeFiles.{HasHeaders}
use Rattle.njh_record.specs.Stored.{Stored}
use Rattle.njh_record.specs.declared.Kind.{Kind}
use Rattle.njh_spool.specs.CustomerSpool.{CustomerSpool, WholeFile}
use Rattle.njh_spool.specs.Spools as spools
use Rattle.njh_spool.specs.Restoring.{KeptFile, has_headers, limits_fault, restore_fault, state_back, with_restored}
use Rattle.njh_spool.specs.declared.restoring.fault.RestoreFault.{RestoreFault}
use Rattle.njh_spool.specs.declared.restoring.fault.RestoreFault.TheVariants.{BadHeader}
use Rattle.njh_spool.specs.CustomerSpool.{next_number}
use Rattle.njh_stream.specs.Holding.{unrouted_held}
use Rattle.njh_stream.proofs.TiedLaws.{untouched}
use Rattle.njh_table.specs.TableFile.{NamedCustomer, TableFile, customer_at, entry_of, no_customer}
use Rattle.njh_customer.specs.Customer.{Customer, IsMarked}
use Rattle.njh_customer.specs.code.Coherence.{IsCoherent, streams_to_hub}
use Rattle.njh_customer.specs.Part.{Part, Lines, part_with}
use Rattle.njh_customer.proofs.RoutesMoves.{coherent_given}
use Rattle.njh_hub.specs.Restored.{customer_with_file, part_with_file}
use Rattle.njh_hub.specs.Parts.{lines_at, no_lines, part_held, parts_of}
use Rattle.njh_hub.specs.WholeHub.{part}
use Rattle.njh_hub.specs.code.HubInvariant.{IsHub}
use Rattle.njh_hub.proofs.PartsLaws.{DifferAt, Moves, differ-nowhere, differ-set, part-there, parts-moved}

-- ---- the file's headers read

some_of : {A : Type 0} (o : Option A) → is_some o ≡ true → (x : A) × (o ≡ Some x)
some_of None e = absurd (cc e)
some_of (Some x) e = (x, refl)

both : (a b : Bool) → (a && b) ≡ true → (a ≡ true) × (b ≡ true)
both true b e = (refl, e)
both false b e = absurd (cc e)

pub headers_by : (kind : Kind) (records : List Stored) → has_headers kind records ≡ true → HasHeaders kind records
headers_by kind records reads =
    let first = both (is_some (name_of records)) (is_some (file_owner records) && is_some (destination_of kind records))
    reads in
    let rest = both (is_some (file_owner records)) (is_some (destination_of kind records)) first.1 in
    let name = some_of (name_of records) first.0 in
    let owner = some_of (file_owner records) rest.0 in
    let destination = some_of (destination_of kind records) rest.1 in
    record {
      name = name.0;
      owner = owner.0;
      destination = destination.0;
      named = name.1;
      owned = owner.1;
      goes = destination.1;
    }

read_by : (reads : Bool) (later : Option RestoreFault) (r : Result (Unit {0}) RestoreFault) (x : Unit {0})
    → MatchOption (cond reads later (Some BadHeader)) (IsOk r) (λ f. r ≡ Err f) → r ≡ Ok x → reads ≡ true
read_by true later r x told is = refl
read_by false later r x told is = absurd (cc (sym is ∙ told))

pub restored-headers : (f : KeptFile) (s : CustomerSpool) (r : Result (Unit {0}) RestoreFault) (x : Unit {0})
    → MatchOption (restore_fault f s) (IsOk r) (λ fault. r ≡ Err fault) → r ≡ Ok x → HasHeaders f.kind f.records
restored-headers f s r x told is =
    headers_by f.kind f.records (read_by (has_headers f.kind f.records) (limits_fault f.records s) r x told is)

-- ---- the customer stays coherent

coherent-restored : (f : KeptFile) (c : Customer) → HasHeaders f.kind f.records → IsCoherent c
    → IsCoherent (customer_with_file f c)
coherent-restored f c reads coherent =
    let d : Customer = record c { spool = with_restored f c.spool } in
    let more : IsCoherent d = record {
      tied = untouched (streams_to_hub c.lines) c.spool d.spool refl coherent.tied;
      streamed = coherent.streamed;
      headers =
          All-push (λ (g : WholeFile). HasHeaders g.kind g.records) c.spool.whole
          (record { number = next_number c.spool; kind = f.kind; records = f.records; state = state_back f.held })
          coherent.headers reads;
      quota = coherent.quota;
      limit = coherent.limit;
      marks = coherent.marks;
    } in
    coherent_given d.entry.routes d more

-- ---- the hub

-- The files of a customer have become others: one more, held where its node has no route.
pub record Restores (table : TableFile) (files : List CustomerSpool) (lines : List Lines) (c : ℕ) (f : KeptFile)
    (between after : List CustomerSpool) (entry : NamedCustomer) : Type 0 where
  pub hub : IsHub table files lines
  pub there : c < length table.customers
  pub is_entry : entry ≡ customer_at table c
  pub restored : between ≡ slice_set files c (with_restored f (spools.spool_at c files))
  pub held : after ≡ slice_set between c (unrouted_held (entry_of entry) (spools.spool_at c between))
  pub reads : HasHeaders f.kind f.records

module _ {table : TableFile} {files : List CustomerSpool} {lines : List Lines} {c : ℕ} {f : KeptFile}
    {between after : List CustomerSpool} {entry : NamedCustomer}
    (r : Restores table files lines c f between after entry) where
  abbrev own : CustomerSpool
  own = spools.spool_at c files

  abbrev now : CustomerSpool
  now = unrouted_held (entry_of (customer_at table c)) (with_restored f own)

  range : c < length files
  range = omega (arith, r.there, r.hub.spooled)

  now_is : unrouted_held (entry_of entry) (spools.spool_at c between) ≡ now
  now_is =
      ap (λ (e : NamedCustomer). unrouted_held (entry_of e) (spools.spool_at c between)) r.is_entry
      ∙ ap (λ (ss : List CustomerSpool). unrouted_held (entry_of (customer_at table c)) (spools.spool_at c ss))
      r.restored
      ∙ ap (unrouted_held (entry_of (customer_at table c)))
      (get_or-set_same files c (with_restored f own) spools.no_spool range)

  files_are : after ≡ slice_set files c now
  files_are =
      r.held ∙ ap (slice_set between c) now_is
      ∙ ap (λ (ss : List CustomerSpool). slice_set ss c now) r.restored
      ∙ set-set files c (with_restored f own) now

  held-restored : part_held table after lines c ≡ part_with_file f (part_held table files lines c)
  held-restored =
      ap (λ (s : CustomerSpool). part_with (entry_of (customer_at table c)) s (lines_at c lines))
      (ap (spools.spool_at c) files_are ∙ get_or-set_same files c now spools.no_spool range)

  pub restores : Moves table files lines c table after lines
  restores = record {
    hub = r.hub;
    there = r.there;
    in_table = differ-nowhere no_customer c table.customers;
    in_files = subst (λ (ss : List CustomerSpool). DifferAt spools.no_spool c files ss) (sym files_are)
        (differ-set spools.no_spool c files now);
    in_lines = differ-nowhere no_lines c lines;
    coherent = subst (λ (p : Part). IsCoherent p.customer) (sym held-restored)
        (coherent-restored f (part_held table files lines c).customer r.reads
        (r.hub.coherent c r.there));
    marked = subst (λ (p : Part). IsMarked p.customer) (sym held-restored) (r.hub.marked c r.there);
  }

  pub parts-restored : parts_of table after lines ≡ set (parts_of table files lines) c
      (part_with_file f (part c (parts_of table files lines)))
  parts-restored =
      parts-moved restores
      ∙ ap (set (parts_of table files lines) c)
      (held-restored ∙ ap (part_with_file f) (sym (part-there table files lines c r.there)))

-- the customer's files, as the hub shows them
pub spool-there : (table : TableFile) (files : List CustomerSpool) (lines : List Lines) (c : ℕ)
    → c < length table.customers
    → (part c (parts_of table files lines)).customer.spool ≡ spools.spool_at c files
spool-there table files lines c there = ap (λ (p : Part). p.customer.spool) (part-there table files lines c there)

pub restored-range : (files between : List CustomerSpool) (c : ℕ) (f : KeptFile)
    → between ≡ slice_set files c (with_restored f (spools.spool_at c files)) → c < length files → c < length between
restored-range files between c f restored range =
    omega (
      arith,
      range,
      ap (λ (ss : List CustomerSpool). length ss) restored,
      length-set files c
          (with_restored f (spools.spool_at c files)),
    )
