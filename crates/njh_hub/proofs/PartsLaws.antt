-- The parts that a table, the files of all customers and their lines make.
use Rattle.std.proofs.Common.{◌≡◌, ◌≢◌, ℕ, zero, suc, eqb, true, false, ◌<◌, ◌≤◌, List, length, set, get_or, slice_set}
use Rattle.std.proofs.Common.{refl, ap}
use Rattle.std.proofs.Common.{ap₂, sym, subst, ◌∙◌, ⊎_elim, [], ◌∷◌, arith}
use Rattle.std.proofs.lemmas.List.{get_or_read, get_or_past, get_or-set_same, get_or-set_other, length-set, ext_get_or}
use Rattle.std.proofs.lemmas.List.FromFn.{length-map-range_with_len, get_or-map-range_with_len}
use Rattle.std.proofs.lemmas.Bool.{cases_lt}
use Rattle.std.proofs.lemmas.Bool.Decides.{eqb_tells}
use Rattle.njh_spool.specs.CustomerSpool.{CustomerSpool}
use Rattle.njh_spool.specs.Spools as spools
use Rattle.njh_stream.specs.WholeFiles.{HaveHeaders}
use Rattle.njh_table.specs.declared.LineId.{LineId}
use Rattle.njh_table.specs.TableFile.{NamedCustomer, TableFile, customer_at, entry_of, no_customer}
use Rattle.njh_customer.specs.Customer.{IsMarked}
use Rattle.njh_customer.specs.code.Coherence.{IsCoherent}
use Rattle.njh_customer.specs.declared.shared.Shared.{Shared}
use Rattle.njh_customer.specs.CustomerSteps.{IsReady, KeepsOtherEntries}
use Rattle.njh_customer.specs.Part.{Part, Lines, part_with}
use Rattle.njh_hub.specs.WholeHub.{no_part, part, HasLine, SameLines}
use Rattle.njh_hub.specs.Parts.{lines_at, no_lines, part_held, parts_of}
use Rattle.njh_hub.specs.code.HubInvariant.{IsHub}

pub length-parts_of : (table : TableFile) (files : List CustomerSpool) (lines : List Lines)
    → length (parts_of table files lines) ≡ length table.customers
length-parts_of table files lines = length-map-range_with_len (part_held table files lines) 0 (length table.customers)

-- the part of a customer that is there
pub part-there : (table : TableFile) (files : List CustomerSpool) (lines : List Lines) (c : ℕ)
    → c < length table.customers
    → part c (parts_of table files lines) ≡ part_held table files lines c
part-there table files lines c there =
    get_or-map-range_with_len (part_held table files lines) 0 (length table.customers) c c no_part there (omega arith)

-- the whole files of a customer that is there have headers that read
pub headers-there : (table : TableFile) (files : List CustomerSpool) (lines : List Lines) (c : ℕ)
    → IsHub table files lines
    → c < length table.customers → HaveHeaders (part c (parts_of table files lines)).customer.spool.whole
headers-there table files lines c hub there =
    subst (λ (p : Part). HaveHeaders p.customer.spool.whole) (sym (part-there table files lines c there))
    (hub.coherent c there).headers

-- a line stands with a customer that is there
pub line-there : (table : TableFile) (files : List CustomerSpool) (lines : List Lines) (id : LineId)
    → HasLine (parts_of table files lines) id → id.customer < length table.customers
line-there table files lines id known =
    ⊎_elim (λ (w : id.customer < length table.customers). w)
    (λ (w : length table.customers ≤ id.customer). absurd (omega (
      arith,
      known,
      ap (λ (p : Part). length p.customer.lines)
          (get_or_past (parts_of table files lines) id.customer no_part
          (omega (arith, w, length-parts_of table files lines))),
    )))
    (cases_lt id.customer (length table.customers))

-- it is ready for what comes next
pub line-ready : (shared : Shared) (lines : List Lines) (id : LineId) → IsHub shared.tables shared.spool lines
    → HasLine (parts_of shared.tables shared.spool lines) id → IsReady id shared (lines_at id.customer lines).lines
line-ready shared lines id hub known =
    let there = line-there shared.tables shared.spool lines id known in
    record {
      known = there;
      spooled = omega (arith, there, hub.spooled);
      there = omega (
        arith,
        known,
        ap (λ (p : Part). length p.customer.lines)
            (part-there shared.tables shared.spool lines id.customer there),
      );
      coherent = hub.coherent id.customer there;
    }

-- Two lists that differ at one place at most.
pub record DifferAt {X : Type 0} (none : X) (c : ℕ) (old new : List X) : Type 0 where
  pub count : length new ≡ length old
  pub others : (d : ℕ) → d ≢ c → get_or new d none ≡ get_or old d none

pub differ-nowhere : {X : Type 0} (none : X) (c : ℕ) (xs : List X) → DifferAt none c xs xs
differ-nowhere none c xs = record { count = refl; others = λ d apart. refl }

pub differ-set : {X : Type 0} (none : X) (c : ℕ) (xs : List X) (x : X) → DifferAt none c xs (set xs c x)
differ-set none c xs x = record { count = length-set xs c x; others = λ d apart. get_or-set_other xs c d x none apart }

-- What the hub keeps of a customer became other than it was, in the table, the files and the lines; what it keeps of
-- the others stayed.
pub record Moves (table : TableFile) (files : List CustomerSpool) (lines : List Lines) (c : ℕ)
    (new : TableFile) (after : List CustomerSpool) (more : List Lines) : Type 0 where
  pub hub : IsHub table files lines
  pub there : c < length table.customers
  pub in_table : DifferAt no_customer c table.customers new.customers
  pub in_files : DifferAt spools.no_spool c files after
  pub in_lines : DifferAt no_lines c lines more
  pub coherent : IsCoherent (part_held new after more c).customer
  pub marked : IsMarked (part_held new after more c).customer

-- the parts of the others are as they were
pub held-other : {table : TableFile} {files : List CustomerSpool} {lines : List Lines} {c : ℕ} {new : TableFile}
    {after : List CustomerSpool} {more : List Lines} → Moves table files lines c new after more → (d : ℕ) → d ≢ c
    → part_held new after more d ≡ part_held table files lines d
held-other {table} {files} {lines} {c} {new} {after} {more} m d apart =
    ap₂ (λ (x : NamedCustomer) (s : CustomerSpool). part_with (entry_of x) s (lines_at d more))
    (m.in_table.others d apart) (m.in_files.others d apart)
    ∙ ap (part_with (entry_of (customer_at table d)) (spools.spool_at d files)) (m.in_lines.others d apart)

-- the hub's parts: that customer's is another, and no other
pub parts-moved : {table : TableFile} {files : List CustomerSpool} {lines : List Lines} {c : ℕ} {new : TableFile}
    {after : List CustomerSpool} {more : List Lines} → Moves table files lines c new after more
    → parts_of new after more ≡ set (parts_of table files lines) c (part_held new after more c)
parts-moved {table} {files} {lines} {c} {new} {after} {more} m =
    let p = part_held new after more c in
    let old = parts_of table files lines in
    let long = length-parts_of table files lines in
    let longer = length-parts_of new after more in
    ext_get_or no_part (parts_of new after more) (set old c p)
    (longer ∙ m.in_table.count ∙ sym long ∙ sym (length-set old c p))
    (λ (d : ℕ) (within : d < length (parts_of new after more)).
    let now_there : d < length new.customers = omega (arith, within, longer) in
    let there : d < length table.customers = omega (arith, now_there, m.in_table.count) in
    part-there new after more d now_there
    ∙ ⊎_elim (λ (w : (eqb d c ≡ true) × (d ≡ c)).
    ap (part_held new after more) w.1
    ∙ sym (ap (λ (n : ℕ). get_or (set old c p) n no_part) w.1
    ∙ get_or-set_same old c p no_part (omega (arith, m.there, long))))
    (λ (w : (eqb d c ≡ false) × (d ≢ c)).
    held-other m d w.1 ∙ sym (get_or-set_other old c d p no_part w.1 ∙ part-there table files lines d there))
    (eqb_tells d c))

-- the hub belongs together as before
pub hub-moved : {table : TableFile} {files : List CustomerSpool} {lines : List Lines} {c : ℕ} {new : TableFile}
    {after : List CustomerSpool} {more : List Lines} → Moves table files lines c new after more → IsHub new after more
hub-moved {table} {files} {lines} {c} {new} {after} {more} m = record {
  spooled = m.in_files.count ∙ m.hub.spooled ∙ sym m.in_table.count;
  lined = m.in_lines.count ∙ m.hub.lined ∙ sym m.in_table.count;
  coherent = λ (d : ℕ) (within : d < length new.customers).
      let there : d < length table.customers = omega (arith, within, m.in_table.count) in
      ⊎_elim (λ (w : (eqb d c ≡ true) × (d ≡ c)). subst (λ (n : ℕ). IsCoherent (part_held new after more n).customer)
      (sym w.1) m.coherent)
      (λ (w : (eqb d c ≡ false) × (d ≢ c)).
      subst (λ (p : Part). IsCoherent p.customer) (sym (held-other m d w.1)) (m.hub.coherent d there))
      (eqb_tells d c);
  marked = λ (d : ℕ) (within : d < length new.customers).
      let there : d < length table.customers = omega (arith, within, m.in_table.count) in
      ⊎_elim (λ (w : (eqb d c ≡ true) × (d ≡ c)). subst (λ (n : ℕ). IsMarked (part_held new after more n).customer)
      (sym w.1) m.marked)
      (λ (w : (eqb d c ≡ false) × (d ≢ c)).
      subst (λ (p : Part). IsMarked p.customer) (sym (held-other m d w.1)) (m.hub.marked d there))
      (eqb_tells d c);
}

-- another part in the place of one leaves the others' parts, and with as many lines it leaves each as many
pub others-stay : (parts : List Part) (c : ℕ) (p : Part) (d : ℕ) → d ≢ c → part d (set parts c p) ≡ part d parts
others-stay parts c p d apart = get_or-set_other parts c d p no_part apart

pub lines-stay : (parts : List Part) (c : ℕ) (p : Part) → c < length parts
    → length p.customer.lines ≡ length (part c parts).customer.lines → SameLines parts (set parts c p)
lines-stay parts c p there count d =
    ⊎_elim (λ (w : (eqb d c ≡ true) × (d ≡ c)).
    ap (λ (n : ℕ). length (part n (set parts c p)).customer.lines) w.1
    ∙ ap (λ (q : Part). length q.customer.lines) (get_or-set_same parts c p no_part there)
    ∙ count ∙ ap (λ (n : ℕ). length (part n parts).customer.lines) (sym w.1))
    (λ (w : (eqb d c ≡ false) × (d ≢ c)). ap (λ (q : Part). length q.customer.lines) (others-stay parts c p d w.1))
    (eqb_tells d c)

-- a customer of the tables is one of the hub's, with its entry there
pub customer-known : (table : TableFile) (files : List CustomerSpool) (lines : List Lines) (parts : List Part) (c : ℕ)
    → parts_of table files lines ≡ parts → c < length table.customers → c < length parts
customer-known table files lines parts c are there =
    omega (arith, there, length-parts_of table files lines, ap (λ (ps : List Part). length ps) are)

-- a customer that has a file is one of the hub's
pub whole-there : (parts : List Part) (c i : ℕ) → i < length (part c parts).customer.spool.whole → c < length parts
whole-there [] zero i within = absurd (omega (arith, within))
whole-there [] (suc c) i within = absurd (omega (arith, within))
whole-there (p ∷ parts) zero i within = omega arith
whole-there (p ∷ parts) (suc c) i within = omega (arith, whole-there parts c i within)

pub entry-there : (table : TableFile) (files : List CustomerSpool) (lines : List Lines) (parts : List Part) (c : ℕ)
    → parts_of table files lines ≡ parts → c < length table.customers
    → (part c parts).customer.entry ≡ entry_of (customer_at table c)
entry-there table files lines parts c are there =
    sym (ap (λ (ps : List Part). (part c ps).customer.entry) are)
    ∙ ap (λ (p : Part). p.customer.entry) (part-there table files lines c there)

-- What a step on a line finds in the hub: the lines of a customer that is there, and its part.
pub record Found (shared : Shared) (lines : List Lines) (parts : List Part) (id : LineId) (x : Lines)
    : Type 0 where
  pub hub : IsHub shared.tables shared.spool lines
  pub are : parts_of shared.tables shared.spool lines ≡ parts
  pub there : id.customer < length shared.tables.customers
  pub lines_is : x ≡ lines_at id.customer lines
  pub ready : IsReady id shared x.lines
  pub marked : IsMarked (part_with (entry_of (customer_at shared.tables id.customer))
      (spools.spool_at id.customer shared.spool) x).customer
  pub part_is : part_with (entry_of (customer_at shared.tables id.customer)) (spools.spool_at id.customer shared.spool)
      x ≡ part id.customer parts

pub found : (shared : Shared) (lines : List Lines) (parts : List Part) (id : LineId) (x : Lines)
    → IsHub shared.tables shared.spool lines → parts_of shared.tables shared.spool lines ≡ parts → HasLine parts id
    → x ≡ get_or lines id.customer x
    → Found shared lines parts id x
found shared lines parts id x hub are known here =
    let c = id.customer in
    let has : HasLine (parts_of shared.tables shared.spool lines) id =
    subst (λ (ps : List Part). HasLine ps id) (sym are) known in
    let there = line-there shared.tables shared.spool lines id has in
    let is : x ≡ lines_at c lines = get_or_read lines c x (omega (arith, there, hub.lined)) here no_lines in
    record {
      hub = hub;
      are = are;
      there = there;
      lines_is = is;
      ready = subst (λ (y : Lines). IsReady id shared y.lines) (sym is) (line-ready shared lines id hub has);
      marked = subst (λ (y : Lines). IsMarked
          (part_with (entry_of (customer_at shared.tables c)) (spools.spool_at c shared.spool) y).customer) (sym is)
          (hub.marked c there);
      part_is = ap (part_with (entry_of (customer_at shared.tables c)) (spools.spool_at c shared.spool)) is
          ∙ sym (part-there shared.tables shared.spool lines c there)
          ∙ ap (part c) are;
    }

-- What a step on that line leads to: the customer is ready for the next, with as many lines, and those that are up are
-- marked.
pub record Stepped (shared : Shared) (x : Lines) (id : LineId) (new : Shared) (y : Lines) : Type 0 where
  pub in_table : KeepsOtherEntries id.customer shared.tables new.tables
  pub in_files : new.spool ≡ slice_set shared.spool id.customer (spools.spool_at id.customer new.spool)
  pub ready : IsReady id new y.lines
  pub marked : IsMarked (part_with (entry_of (customer_at new.tables id.customer))
      (spools.spool_at id.customer new.spool) y).customer
  pub count : length y.lines ≡ length x.lines

pub stepped : {shared : Shared} {lines : List Lines} {parts : List Part} {id : LineId} {x : Lines}
    {new : Shared} {y : Lines} → Found shared lines parts id x
    → Stepped shared x id new y → Moves shared.tables shared.spool lines id.customer new.tables new.spool
    (set lines id.customer y)
stepped {shared} {lines} {parts} {id} {x} {new} {y} f t =
    let c = id.customer in
    let is : y ≡ lines_at c (set lines c y) =
    sym (get_or-set_same lines c y no_lines (omega (arith, f.there, f.hub.lined))) in
    record {
      hub = f.hub;
      there = f.there;
      in_table = subst (λ (n : TableFile). DifferAt no_customer c shared.tables.customers n.customers) (sym t.in_table)
          (differ-set no_customer c shared.tables.customers (customer_at new.tables c));
      in_files = subst (λ (ss : List CustomerSpool). DifferAt spools.no_spool c shared.spool ss) (sym t.in_files)
          (differ-set spools.no_spool c shared.spool (spools.spool_at c new.spool));
      in_lines = differ-set no_lines c lines y;
      coherent = subst (λ (l : Lines). IsCoherent
          (part_with (entry_of (customer_at new.tables c)) (spools.spool_at c new.spool) l).customer) is
          t.ready.coherent;
      marked = subst (λ (l : Lines). IsMarked
          (part_with (entry_of (customer_at new.tables c)) (spools.spool_at c new.spool) l).customer) is t.marked;
    }

-- so its part becomes another, and no other does
pub step-leads : {shared : Shared} {lines : List Lines} {parts : List Part} {id : LineId} {x : Lines}
    {new : Shared} {y : Lines} → Found shared lines parts id x
    → Stepped shared x id new y
    → (p : Part) → part_with (entry_of (customer_at new.tables id.customer)) (spools.spool_at id.customer new.spool) y
    ≡ p
    → parts_of new.tables new.spool (set lines id.customer y) ≡ set parts id.customer p
step-leads {shared} {lines} {parts} {id} {x} {new} {y} f t p is =
    let c = id.customer in
    parts-moved (stepped f t)
    ∙ ap₂ (λ (ps : List Part) (q : Part). set ps c q) f.are
    (ap (part_with (entry_of (customer_at new.tables c)) (spools.spool_at c new.spool))
    (get_or-set_same lines c y no_lines (omega (arith, f.there, f.hub.lined))) ∙ is)

-- and each keeps as many lines
pub step-lines : {shared : Shared} {lines : List Lines} {parts : List Part} {id : LineId} {x : Lines}
    {new : Shared} {y : Lines} → Found shared lines parts id x
    → Stepped shared x id new y
    → (p : Part) → part_with (entry_of (customer_at new.tables id.customer)) (spools.spool_at id.customer new.spool) y
    ≡ p
    → SameLines parts (set parts id.customer p)
step-lines {shared} {lines} {parts} {id} {x} {new} {y} f t p is =
    lines-stay parts id.customer p (customer-known shared.tables shared.spool lines parts id.customer f.are f.there)
    (ap (λ (q : Part). length q.customer.lines) (sym is) ∙ t.count
    ∙ ap (λ (q : Part). length q.customer.lines) f.part_is)
