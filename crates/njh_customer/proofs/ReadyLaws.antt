-- A line is ready for what comes next.
use Rattle.njh_customer.proofs.Words
use Words.{ℕ, Bool, not, List, [], length, drop, slice_get, slice_set, Option, Some, None, sym, ap, ap₂, subst, arith}
use Words.{length-map, length-set, set-get_or, set-set, get_or-set_same, Item, CustomerSpool, spool_at, no_spool}
use Words.{CustomerEntry, customer_marked, entry_marked, with_mark, NamedCustomer, TableFile, HasLine, customer_at}
use Words.{entry_of, no_customer, LineId, is_up, Input, after_input, after_record, acted_where, all_acted, ended_or}
use Words.{record_end, CustomerStep, accepted_on, after_records, after_block, block_input, carried_out, goes_up_by}
use Words.{after_line_input, with_raised_line, verdict_on, Customer, CustomerLine, customer_with, in_state, line_at}
use Words.{no_customer_line, on_line, ChangesMarks, ChangesFiles, StepSends, LeavesReady, IsReady, IsThere}
use Words.{KeepsOtherEntries, customer_of, with_customer, IsCoherent, Shared, replied_to, session_over_where, refl}
use Words.{SessionEnd}
use Rattle.{std.proofs.Common.{◌≡◌, ◌<◌, ◌&&◌, ◌∷◌, ◌∙◌}, njh_block.specs.Blocks.Block}
use Rattle.{njh_line.specs.declared.verdict.Verdict.Verdict, njh_customer.proofs.SessionLaws.{Stays, input_stays}}
use Rattle.njh_customer.proofs.SessionLaws.{block_stays, accepted_stays}

-- what leaves a spool to others leaves it so twice
pub others_twice : (old now new : List CustomerSpool) (c : ℕ) → now ≡ slice_set old c (spool_at c now)
    → new ≡ slice_set now c (spool_at c new) → new ≡ slice_set old c (spool_at c new)
others_twice old now new c first then =
    then ∙ ap (λ spools. slice_set spools c (spool_at c new)) first ∙ set-set old c (spool_at c now) (spool_at c new)

-- the first record acts, and then the others
pub one_acted : (l : ℕ) (items rest : List Item) (item : Item) (end : Option SessionEnd) (c : Customer)
    → Some item ≡ slice_get items 0 → rest ≡ drop 1 items → None ≡ end → end ≡ record_end item
    → all_acted l rest (after_record l item c) ≡ all_acted l items c
one_acted l [] rest item end c first others goes_on is = absurd (cc first)
one_acted l (i ∷ is) rest item end c first others goes_on ends =
    let same : item ≡ i = cc first in
    ap (λ xs. all_acted l xs (after_record l item c)) others ∙ ap (λ x. all_acted l is (after_record l x c)) same
    ∙ ap (λ o. ended_or o c (all_acted l is (after_record l i c))) (goes_on ∙ ends ∙ ap record_end same)

-- a customer's files are led on twice
pub moved_twice :
    (old now new : List CustomerSpool) (c : ℕ) (x : CustomerSpool) (f : CustomerSpool → CustomerSpool) → c < length old
    → now ≡ slice_set old c x → new ≡ slice_set now c (f (spool_at c now)) → new ≡ slice_set old c (f x)
moved_twice old now new c x f range now_is new_is = new_is ∙ ap₂ (λ m s. slice_set m c (f s)) now_is
    (ap (spool_at c) now_is ∙ get_or-set_same old c x no_spool range) ∙ set-set old c x (f x)

-- ---- steps that may mark the customer's lines

-- what the tables say of one customer is changed twice
pub retold_twice : (old now new : TableFile) (c : ℕ) → KeepsOtherEntries c old now → KeepsOtherEntries c now new
    → KeepsOtherEntries c old new
retold_twice old now new c first then = then ∙ ap (with_customer c (customer_at new c)) first
    ∙ ap (λ customers. record old { customers = customers })
    (set-set old.customers c (customer_at now c) (customer_at new c))

-- another customer in a place that is there
retold_by : (tables : TableFile) (c : ℕ) (customer : NamedCustomer) → c < length tables.customers
    → KeepsOtherEntries c tables (with_customer c customer tables)
retold_by tables c customer there = ap (λ x. with_customer c x tables)
    (sym (get_or-set_same tables.customers c customer no_customer there))

-- nothing is changed
pub retold_same : (tables : TableFile) (c : ℕ) → KeepsOtherEntries c tables tables
retold_same tables c = ap (λ customers. record tables { customers = customers })
    (sym (set-get_or tables.customers c no_customer))

-- a mark of a line
pub retold_marked : (tables new : TableFile) (id : LineId) (up : Bool) → id.customer < length tables.customers
    → new ≡ with_mark id up tables → KeepsOtherEntries id.customer tables new
retold_marked tables new id up there is = subst (KeepsOtherEntries id.customer tables) (sym is)
    (retold_by tables id.customer (customer_marked id.number up (customer_at tables id.customer)) there)

-- a step that leaves the tables
pub also_marks : (c : ℕ) (old new : Shared) (lines : List CustomerLine) (after : Customer)
    → ChangesFiles c old new lines after → ChangesMarks c old new lines after
also_marks c old new lines after leads = record {
  customer = leads.customer;
  others = leads.others;
  entries = subst (KeepsOtherEntries c old.tables) (sym leads.tables) (retold_same old.tables c);
}

pub next_marked : (id : LineId) (old new : Shared) (lines_old lines_new : List CustomerLine) (after : Customer)
    → IsReady id old lines_old → ChangesMarks id.customer old new lines_new after
    → Stays after (customer_of id.customer old lines_old) → IsReady id new lines_new
next_marked id old new lines_old lines_new after ready brings stays = record {
  known =
      let fact = ap (λ t. length t.customers) brings.entries in
      omega (arith, length-set old.tables.customers id.customer (customer_at new.tables id.customer));
  spooled = omega (arith, ap length brings.others, length-set old.spool id.customer (spool_at id.customer new.spool));
  there = omega (arith, ap (λ c. length c.lines) brings.customer);
  coherent = subst IsCoherent (sym brings.customer) stays.coherent;
}

-- and so by one that leaves the tables
pub next_ready : (id : LineId) (old new : Shared) (lines_old lines_new : List CustomerLine) (after : Customer)
    → IsReady id old lines_old → ChangesFiles id.customer old new lines_new after
    → Stays after (customer_of id.customer old lines_old) → IsReady id new lines_new
next_ready id old new lines_old lines_new after ready leads =
    next_marked id old new lines_old lines_new after ready (also_marks id.customer old new lines_new after leads)

-- the files stay
pub marks_alone :
    (c : ℕ) (old new : Shared) (lines : List CustomerLine) (after : Customer) → customer_of c new lines ≡ after
    → new.spool ≡ old.spool → KeepsOtherEntries c old.tables new.tables → ChangesMarks c old new lines after
marks_alone c old new lines after customer files entries = record {
  customer = customer;
  others = files ∙ sym (ap (λ s. slice_set old.spool c (spool_at c s)) files ∙ set-get_or old.spool c no_spool);
  entries = entries;
}

-- a line of the customer is one of the tables
pub known_line : (id : LineId) (shared : Shared) (lines : List CustomerLine) → IsReady id shared lines
    → HasLine shared.tables id
known_line id shared lines ready = omega (arith, length-map (customer_at shared.tables id.customer).lines (λ l. l.up))

pub is_there : (id : LineId) (shared : Shared) (lines : List CustomerLine) → IsReady id shared lines
    → IsThere id shared lines
is_there id shared lines ready = record {
  known = ready.known;
  line = known_line id shared lines ready;
  spooled = ready.spooled;
  there = ready.there;
}

-- it is still there after a step that leaves the tables
pub still_there : (id : LineId) (old new : Shared) (lines_old lines_new : List CustomerLine) (after : Customer)
    → IsThere id old lines_old → ChangesFiles id.customer old new lines_new after
    → length after.lines ≡ length lines_old → IsThere id new lines_new
still_there id old new lines_old lines_new after there leads count = record {
  known = omega (arith, ap (λ t. length t.customers) leads.tables);
  line = subst (λ t. HasLine t id) (sym leads.tables) there.line;
  spooled = omega (arith, ap length leads.others, length-set old.spool id.customer (spool_at id.customer new.spool));
  there = omega (arith, ap (λ c. length c.lines) leads.customer);
}

-- what brings on from where it was brought
pub changed_on : (c : ℕ) (old now new : Shared) (lines_now lines_new : List CustomerLine) (between : Customer)
    (then : Customer → Customer) → ChangesMarks c old now lines_now between
    → ChangesMarks c now new lines_new (then (customer_of c now lines_now))
    → ChangesMarks c old new lines_new (then between)
changed_on c old now new lines_now lines_new between then first second = record {
  customer = second.customer ∙ ap then first.customer;
  others = others_twice old.spool now.spool new.spool c first.others second.others;
  entries = retold_twice old.tables now.tables new.tables c first.entries second.entries;
}

-- what sends a frame from where it was brought
sent_after : (c : ℕ) (old now new : Shared) (lines_now lines_new : List CustomerLine) (frame : List ℕ)
    (between : Customer) (then : Customer → CustomerStep) → ChangesMarks c old now lines_now between
    → StepSends c now new lines_new frame (then (customer_of c now lines_now))
    → StepSends c old new lines_new frame (then between)
sent_after c old now new lines_now lines_new frame between then first second = record {
  after = changed_on c old now new lines_now lines_new between (λ x. (then x).after) first second.after;
  frame = second.frame ∙ ap (λ x. (then x).frame) first.customer;
}

-- a step that leaves the customer coherent, with as many lines
made_by : (id : LineId) (old : Shared) (before : List CustomerLine) (new : Shared) (lines : List CustomerLine)
    (frame : List ℕ) (step : CustomerStep) → IsReady id old before → StepSends id.customer old new lines frame step
    → Stays step.after (customer_of id.customer old before) → LeavesReady id old before new lines frame step
made_by id old before new lines frame step ready sends stays = record {
  after = sends.after;
  frame = sends.frame;
  ready = next_marked id old new before lines step.after ready sends.after stays;
  count = ap (λ c. length c.lines) sends.after.customer ∙ stays.lines;
}

-- a mark after what a step led to
pub marked_after : (id : LineId) (up : Bool) (old now new : Shared) (lines : List CustomerLine) (after : Customer)
    → ChangesFiles id.customer old now lines after
    → id.customer < length old.tables.customers → new.tables ≡ with_mark id up now.tables → new.spool ≡ now.spool
    → entry_of (customer_at (with_mark id up old.tables) id.customer) ≡ entry_marked id.number up
    (entry_of (customer_at old.tables id.customer))
    → ChangesMarks id.customer old new lines (record after { entry = entry_marked id.number up after.entry })
marked_after id up old now new lines after leads there is files own =
    let marked : new.tables ≡ with_mark id up old.tables = is ∙ ap (with_mark id up) leads.tables in
    let mark : Customer → Customer = λ d. record d { entry = entry_marked id.number up d.entry } in
    let here : CustomerEntry = entry_of (customer_at old.tables id.customer) in
    let before : customer_of id.customer now lines ≡ customer_with here (spool_at id.customer now.spool) lines =
    ap (λ t. customer_with (entry_of (customer_at t id.customer)) (spool_at id.customer now.spool) lines)
    leads.tables in
    record {
      customer = ap₂ (λ entry s. customer_with entry (spool_at id.customer s) lines)
          (ap (λ t. entry_of (customer_at t id.customer)) marked ∙ own) files ∙ ap mark (sym before ∙ leads.customer);
      others = files ∙ leads.others ∙ ap (λ s. slice_set old.spool id.customer (spool_at id.customer s)) (sym files);
      entries = retold_marked old.tables new.tables id up there marked;
    }

-- The line table judged what came: the line's state, and its mark if it goes up.
module _ (id : LineId) (old now : Shared) (lines new : List CustomerLine) (came : Input) (was_up now_up up : Bool)
    (ready : IsReady id old lines) (is : new ≡ on_line id.number (in_state (after_input came)) lines)
    (was : was_up ≡ is_up (line_at id.number lines).state.session.phase)
    (went : now_up ≡ is_up (line_at id.number new).state.session.phase) (goes : up ≡ (now_up && not was_up))
    (files : now.spool ≡ old.spool) (entry : entry_of (customer_at now.tables id.customer)
    ≡ with_raised_line up id.number (entry_of (customer_at old.tables id.customer)))
    (entries : KeepsOtherEntries id.customer old.tables now.tables) where
  abbrev before : Customer
  before = customer_of id.customer old lines

  accepted_so : customer_of id.customer now new ≡ accepted_on id.number came before
  accepted_so =
      let x = line_at id.number lines in
      let phase : is_up (line_at id.number new).state.session.phase ≡ is_up (after_input came x.state).session.phase =
      ap (λ ls. is_up (line_at id.number ls).state.session.phase) is ∙ ap (λ y. is_up y.state.session.phase)
      (get_or-set_same lines id.number (in_state (after_input came) x) no_customer_line ready.there) in
      ap₂ (λ e s. customer_with e (spool_at id.customer s) new)
      (entry ∙ ap (λ b. with_raised_line b id.number (entry_of (customer_at old.tables id.customer)))
      (goes ∙ ap₂ (λ n w. n && not w) (went ∙ phase) was)) files
      ∙ ap (customer_with (with_raised_line (goes_up_by id.number came before) id.number
      (entry_of (customer_at old.tables id.customer))) (spool_at id.customer old.spool)) is

  pub accepted_marks : ChangesMarks id.customer old now new (accepted_on id.number came before)
  accepted_marks = marks_alone id.customer old now new (accepted_on id.number came before) accepted_so files entries

  pub accepted_ready : IsReady id now new
  accepted_ready = next_marked id old now lines new (accepted_on id.number came before) ready accepted_marks
      (accepted_stays id.number before ready.there ready.coherent came)

-- What comes but a good block: its verdict, and what that asks for.
pub left_by_input :
    (id : LineId) (old accepted new : Shared) (lines lines_accepted lines_new : List CustomerLine) (frame : List ℕ)
    (came : Input) (v : Verdict) → IsReady id old lines
    → v ≡ verdict_on id.number came (customer_of id.customer old lines)
    → ChangesMarks id.customer old accepted lines_accepted
    (accepted_on id.number came (customer_of id.customer old lines))
    → StepSends id.customer accepted new lines_new frame (carried_out id.number v
    (customer_of id.customer accepted lines_accepted))
    → LeavesReady id old lines new lines_new frame
    (after_line_input id.number came (customer_of id.customer old lines))
left_by_input id old accepted new lines lines_accepted lines_new frame came v ready verdict first second =
    let l = id.number in
    let before = customer_of id.customer old lines in
    let d = accepted_on l came before in
    made_by id old lines new lines_new frame (after_line_input l came before) ready
    (subst (λ w. StepSends id.customer old new lines_new frame (carried_out l w d)) verdict
    (sent_after id.customer old accepted new lines_accepted lines_new frame d (carried_out l v) first second))
    (input_stays l before ready.there ready.coherent came)

-- after a block's records, by what the customer was when these came
abbrev block_then : ℕ → List Item → Verdict → Customer → CustomerStep
block_then l items v d = let a = acted_where v.acts l items d in after_records a.end l v a.customer

-- A good block: its verdict, its records, and what is after them, by the end that they made of the session, or none.
pub left_by_block : (end : Option SessionEnd) (id : LineId) (old accepted now new : Shared)
    (lines lines_accepted lines_now lines_new : List CustomerLine) (frame : List ℕ) (b : Block) (came : Input)
    (v : Verdict) → IsReady id old lines → came ≡ block_input b
    → v ≡ verdict_on id.number came (customer_of id.customer old lines)
    → ChangesMarks id.customer old accepted lines_accepted
    (accepted_on id.number came (customer_of id.customer old lines))
    → end ≡ (acted_where v.acts id.number b.items (customer_of id.customer accepted lines_accepted)).end
    → ChangesFiles id.customer accepted now lines_now (acted_where v.acts id.number b.items
    (customer_of id.customer accepted lines_accepted)).customer
    → StepSends id.customer now new lines_new frame (after_records end id.number v
    (customer_of id.customer now lines_now))
    → LeavesReady id old lines new lines_new frame (after_block id.number b (customer_of id.customer old lines))
left_by_block end id old accepted now new lines lines_accepted lines_now lines_new frame b came v ready is verdict
    first end_is acted second =
    let l = id.number in
    let n = id.customer in
    let before = customer_of n old lines in
    let d = accepted_on l (block_input b) before in
    let a = acted_where v.acts l b.items (customer_of n accepted lines_accepted) in
    let later = sent_after n accepted now new lines_now lines_new frame a.customer (after_records end l v)
    (also_marks n accepted now lines_now a.customer acted) second in
    let ends : StepSends n accepted new lines_new frame (block_then l b.items v
    (customer_of n accepted lines_accepted)) =
    subst (λ e. StepSends n accepted new lines_new frame (after_records e l v a.customer)) end_is later in
    made_by id old lines new lines_new frame (after_block l b before) ready
    (subst (λ w. StepSends n old new lines_new frame (block_then l b.items w d))
    (verdict ∙ ap (λ i. verdict_on l i before) is)
    (sent_after n old accepted new lines_accepted lines_new frame d (block_then l b.items v)
    (subst (λ i. ChangesMarks n old accepted lines_accepted (accepted_on l i before)) is first) ends))
    (block_stays l before ready.there ready.coherent b)

-- nothing is changed
pub unmarked : (c : ℕ) (shared : Shared) (lines : List CustomerLine)
    → ChangesMarks c shared shared lines (customer_of c shared lines)
unmarked c shared lines = marks_alone c shared shared lines (customer_of c shared lines) refl refl
    (retold_same shared.tables c)

-- What a verdict asks for is sent, and then the session ends if it says so.
pub carried_by : (ended : Bool) (id : LineId) (old now new : Shared) (lines lines_now lines_new : List CustomerLine)
    (frame : List ℕ) (v : Verdict) → ended ≡ v.ended
    → ChangesFiles id.customer old now lines_now
    (replied_to id.number v.reply (customer_of id.customer old lines)).after
    → frame ≡ (replied_to id.number v.reply (customer_of id.customer old lines)).frame
    → ChangesMarks id.customer now new lines_new (session_over_where ended id.number
    (customer_of id.customer now lines_now))
    → StepSends id.customer old new lines_new frame (carried_out id.number v (customer_of id.customer old lines))
carried_by ended id old now new lines lines_now lines_new frame v is sends frame_is over =
    let n = id.customer in
    let replied = (replied_to id.number v.reply (customer_of n old lines)).after in
    record {
      after = subst (λ b. ChangesMarks n old new lines_new (session_over_where b id.number replied)) is
          (changed_on n old now new lines_now lines_new replied (session_over_where ended id.number)
          (also_marks n old now lines_now replied sends) over);
      frame = frame_is;
    }
