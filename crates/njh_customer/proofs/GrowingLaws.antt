-- How a customer's files grow from one spool to another, and which become whole; and what the records of a block do to
-- them.
use Rattle.njh_customer.proofs.Words
use Words.{ℕ, not, inl, inr, List, [], length, Option, Some, None, refl, sym, ap, subst, arith, length-append}
use Words.{append_assoc, append-nil, Contains-append_cases, Contains-push_cases, Contains, Stored, Kind}
use Words.{records_to_node, CustomerSpool, PartialFile, WholeFile, max_arrived, next_number, with_new_partial}
use Words.{with_appended, without_partial, as_whole, with_arrived, partial_numbered, with_finished, HasCome, few}
use Words.{goes_on, HasBecomeWhole, FilesGrow, FilesGrowFurther, ReroutesKeepCounts, ManyRecordsGoOn, IsRerouted}
use Words.{as_before, to_node, IsStill, Survive, Bool, true, false, filter, map, Ok, Err, Item, entries_of_routes}
use Words.{routes_checked, changed_file, with_new_destination, LineReply, after_record, record_end, ended_or}
use Words.{all_acted, replied_to, session_over, session_over_where, Customer, RoutesGrowFiles, taken_where}
use Words.{OrdersGrowFiles}
use Rattle.{std.proofs.Common.{◌≡◌, ◌<◌, ◌≤◌, ◌+◌, ◌==◌, ◌⊎◌, ◌∷◌, ◌++◌, ◌∙◌}, njh_block.specs.Blocks.Data}
use Rattle.njh_customer.proofs.FileListLaws.{from_filter, first_or_later, found_one, from_where, found_numbered}
use Rattle.njh_customer.proofs.{Restated.IsRestated, SpoolWalks.{StaysInFiles, order_so, record_so, replied_so}}
use Rattle.njh_customer.proofs.SpoolWalks.{routes_so}
use Rattle.njh_customer.proofs.{SpoolWalks.session_over_so, SurvivingLaws.{rerouted_then, same_files, survive_then}}
use Rattle.njh_customer.proofs.SurvivingLaws.{no_more, SurviveBoth, survive_both, was_there, all_still, some_still}
use Rattle.njh_customer.proofs.SurvivingLaws.{changed_still, rerouted_still, but_states}
use Rattle.njh_customer.specs.Growing.{PartialsAreNumbered}

-- ---- records that have come

more_come : (j k : ℕ) (before : List PartialFile) (n : ℕ) (kind : Kind) (rs : List Stored) → j ≤ k
    → HasCome j before n kind rs → HasCome k before n kind rs
more_come j k before n kind rs within (few short) = few (omega arith)
more_come j k before n kind rs within (goes_on f more at number same short is) = goes_on f more at number same
    (omega arith) is

come_then :
    (j k : ℕ) (x y : List PartialFile) → ((f : PartialFile) → Contains y f → HasCome j x f.number f.kind f.records)
    → (n : ℕ) (kind : Kind) (rs : List Stored) → HasCome k y n kind rs → HasCome (j + k) x n kind rs
come_then j k x y each n kind rs (few short) = few (omega arith)
come_then j k x y each n kind rs (goes_on f more at number same short is) = elim (each f at) [
  | few less ↦ few (omega (arith, ap (λ (all : List Stored). length all) is, length-append f.records more))
  | goes_on e first there before_number before_kind less was ↦
      goes_on e (first ++ more) there (before_number ∙ number) (before_kind ∙ same)
      (omega (arith, length-append first more)) (is ∙ ap (λ all. all ++ more) was ∙ append_assoc e.records first more)
]

-- a partial file that stays
pub left_come : (before : List PartialFile) (f : PartialFile) → Contains before f
    → HasCome 0 before f.number f.kind f.records
left_come before f at = goes_on f [] at refl refl (omega arith) (sym (append-nil f.records))

-- ---- a file that became whole

later_whole : (k : ℕ) (before : List PartialFile) (f g : WholeFile) → IsStill f g → HasBecomeWhole k before f
    → HasBecomeWhole k before g
later_whole k before f g still whole = record {
  came = whole.came;
  has_come = subst (λ n. HasCome k before n g.kind whole.came) (sym still.number)
      (subst (λ kind. HasCome k before f.number kind whole.came) (sym still.kind) whole.has_come);
  records = subst (λ kind. IsRerouted kind whole.came g.records) (sym still.kind)
      (rerouted_then f.kind whole.came f.records g.records whole.records still.records);
}

-- ---- one thing and then another

-- by the records that had come
became : {k : ℕ} {before : List PartialFile} {f : WholeFile} (came : List Stored)
    → HasCome k before f.number f.kind came → IsRerouted f.kind came f.records → HasBecomeWhole k before f
became came has_come records = record { came = came; has_come = has_come; records = records }

pub grow_then : FilesGrowFurther
grow_then j k x y z first second = record {
  still = parts.first;
  new = parts.second ++ second.new;
  files = second.files ∙ ap (λ files. files ++ second.new) parts.both
      ∙ append_assoc parts.first parts.second second.new;
  survive = survive_then x.whole first.still parts.first first.survive parts.of_first;
  counted = counted;
  became_whole = λ f at. elim (Contains-append_cases parts.second second.new f at) [
    | inl there ↦
        let found = was_there first.new parts.second parts.of_second f there in
        let whole = later_whole j x.partial found.0 f found.2 (first.became_whole found.0 found.1) in
        became whole.came (more_come j (j + k) x.partial f.number f.kind whole.came (omega arith) whole.has_come)
        whole.records
    | inr there ↦
        let whole = second.became_whole f there in
        became whole.came
        (come_then j k x.partial y.partial first.partial f.number f.kind whole.came whole.has_come) whole.records
  ];
  partial = λ f at. come_then j k x.partial y.partial first.partial f.number f.kind f.records (second.partial f at);
}
  where
    parts : SurviveBoth first.still first.new second.still
    parts = survive_both first.still first.new second.still
        (subst (λ files. Survive files second.still) first.files second.survive)

    counted : z.arrived < max_arrived → x.arrived + length (parts.second ++ second.new) ≤ z.arrived
    counted below =
        let later = second.counted below in
        let fact = first.counted (omega (arith, later, below)) in
        let besides = length-append parts.second second.new in
        omega (arith, no_more first.new parts.second parts.of_second)

pub grow_within : (j k : ℕ) (x y : CustomerSpool) → j ≤ k → FilesGrow j x y → FilesGrow k x y
grow_within j k x y within grow = record {
  still = grow.still;
  new = grow.new;
  files = grow.files;
  survive = grow.survive;
  counted = grow.counted;
  became_whole = λ f at. let whole = grow.became_whole f at in
      became whole.came (more_come j k x.partial f.number f.kind whole.came within whole.has_come) whole.records;
  partial = λ f at. more_come j k x.partial f.number f.kind f.records within (grow.partial f at);
}

pub then_quietly : (k : ℕ) (x y z : CustomerSpool) → FilesGrow k x y → FilesGrow 0 y z → FilesGrow k x z
then_quietly k x y z first second = grow_within (k + 0) k x z (omega arith) (grow_then k 0 x y z first second)

pub quietly_then : (k : ℕ) (x y z : CustomerSpool) → FilesGrow 0 x y → FilesGrow k y z → FilesGrow k x z
quietly_then k x y z first second = grow_within (0 + k) k x z (omega arith) (grow_then 0 k x y z first second)

-- ---- what leaves most as it is

-- none has become whole
pub none_whole : (k : ℕ) (x y : CustomerSpool) → Survive x.whole y.whole → y.arrived ≡ x.arrived
    → ((f : PartialFile) → Contains y.partial f → HasCome k x.partial f.number f.kind f.records) → FilesGrow k x y
none_whole k x y survive same each = record {
  still = y.whole;
  new = [];
  files = sym (append-nil y.whole);
  survive = survive;
  counted = λ below. omega arith;
  became_whole = λ f at. absurd (omega arith);
  partial = each;
}

-- and no partial file has changed
pub quiet : (x y : CustomerSpool) → Survive x.whole y.whole → y.arrived ≡ x.arrived → y.partial ≡ x.partial
    → FilesGrow 0 x y
quiet x y survive same partial = none_whole 0 x y survive same (λ f at. left_come x.partial f
    (subst (λ (fs : List PartialFile). Contains fs f) partial at))

pub unchanged : (x : CustomerSpool) → FilesGrow 0 x x
unchanged x = quiet x x (same_files x.whole) refl refl

-- ---- what becomes of partial files

pub without_grows : (n : ℕ) (s : CustomerSpool) → FilesGrow 0 s (without_partial n s)
without_grows n s = none_whole 0 s (without_partial n s) (same_files s.whole) refl
    (λ f at. left_come s.partial f (from_filter (λ (g : PartialFile). not (g.number == n)) s.partial f at))

pub begun_grows : (kind : Kind) (s : CustomerSpool) → FilesGrow 0 s (with_new_partial kind s)
begun_grows kind s =
    let begun : PartialFile = record { number = next_number s; kind = kind; records = [] } in
    none_whole 0 s (with_new_partial kind s) (same_files s.whole) refl (λ f at.
    elim (Contains-push_cases s.partial begun f at) [
      | inl there ↦ left_come s.partial f there
      | inr same ↦
          subst (λ (g : PartialFile). HasCome 0 s.partial g.number g.kind g.records) same (few (omega arith))
    ])

pub appended_grows : (n : ℕ) (r : Stored) (s : CustomerSpool) → FilesGrow 1 s (with_appended n r s)
appended_grows n r s =
    let with_record : PartialFile → PartialFile = λ f. record f { records = f.records ++ r ∷ [] } in
    none_whole 1 s (with_appended n r s) (same_files s.whole) refl (λ g at.
    elim (from_where (λ (f : PartialFile). f.number == n) with_record s.partial g at) [
      | inl (f, there, passes, e) ↦ goes_on f (r ∷ []) there (sym (ap (λ h. h.number) e))
          (sym (ap (λ h. h.kind) e)) (omega arith) (ap (λ h. h.records) e)
      | inr (there, fails) ↦ goes_on g [] there refl refl (omega arith) (sym (append-nil g.records))
    ])

pub finished_grows : (n : ℕ) (s : CustomerSpool) → FilesGrow 0 s (with_finished n s)
finished_grows n s = at_file (partial_numbered n s) refl
  where
    came : (f : PartialFile) (g : WholeFile) → Contains s.partial f → (as_whole f ≡ g) ⊎ Contains {X = WholeFile} [] g
        → HasBecomeWhole 0 s.partial g
    came f g there (inr none_there) = absurd (omega arith)
    came f g there (inl same) = subst (HasBecomeWhole 0 s.partial) same
        (record { came = f.records; has_come = left_come s.partial f there; records = as_before f.records })

    at_file : (o : Option PartialFile) → partial_numbered n s ≡ o
        → FilesGrow 0 s (elim o [ None ↦ s | Some f ↦ with_arrived (as_whole f) (without_partial n s) ])
    at_file None e = unchanged s
    at_file (Some f) e = record {
      still = s.whole;
      new = as_whole f ∷ [];
      files = refl;
      survive = same_files s.whole;
      counted = λ below. omega arith;
      became_whole = λ g at. came f g (found_one (λ (h : PartialFile). h.number == n) s.partial f e).0
          (first_or_later (as_whole f) [] g at);
      partial = (without_grows n s).partial;
    }

-- ---- what is read from it

redirected_count : (kind : Kind) (node : List ℕ) (before : Option ℕ) (rs : List Stored)
    → length (records_to_node kind node before rs) ≡ length rs
redirected_count kind node before [] = refl
redirected_count kind node before (r ∷ rs) = omega (arith, redirected_count kind node (Some r.srcb) rs)

pub rerouted_count : ReroutesKeepCounts
rerouted_count kind _ _ (as_before records) = refl
rerouted_count kind _ _ (to_node node before after is more) =
    rerouted_count kind (records_to_node kind node None before) after more ∙ redirected_count kind node None before

pub many_go_on : ManyRecordsGoOn
many_go_on k n before kind records many (few short) = absurd (omega arith)
many_go_on k n before kind records many (goes_on f more at number same short is) =
    record { file = f; more = more; there = at; same_number = number; same_kind = same; records_are = is }

-- ---- what the records of a block do to the files

pub restated_grows : (s t u : CustomerSpool) → IsRestated t u → FilesGrow 0 s t → FilesGrow 0 s u
restated_grows s t u restated grow = then_quietly 0 s t u grow
    (quiet t u (but_states t.whole u.whole restated.whole) restated.arrived restated.partial)

pub reply_grows : (l : ℕ) (r : LineReply) (c : Customer) → FilesGrow 0 c.spool (replied_to l r c).after.spool
reply_grows l r c = replied_so (FilesGrow 0 c.spool) (restated_grows c.spool) l r c (unchanged c.spool)

pub over_grows : (l : ℕ) (c : Customer) → FilesGrow 0 c.spool (session_over l c).spool
over_grows l c = session_over_so (FilesGrow 0 c.spool) (restated_grows c.spool)
    (λ n t grow. then_quietly 0 c.spool t (without_partial n t) grow (without_grows n t)) l c (unchanged c.spool)

pub over_where_grows : (b : Bool) (l : ℕ) (c : Customer) → FilesGrow 0 c.spool (session_over_where b l c).spool
over_where_grows true l c = over_grows l c
over_where_grows false l c = unchanged c.spool

-- ---- new routes

pub routes_grow : RoutesGrowFiles
routes_grow p routes =
    let s = p.customer.spool in
    elim (routes_checked p.customer.entry routes) as (λ w. FilesGrow 0 s (taken_where w routes p).customer.spool) [
      | Ok faultless ↦
          routes_so (FilesGrow 0 s) (restated_grows s) (entries_of_routes routes) p.customer (unchanged s)
      | Err fault ↦ unchanged s
    ]

-- how many records an item adds at most
abbrev pub data_in : Item → ℕ
data_in (Data rcb srcb bytes) = 1
data_in _ = 0

abbrev pub data_count : List Item → ℕ
data_count [] = 0
data_count (i ∷ is) = data_in i + data_count is

-- whole files alone change
whole_grows : (s t u : CustomerSpool) → Survive t.whole u.whole → FilesGrow 0 s t → u.arrived ≡ t.arrived
    → u.partial ≡ t.partial → FilesGrow 0 s u
whole_grows s t u survive grow arrived partial = then_quietly 0 s t u grow (quiet t u survive arrived partial)

-- from these files
grow_files : (s : CustomerSpool) → StaysInFiles (FilesGrow 0 s) (λ i. FilesGrow (data_in i) s)
grow_files s = record {
  arrivals = record {
    still = λ i t grow. grow_within 0 (data_in i) s t (omega arith) grow;
    without = λ n t grow. then_quietly 0 s t (without_partial n t) grow (without_grows n t);
    begun = λ rcb srcb kind t room grow. then_quietly 0 s t (with_new_partial kind t) grow (begun_grows kind t);
    appended = λ rcb r n t room grow. quietly_then 1 s t (with_appended n r t) grow (appended_grows n r t);
    finished = λ rcb srcb n t whole grow. quietly_then 1 s t (with_finished n t) grow
        (grow_within 0 1 t (with_finished n t) (omega arith) (finished_grows n t));
  };
  restated = restated_grows s;
  left = λ p t grow. whole_grows s t (record t { whole = filter p t.whole }) (some_still p t.whole) grow refl refl;
  rerouted = λ p node t named grow. let change = changed_file p (with_new_destination node) in
      whole_grows s t (record t { whole = map change t.whole })
      (all_still change (changed_still p (with_new_destination node) (rerouted_still node named))
      t.whole) grow refl refl;
}

pub record_grows : (l : ℕ) (i : Item) (c : Customer) → FilesGrow (data_in i) c.spool (after_record l i c).spool
record_grows l i c =
    record_so (FilesGrow 0 c.spool) (λ j. FilesGrow (data_in j) c.spool) (grow_files c.spool) l i c
    (unchanged c.spool)

pub orders_grow : OrdersGrowFiles
orders_grow p order =
    let s = p.customer.spool in
    order_so (FilesGrow 0 s) (λ i. FilesGrow (data_in i) s) (grow_files s) order p.customer (unchanged s)

pub all_grow : (l : ℕ) (items : List Item) (c : Customer)
    → FilesGrow (data_count items) c.spool (all_acted l items c).customer.spool
all_grow l [] c = unchanged c.spool
all_grow l (i ∷ is) c =
    let later = all_acted l is (after_record l i c) in
    let grow = all_grow l is (after_record l i c) in
    elim (record_end i) as (λ o. FilesGrow (data_count (i ∷ is)) c.spool (ended_or o c later).customer.spool) [
      | Some end ↦ grow_within 0 (data_count (i ∷ is)) c.spool c.spool (omega arith) (unchanged c.spool)
      | None ↦ grow_then (data_in i) (data_count is) c.spool (after_record l i c).spool later.customer.spool
          (record_grows l i c) grow
    ]

-- ---- which partial file it was

pub partials_numbered : PartialsAreNumbered
partials_numbered before f once at = found_numbered (λ (g : PartialFile). g.number) before f f.number once at refl
