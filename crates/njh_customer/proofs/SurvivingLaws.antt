-- Which of a customer's whole files are still there after moves.
use Rattle.njh_customer.proofs.Words
use Words.{cond_both, ℕ, zero, suc, Bool, true, cond, not, inl, inr, List, [], length, map, filter, take, None}
use Words.{IsSomeAnd, refl, sym, ap, subst, arith, length-append, append_assoc, append-nil, take-append-le}
use Words.{Contains-append_right, Contains, is_name, Stored, Kind, with_destination, records_to_node, WholeFile}
use Words.{max_arrived, CustomerEntry, has_lost_route, held_file, ready, changed_file}
use Words.{is_of_name, may_change, with_new_destination, Coming, nowhere, onward}
use Words.{with_changed, coming, Outgoing, with_arrival, outgoing, part_after_bytes, OwnBytes, alone_run}
use Words.{event_run, IsRerouted, as_before, to_node, IsStill, Survive, stays, leaves, FilesGoOn, FilesSurvive}
use Words.{EventsKeepFiles, TakesKeepFiles, FirstFilesSurvive, FilesGoOnFurther, RunsKeepFiles, SurvivorsAreNumbered}
use Rattle.{std.proofs.Common.{◌≡◌, ◌<◌, ◌≤◌, ◌-◌, ◌∷◌, ◌++◌, ◌∙◌}, njh_header.proofs.Redirected.redirected_is}
use Rattle.{njh_customer.proofs.EventMoves.{events_move, takes_move}}
use Rattle.njh_customer.proofs.{FileListLaws.{first_or_later, found_numbered}, RecordsChange.{FilesDo, files_do}}
use Rattle.njh_customer.proofs.RecordsChange.{node_named}
use Rattle.njh_customer.specs.Surviving.{none}
use Rattle.njh_customer.proofs.RecordsChange as does

-- ---- a file that is still there

is_same : (before now : WholeFile) → now.number ≡ before.number → now.kind ≡ before.kind → now.records ≡ before.records
    → IsStill before now
is_same before now number kind records = record {
  number = number;
  kind = kind;
  records = subst (IsRerouted before.kind before.records) (sym records) (as_before before.records);
}

itself : (f : WholeFile) → IsStill f f
itself f = is_same f f refl refl refl

pub rerouted_then : (kind : Kind) (a b c : List Stored) → IsRerouted kind a b → IsRerouted kind b c
    → IsRerouted kind a c
rerouted_then kind _ _ c (as_before records) second = second
rerouted_then kind _ _ c (to_node node before after is more) second =
    to_node node before c is (rerouted_then kind (records_to_node kind node None before) after c more second)

pub still_then : (f g h : WholeFile) → IsStill f g → IsStill g h → IsStill f h
still_then f g h first second = record {
  number = second.number ∙ first.number;
  kind = second.kind ∙ first.kind;
  records = rerouted_then f.kind f.records g.records h.records first.records
      (subst (λ kind. IsRerouted kind g.records h.records) first.kind second.records);
}

-- ---- files that are still there

pub all_still : (h : WholeFile → WholeFile) → ((f : WholeFile) → IsStill f (h f)) → (fs : List WholeFile)
    → Survive fs (map h fs)
all_still h each [] = none
all_still h each (f ∷ fs) = stays f (h f) fs (map h fs) (each f) (all_still h each fs)

pub same_files : (fs : List WholeFile) → Survive fs fs
same_files [] = none
same_files (f ∷ fs) = stays f f fs fs (itself f) (same_files fs)

pub some_still : (p : WholeFile → Bool) (fs : List WholeFile) → Survive fs (filter p fs)
some_still p [] = none
some_still p (f ∷ fs) =
    let rest = some_still p fs in
    cond_both (p f) (f ∷ filter p fs) (filter p fs) (Survive (f ∷ fs))
    (λ _. stays f f fs (filter p fs) (itself f) rest) (λ _. leaves f fs (filter p fs) rest)

pub but_states : (fs gs : List WholeFile) → map ready gs ≡ map ready fs → Survive fs gs
but_states [] [] e = none
but_states [] (g ∷ gs) e = absurd (cc e)
but_states (f ∷ fs) [] e = absurd (cc e)
but_states (f ∷ fs) (g ∷ gs) e =
    let one : ready g ≡ ready f = cc e in
    let rest : map ready gs ≡ map ready fs = cc e in
    stays f g fs gs (is_same f g (ap (λ h. h.number) one) (ap (λ h. h.kind) one) (ap (λ h. h.records) one))
    (but_states fs gs rest)

all_gone : (fs : List WholeFile) → Survive fs []
all_gone [] = none
all_gone (f ∷ fs) = leaves f fs [] (all_gone fs)

pub survive_then : (fs gs hs : List WholeFile) → Survive fs gs → Survive gs hs → Survive fs hs
survive_then _ _ hs none second = second
survive_then _ gs hs (leaves f fs _ more) second = leaves f fs hs (survive_then fs gs hs more second)
survive_then _ _ _ (stays f g fs gs one more) (stays _ h _ hs next later) =
    stays f h fs hs (still_then f g h one next) (survive_then fs gs hs more later)
survive_then _ _ hs (stays f g fs gs one more) (leaves _ _ _ later) = leaves f fs hs (survive_then fs gs hs more later)

pub no_more : (fs gs : List WholeFile) → Survive fs gs → length gs ≤ length fs
no_more _ _ none = omega arith
no_more _ _ (stays f g fs gs one more) = omega (arith, no_more fs gs more)
no_more _ _ (leaves f fs gs more) = omega (arith, no_more fs gs more)

-- those of two lists, one after the other
pub record SurviveBoth (fs gs still : List WholeFile) : Type 0 where
  pub first : List WholeFile
  pub second : List WholeFile
  pub both : still ≡ first ++ second
  pub of_first : Survive fs first
  pub of_second : Survive gs second

pub survive_both : (fs gs still : List WholeFile) → Survive (fs ++ gs) still → SurviveBoth fs gs still
survive_both [] gs still all = record { first = []; second = still; both = refl; of_first = none; of_second = all }
survive_both (f ∷ fs) gs _ (stays _ g _ still one more) =
    let rest = survive_both fs gs still more in
    record {
      first = g ∷ rest.first;
      second = rest.second;
      both = ap (λ others. g ∷ others) rest.both;
      of_first = stays f g fs rest.first one rest.of_first;
      of_second = rest.of_second;
    }
survive_both (f ∷ fs) gs still (leaves _ _ _ more) =
    let rest = survive_both fs gs still more in
    record {
      first = rest.first;
      second = rest.second;
      both = rest.both;
      of_first = leaves f fs rest.first rest.of_first;
      of_second = rest.of_second;
    }

survive_front : (k : ℕ) (fs gs : List WholeFile) → Survive fs gs → Survive fs (take k gs)
survive_front zero fs gs all = all_gone fs
survive_front (suc k) _ _ none = none
survive_front (suc k) _ _ (stays f g fs gs one more) = stays f g fs (take k gs) one (survive_front k fs gs more)
survive_front (suc k) _ gs (leaves f fs _ more) = leaves f fs (take (suc k) gs) (survive_front (suc k) fs gs more)

-- ---- by a move

module _ (x y : Outgoing) where
  -- no file has come
  none_came : (files : List WholeFile) → y.files ≡ files → Survive x.files files → y.arrived ≡ x.arrived → FilesGoOn x y
  none_came files is survive same = record {
    still = files;
    new = [];
    files = is ∙ sym (append-nil files);
    survive = survive;
    counted = omega (arith, same);
  }

  -- one has
  one_came : (f : WholeFile) → y ≡ with_arrival f x → y.arrived < max_arrived → FilesGoOn x y
  one_came f e below =
      let counts = ap (λ z. z.arrived) e in
      record {
        still = x.files;
        new = f ∷ [];
        files = ap (λ z. z.files) e;
        survive = same_files x.files;
        counted = omega arith;
      }

pub goes_on_then : FilesGoOnFurther
goes_on_then x y z first second = let parts = survive_both first.still first.new second.still
    (subst (λ files. Survive files second.still) first.files second.survive) in
    record {
      still = parts.first;
      new = parts.second ++ second.new;
      files = second.files ∙ ap (λ files. files ++ second.new) parts.both
          ∙ append_assoc parts.first parts.second second.new;
      survive = survive_then x.files first.still parts.first first.survive parts.of_first;
      counted =
          let fact = first.counted in
          let besides = second.counted in
          let moreover = length-append parts.second second.new in
          omega (arith, no_more first.new parts.second parts.of_second);
    }

-- those that pass a test change
still_where : (p : WholeFile → Bool) (change : WholeFile → WholeFile) → ((f : WholeFile) → IsStill f (change f))
    → (f : WholeFile) → IsStill f (cond (p f) (change f) f)
still_where p change each f = cond_both (p f) (change f) f (IsStill f) (λ _. each f) (λ _. itself f)

pub changed_still : (p : WholeFile → Bool) (change : WholeFile → WholeFile) → ((f : WholeFile) → IsStill f (change f))
    → (f : WholeFile) → IsStill f (changed_file p change f)
changed_still p change = still_where (may_change p) change

pub held_still : (entry : CustomerEntry) (fs : List WholeFile)
    → Survive fs (map (λ f. cond (has_lost_route entry f) (held_file f) f) fs)
held_still entry fs = all_still (λ f. cond (has_lost_route entry f) (held_file f) f)
    (still_where (has_lost_route entry) held_file (λ f. is_same f (held_file f) refl refl refl)) fs

pub rerouted_still : (node : List ℕ) → is_name node ≡ true → (f : WholeFile) → IsStill f (with_new_destination node f)
rerouted_still node is f = record {
  number = refl;
  kind = refl;
  records = to_node node f.records (with_destination f.kind node f.records) is
      (subst (IsRerouted f.kind (records_to_node f.kind node None f.records)) (redirected_is f.kind node f.records)
      (as_before (records_to_node f.kind node None f.records)));
}

one_move : (entry : CustomerEntry) (came : Coming) (x y : Outgoing) → FilesDo entry came x y → y.arrived < max_arrived
    → FilesGoOn x y
one_move entry came x y (does.states same arrived) below =
    none_came x y y.files refl (but_states x.files y.files same) arrived
one_move entry came x y (does.comes f arrived e) below = one_came x y f e below
one_move entry came x y (does.rerouted who name node given e) below =
    let p = is_of_name who name in
    let change = with_new_destination node in
    let named = node_named entry came who name node given in
    none_came x y (with_changed p change x).files (ap (λ z. z.files) e)
    (all_still (changed_file p change) (changed_still p change (rerouted_still node named)) x.files)
    (ap (λ z. z.arrived) e)
one_move entry came x y (does.leave p e arrived each) below =
    none_came x y (filter (λ f. not (p f)) x.files) e (some_still (λ f. not (p f)) x.files) arrived

pub files_survive : FilesSurvive
files_survive entry came _ _ (nowhere x) below = none_came x x x.files refl (same_files x.files) refl
files_survive entry came _ _ (onward x y z move later) below =
    let further = files_survive entry came y z later below in
    goes_on_then x y z (one_move entry came x y (files_do entry came x y move) (omega arith)) further

pub events_keep_files : EventsKeepFiles
events_keep_files p event below = files_survive p.customer.entry (coming p event) (outgoing p.customer)
    (outgoing (event_run p event).after.customer) (events_move p event) below

pub takes_keep_files : TakesKeepFiles
takes_keep_files p l piece there below =
    let t = part_after_bytes p l piece in
    files_survive p.customer.entry (coming p (OwnBytes l (take t.taken piece))) (outgoing p.customer)
    (outgoing t.after.customer) (takes_move p l piece there) below

pub runs_keep_files : RunsKeepFiles
runs_keep_files p [] below = none_came (outgoing p.customer) (outgoing p.customer) p.customer.spool.whole refl
    (same_files p.customer.spool.whole) refl
runs_keep_files p (event ∷ events) below =
    let q = (event_run p event).after in
    let further = runs_keep_files q events below in
    goes_on_then (outgoing p.customer) (outgoing q.customer) (outgoing (alone_run q events).after.customer)
    (events_keep_files p event (omega arith)) further

-- ---- what is read from it

pub first_files : FirstFilesSurvive
first_files x y on =
    let k = length y.files - (y.arrived - x.arrived) in
    let few : k ≤ length on.still =
    let fact = ap (λ (files : List WholeFile). length files) on.files in
    omega (arith, length-append on.still on.new) in
    subst (Survive x.files) (sym (ap (take k) on.files ∙ take-append-le k on.still on.new few))
    (survive_front k x.files on.still on.survive)

-- one of those that are still there was there
pub was_there : (fs gs : List WholeFile) → Survive fs gs → (g : WholeFile) → Contains gs g
    → (f : WholeFile) × Contains fs f × IsStill f g
was_there _ _ none g at = absurd (omega arith)
was_there _ _ (leaves f fs gs more) g at =
    let found = was_there fs gs more g at in
    (found.0, Contains-append_right (f ∷ []) fs found.0 found.1, found.2)
was_there _ _ (stays f h fs gs one more) g at = elim (first_or_later h gs g at) [
  | inl same ↦ (f, (0, omega arith, refl), subst (IsStill f) same one)
  | inr later ↦ let found = was_there fs gs more g later in
      (found.0, Contains-append_right (f ∷ []) fs found.0 found.1, found.2)
]

pub numbered_survivors : SurvivorsAreNumbered
numbered_survivors files still now survive once at =
    let was = was_there files still survive now at in
    subst (λ o. IsSomeAnd o (λ before. IsStill before now))
    (sym (found_numbered (λ (f : WholeFile). f.number) files was.0 now.number (once now.number) was.1
    (sym was.2.number))) was.2
