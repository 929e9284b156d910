-- A search that goes on over a customer's files.
use Rattle.std.proofs.Common.{◌≡◌, ◌<◌, ◌≤◌, ℕ, ◌+◌, Bool, true, false, ◌==◌, ◌&&◌, cond, List, [], ◌∷◌, length, take}
use Rattle.std.proofs.Common.{Option, Some, None, option_map, slice_get, slice_set, refl, sym, ap, subst, ◌∙◌, arith}
use Rattle.std.specs.List.{list_any}
use Rattle.std.proofs.lemmas.Bool.{eqb-true}
use Rattle.std.proofs.lemmas.List.{length-map}
use Rattle.std.proofs.lemmas.Option.{slice_get_past}
use Rattle.njh_record.specs.declared.Kind.{Kind}
use Rattle.njh_record.specs.declared.Kind.TheVariants.{In, Out}
use Rattle.njh_spool.specs.CustomerSpool.{CustomerSpool, WholeFile, with_state}
use Rattle.njh_spool.specs.Headers.{summary}
use Rattle.njh_spool.specs.Spools.{spool_at}
use Rattle.njh_spool.specs.declared.State.TheVariants as state
use Rattle.njh_spool.specs.declared.file_headers.FileSummary.{FileSummary}
use Rattle.njh_stream.specs.Sending.{holds_of}
use Rattle.njh_table.specs.TableFile.{NamedCustomer}
use Rattle.njh_table.specs.declared.LineId.{LineId}
use Rattle.njh_sched.specs.NextBlock.{is_ready, may_go, oldest, same_kind}
use Rattle.njh_sched.specs.code.FileCursor.{FileCursor, GoesOn, HasPassed, IsOver, files_of, first_file, goes_of}
use Rattle.njh_sched.specs.code.FileCursor.{index_of, is_known_to_go, cursor_at, other, passed_where}
use Rattle.njh_sched.proofs.FileLists.{by_summary, found_here, found_nowhere, none_changed, one_more}
use Rattle.njh_sched.proofs.SpoolLaws.{as_long}

-- ---- a file more is passed

other_kind : (a kind : Kind) → same_kind a kind ≡ true → same_kind a (other kind) ≡ false
other_kind In In e = refl
other_kind In Out e = absurd (cc e)
other_kind Out In e = absurd (cc e)
other_kind Out Out e = refl

both_true : (a b : Bool) → true ≡ (a && b) → (a ≡ true) × (b ≡ true)
both_true true true e = (refl, refl)
both_true true false e = absurd (cc e)
both_true false b e = absurd (cc e)

module _ (goes : WholeFile → Bool) (kind : Kind) (s : CustomerSpool) where
  pub one_passed : (i : ℕ) → i < length s.whole → HasPassed goes kind i s
      → holds_of (may_go goes kind) (slice_get s.whole i) ≡ false
      → HasPassed goes kind (i + 1) s
  one_passed i within before not = record {
    within = omega (arith, within);
    none = one_more (may_go goes kind) s.whole i before.none not;
  }

  -- a file of a kind goes on no stream of the other
  not_other : (x : FileSummary) (o : Option WholeFile) → option_map summary o ≡ Some x → same_kind x.kind kind ≡ true
      → holds_of (may_go goes (other kind)) o ≡ false
  not_other x None is same = absurd (cc is)
  not_other x (Some f) is same =
      let here : summary f ≡ x = cc is in
      by_ready (is_ready f.state) (same_kind f.kind (other kind))
      (other_kind f.kind kind (ap (λ (y : FileSummary). same_kind y.kind kind) here ∙ same))
    where
      by_ready : (ready k : Bool) → k ≡ false → (ready && (k && goes f)) ≡ false
      by_ready true k e = ap (λ b. b && goes f) e
      by_ready false k e = refl

  -- so it is passed for the other
  pub other_passed :
      (i o : ℕ) (x : FileSummary) (b : Bool) → b ≡ (same_kind x.kind kind && (o == i)) → i < length s.whole
      → option_map summary (slice_get s.whole i) ≡ Some x → HasPassed goes (other kind) o s
      → HasPassed goes (other kind) (passed_where b i o) s
  other_passed i o x false e within is before = before
  other_passed i o x true e within is before =
      let parts : (same_kind x.kind kind ≡ true) × ((o == i) ≡ true) = both_true (same_kind x.kind kind) (o == i) e in
      let here : o ≡ i = eqb-true o i parts.1 in
      record {
        within = omega (arith, within);
        none = one_more (may_go goes (other kind)) s.whole i
            (subst (λ n. list_any (may_go goes (other kind)) (take n s.whole) ≡ false) here before.none)
            (not_other x (slice_get s.whole i) is parts.0);
      }

-- a file that is Sending from then on is passed as before
module _ (goes : WholeFile → Bool) (kind : Kind) (n : ℕ) where
  stays_out : (x : WholeFile) → may_go goes kind x ≡ false
      → may_go goes kind (cond (x.number == n) (record x { state = state.Sending }) x) ≡ false
  stays_out x h = at_test (x.number == n)
    where
      at_test : (b : Bool) → may_go goes kind (cond b (record x { state = state.Sending }) x) ≡ false
      at_test true = refl
      at_test false = h

  passed_before : (i : ℕ) (s : CustomerSpool) → HasPassed goes kind i s
      → HasPassed goes kind i (with_state n state.Sending s)
  passed_before i s before = record {
    within = omega (arith, before.within, length-map {A = WholeFile} {B = WholeFile});
    none = none_changed (may_go goes kind) (λ x. cond (x.number == n) (record x { state = state.Sending }) x) s.whole i
        stays_out before.none;
  }

-- ---- the oldest file

module _ (goes : WholeFile → Bool) (kind : Kind) (s : CustomerSpool) where
  number_of : (o : Option WholeFile) (x : FileSummary) → option_map summary o ≡ Some x
      → option_map (λ f. f.number) o ≡ Some x.id
  number_of None x is = absurd (cc is)
  number_of (Some f) x is = let here : summary f ≡ x = cc is in ap (λ (y : FileSummary). Some y.id) here

  pub oldest_here :
      (i : ℕ) (x : FileSummary) → HasPassed goes kind i s → holds_of (may_go goes kind) (slice_get s.whole i) ≡ true
      → option_map summary (slice_get s.whole i) ≡ Some x → Some x.id ≡ option_map (λ f. f.number) (oldest goes kind s)
  oldest_here i x before may is =
      sym (ap (option_map (λ f. f.number)) (found_here (may_go goes kind) s.whole i before.none may)
      ∙ number_of (slice_get s.whole i) x is)

  pub oldest_nowhere : (i : ℕ) → HasPassed goes kind i s → length s.whole ≤ i
      → None ≡ option_map (λ f. f.number) (oldest goes kind s)
  oldest_nowhere i before all =
      sym (ap (option_map (λ f. f.number)) (found_nowhere (may_go goes kind) s.whole i before.none all
      ∙ slice_get_past s.whole (length s.whole) (omega arith)))

-- ---- the search

pub known : (x : FileCursor) (kind : Kind) (spools : List CustomerSpool) (i : ℕ) (f : FileSummary)
    → option_map summary (slice_get (files_of x spools).whole i) ≡ Some f
    → is_known_to_go x kind f ≡ holds_of (may_go (goes_of x) kind) (slice_get (files_of x spools).whole i)
known x kind spools i f is =
    by_summary (may_go (goes_of x) kind) (is_known_to_go x kind) (λ f. refl)
    (slice_get (files_of x spools).whole i) f is

none_of_none : (p : WholeFile → Bool) (fs : List WholeFile) → list_any p (take 0 fs) ≡ false
none_of_none p [] = refl
none_of_none p (f ∷ fs) = refl

pub from_first : (entry : NamedCustomer) (id : LineId) (spools : List CustomerSpool) → id.customer < length spools
    → IsOver (first_file entry id) spools
from_first entry id spools range = record { range = range; passed = none_passed }
  where
    goes : WholeFile → Bool
    goes = goes_of (first_file entry id)

    none_passed : (kind : Kind) → HasPassed goes kind (index_of kind (first_file entry id))
        (spool_at id.customer spools)
    none_passed In = record {
      within = omega arith;
      none = none_of_none (may_go goes In) (spool_at id.customer spools).whole;
    }
    none_passed Out = record {
      within = omega arith;
      none = none_of_none (may_go goes Out) (spool_at id.customer spools).whole;
    }

pub known_is : (kind : Kind) (index others : ℕ) (x : FileCursor) (f : FileSummary)
    → is_known_to_go (cursor_at kind index others x) kind f ≡ is_known_to_go x kind f
known_is In index others x f = refl
known_is Out index others x f = refl

pub moved_again : (kind : Kind) (index others before beside : ℕ) (x : FileCursor)
    → cursor_at kind index others (cursor_at kind before beside x) ≡ cursor_at kind index others x
moved_again In index others before beside x = refl
moved_again Out index others before beside x = refl

pub stays : (x : FileCursor) (spools : List CustomerSpool) → IsOver x spools → GoesOn x x spools
stays x spools over = record { line = refl; over = over }

pub goes_to :
    (x : FileCursor) (kind : Kind) (index others : ℕ) (spools : List CustomerSpool) → x.id.customer < length spools
    → HasPassed (goes_of x) kind index (files_of x spools)
    → HasPassed (goes_of x) (other kind) others (files_of x spools)
    → GoesOn x (cursor_at kind index others x) spools
goes_to x In index others spools range own rest = record { line = refl; over = record { range = range; passed = at } }
  where
    at : (kind : Kind) → HasPassed (goes_of x) kind (index_of kind (cursor_at In index others x)) (files_of x spools)
    at In = own
    at Out = rest
goes_to x Out index others spools range own rest = record { line = refl; over = record { range = range; passed = at } }
  where
    at : (kind : Kind) → HasPassed (goes_of x) kind (index_of kind (cursor_at Out index others x)) (files_of x spools)
    at In = rest
    at Out = own

module _ (x y : FileCursor) (line : y ≡ record x { sysin = y.sysin; sysout = y.sysout }) where
  pub again : (z : FileCursor) (spools : List CustomerSpool) → GoesOn y z spools → GoesOn x z spools
  again z spools then = record {
    line = then.line ∙ ap (λ (v : FileCursor). record v { sysin = z.sysin; sysout = z.sysout }) line;
    over = then.over;
  }

  pub customer_is : y.id.customer ≡ x.id.customer
  customer_is = ap (λ (v : FileCursor). v.id.customer) line

  -- what is the oldest for one is so for the other
  pub oldest_is : (n : Option ℕ) (kind : Kind) (spools : List CustomerSpool)
      → n ≡ option_map (λ f. f.number) (oldest (goes_of y) kind (files_of y spools))
      → n ≡ option_map (λ f. f.number) (oldest (goes_of x) kind (files_of x spools))
  oldest_is n kind spools e =
      subst (λ (v : FileCursor). n ≡ option_map (λ f. f.number) (oldest (goes_of v) kind (files_of v spools))) line e

  module _ (kind : Kind) (c i : ℕ) (spools : List CustomerSpool) (same : c ≡ x.id.customer)
      (before : HasPassed (goes_of y) kind i (files_of y spools)) where
    -- none of the files is so
    pub none_at_end : (files : ℕ) → files ≡ length (spool_at c spools).whole → files ≤ i
        → None ≡ option_map (λ f. f.number) (oldest (goes_of x) kind (files_of x spools))
    none_at_end files is past =
        let here : length (spool_at c spools).whole ≤ i = omega (arith, is, past) in
        let all : length (files_of y spools).whole ≤ i
        = subst (λ (m : ℕ). length (spool_at m spools).whole ≤ i) (same ∙ sym customer_is) here in
        oldest_is None kind spools (oldest_nowhere (goes_of y) kind (files_of y spools) i before all)

    module _ (f : FileSummary) (seen : option_map summary (slice_get (spool_at c spools).whole i) ≡ Some f) where
      seen_there : option_map summary (slice_get (files_of y spools).whole i) ≡ Some f
      seen_there =
          subst (λ (m : ℕ). option_map summary (slice_get (spool_at m spools).whole i) ≡ Some f)
          (same ∙ sym customer_is)
          seen

      -- the file at the index is the oldest
      pub found_at : is_known_to_go y kind f ≡ true
          → Some f.id ≡ option_map (λ f. f.number) (oldest (goes_of x) kind (files_of x spools))
      found_at may =
          oldest_is (Some f.id) kind spools
          (oldest_here (goes_of y) kind (files_of y spools) i f before
          (sym (known y kind spools i f seen_there) ∙ may) seen_there)

      -- the file at the index may not go, and is passed
      pub passes_on :
          (o : ℕ) → IsOver y spools → i < length (spool_at c spools).whole
          → HasPassed (goes_of y) (other kind) o (files_of y spools) → is_known_to_go y kind f ≡ false
          → GoesOn x (cursor_at kind (i + 1) o y) spools
      passes_on o over within rest not =
          let there : i < length (files_of y spools).whole
          = subst (λ (m : ℕ). i < length (spool_at m spools).whole) (same ∙ sym customer_is) within in
          again (cursor_at kind (i + 1) o y) spools
          (goes_to y kind (i + 1) o spools over.range
          (one_passed (goes_of y) kind (files_of y spools) i there before
          (sym (known y kind spools i f seen_there) ∙ not)) rest)

-- a file that was asked for is Sending, and is passed as before
pub sends_one :
    (x : FileCursor) (c n : ℕ) (old new : List CustomerSpool) → c ≡ x.id.customer → IsOver x old
    → new ≡ slice_set old c (spool_at c new) → spool_at c new ≡ with_state n state.Sending (spool_at c old)
    → IsOver x new
sends_one x c n old new same over moves sends =
    subst (λ m. new ≡ slice_set old m (spool_at m new) → spool_at m new ≡ with_state n state.Sending (spool_at m old)
    → IsOver x new) (sym same)
    (λ so is. record {
      range = as_long x.id.customer old new over.range so;
      passed = λ kind. subst (HasPassed (goes_of x) kind (index_of kind x)) (sym is)
          (passed_before (goes_of x) kind n (index_of kind x) (files_of x old) (over.passed kind));
    }) moves sends
