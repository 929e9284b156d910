-- A block without records has room for whatever comes first.
use Rattle.std.proofs.Common.{◌≡◌, ◌≤◌, ℕ, zero, suc, ◌+◌, Bool, true, false, ◌&&◌, ◌||◌, ◌==◌, nat_le, not, cond, find}
use Rattle.std.proofs.Common.{List, [], ◌∷◌, ◌++◌, length, All, Option, Some, None, IfSome, option_map, slice_get}
use Rattle.std.proofs.Common.{refl, sym, ap, subst, ◌∙◌, arith}
use Rattle.std.specs.List.{list_any}
use Rattle.std.specs.Option.{is_some}
use Rattle.std.proofs.lemmas.Bool.{false≢true, le-leb}
use Rattle.std.proofs.lemmas.List.{length-append}
use Rattle.std.proofs.lemmas.List.Elements.{All-head, All-tail}
use Rattle.njh_record.specs.Stored.{Stored}
use Rattle.njh_record.proofs.WritingLaws.{length-spelling_of-record}
use Rattle.njh_block.specs.Blocks.{Item, all_suspended, text_of, written_bytes}
use Rattle.njh_block.specs.Codes.{kind_of}
use Rattle.njh_block.specs.Writing.{Writing, has_room, is_general, with_last}
use Rattle.njh_block.specs.declared.answer.Answer.{Answer}
use Rattle.njh_spool.specs.CustomerSpool.{CustomerSpool, WholeFile, whole_numbered}
use Rattle.njh_spool.specs.Spools.{HasShortRecords}
use Rattle.njh_stream.specs.declared.sender.Sender.{Sender}
use Rattle.njh_stream.specs.declared.sender.Sender.TheVariants.{Idle, Requested, Sending, EofSent, Aborting}
use Rattle.njh_stream.specs.Sending.{next_at, next_of, record_at}
use Rattle.njh_sched.specs.NextBlock.{Outlet, Candidate, Source, WaitingAnswer, StreamAbort, StreamRequest}
use Rattle.njh_sched.specs.NextBlock.{WaitingMessage, StreamTurn, abort_where, answering, asking, candidate, data_item}
use Rattle.njh_sched.specs.NextBlock.{filled_block, filled_where, filling, may_ask, next_served, oldest, sender_at}
use Rattle.njh_sched.specs.NextBlock.{serving, sources, telling, after_sources}
use Rattle.njh_sched.specs.Fronts.{candidate_first, candidates, with_items, NextHasNone, TakesLongestFront}
use Rattle.njh_sched.specs.Having.{FirstHasRoom, IsShort, has_candidate, has_items}
use Rattle.njh_sched.proofs.FrontLaws.{fills}
use Rattle.njh_sched.proofs.HavingLaws.{more_turns}

-- ---- of all that is short

-- what holds of all holds of the one that is found, and of the one at an index
found_one : {X : Type 0} (P : X → Type 0) (p : X → Bool) (xs : List X) → All P xs → IfSome (find p xs) P
found_one P p [] all = tt
found_one {X} P p (y ∷ ys) all = at_test (p y) (found_one P p ys (All-tail P y ys all))
  where
    at_test : (b : Bool) → IfSome (find p ys) P → IfSome (cond b (Some y) (find p ys)) P
    at_test true more = All-head P y ys all
    at_test false more = more

one_at : {X : Type 0} (P : X → Type 0) (xs : List X) (i : ℕ) → All P xs → IfSome (slice_get xs i) P
one_at P [] i all = tt
one_at P (x ∷ xs) zero all = All-head P x xs all
one_at P (x ∷ xs) (suc i) all = one_at P xs i (All-tail P x xs all)

abbrev ShortRecord : Stored → Type 0
ShortRecord r = length r.bytes ≤ 256

-- so it is of a record that is being sent
record_short : (n place : ℕ) (s : CustomerSpool) → All HasShortRecords s.whole
    → IfSome (record_at n place s) ShortRecord
record_short n place s all = at_file (whole_numbered n s) (found_one HasShortRecords (λ f. f.number == n) s.whole all)
  where
    at_file : (f : Option WholeFile) → IfSome f HasShortRecords
        → IfSome (elim f [ Some g ↦ slice_get g.records place | None ↦ None ]) ShortRecord
    at_file None all = tt
    at_file (Some f) all = one_at ShortRecord f.records place all

-- ---- what comes takes few bytes

abbrev IsFew : Candidate → Type 0
IsFew c = length (written_bytes c.item) ≤ 264

module _ (o : Outlet) (s : CustomerSpool) (short : IsShort o s) where
  few_answer : (a : Option Answer) → IfSome (option_map (answering o s) a) IsFew
  few_answer None = tt
  few_answer (Some a) = omega arith

  few_abort : (x : Sender) (k : ℕ) → IfSome (abort_where x o s k) IsFew
  few_abort Idle k = tt
  few_abort (Requested n) k = tt
  few_abort (Sending n place) k = tt
  few_abort (EofSent n) k = tt
  few_abort Aborting k = omega arith

  few_request : (b : Bool) (k : ℕ) (f : Option WholeFile)
      → IfSome (elim b [ false ↦ None | true ↦ option_map (λ x. asking o s k x.number) f ]) IsFew
  few_request false k f = tt
  few_request true k None = tt
  few_request true k (Some f) = omega arith

  few_message : (m : Option (List ℕ)) → IfSome m (λ bytes. length bytes ≤ 256)
      → IfSome (option_map (telling o s) m) IsFew
  few_message None short = tt
  few_message (Some m) short = omega (arith, length-spelling_of-record m short)

  few_data : (k : ℕ) (r : Option Stored) → IfSome r ShortRecord → length (written_bytes (data_item k r)) ≤ 264
  few_data k None short = omega (arith, length-spelling_of-record [] (omega arith))
  few_data k (Some r) short = omega (arith, length-spelling_of-record r.bytes short)

  few_next : (k : ℕ) (x : Sender) → length (written_bytes (data_item k (next_of x s).stored)) ≤ 264
  few_next k Idle = few_data k None tt
  few_next k (Requested n) = few_data k None tt
  few_next k (Sending n place) = at_record (record_at n place s) (record_short n place s short.records)
    where
      at_record : (r : Option Stored) → IfSome r ShortRecord
          → length (written_bytes (data_item k (next_at n place r).stored)) ≤ 264
      at_record None is = few_data k None is
      at_record (Some r) is = few_data k (Some r) is
  few_next k (EofSent n) = few_data k None tt
  few_next k Aborting = few_data k None tt

  few_turn : (k : Option ℕ) → IfSome (option_map (λ n. serving o s n (next_of (sender_at n o) s)) k) IsFew
  few_turn None = tt
  few_turn (Some k) = few_next k (sender_at k o)

  few : (goes : WholeFile → Bool) (source : Source) → IfSome (candidate goes source o s) IsFew
  few goes WaitingAnswer = few_answer (slice_get o.answers 0)
  few goes (StreamAbort k) = few_abort (sender_at k o) k
  few goes (StreamRequest k) = few_request (may_ask o k) k (oldest goes (kind_of k) s)
  few goes WaitingMessage = few_message (slice_get o.messages 0) short.message
  few goes StreamTurn = few_turn (next_served o)

-- ---- so it has room in a block without records

text_longer : (w : Writing) (items : List Item) (i : Item) → items ≡ []
    → length (text_of w.bcb w.fcs (items ++ i ∷ [])) ≡ 4 + length (written_bytes i)
text_longer w items i empty = subst (λ (is : List Item).
    length (text_of w.bcb w.fcs (is ++ i ∷ [])) ≡ 4 + length (written_bytes i)) (sym empty)
    (omega (arith, length-append (written_bytes i ++ []) (0 ∷ []), length-append (written_bytes i) []))

room_in_empty : (w : Writing) (i : Item) → w.items ≡ [] → 300 ≤ w.limit → length (written_bytes i) ≤ 264
    → has_room w i ≡ true
room_in_empty w i empty limit few =
    ap (λ (is : List Item). not (list_any is_general is)
    && nat_le (length (text_of w.bcb w.fcs (w.items ++ i ∷ []))) w.limit) empty
    ∙ le-leb (length (text_of w.bcb w.fcs (w.items ++ i ∷ []))) w.limit
    (omega (arith, text_longer w w.items i empty, limit, few))

-- the first has room
abbrev FirstFits : Writing → List Candidate → Type 0
FirstFits w [] = Unit {0}
FirstFits w (c ∷ more) = has_room w c.item ≡ true

abbrev is_some_there : List Candidate → Bool
is_some_there [] = false
is_some_there (c ∷ more) = true

module _ (goes : WholeFile → Bool) (w : Writing) (o : Outlet) (s : CustomerSpool) where
  first_fits : ((source : Source) → IfSome (candidate goes source o s) IsFew) → w.items ≡ [] → 300 ≤ w.limit
      → (srcs : List Source) → FirstFits w (candidates goes srcs o s)
  first_fits few empty limit [] = tt
  first_fits few empty limit (source ∷ more) =
      by_candidate (candidate goes source o s) (few source) (first_fits few empty limit more)
    where
      by_candidate : (a : Option Candidate) → IfSome a IsFew → FirstFits w (candidates goes more o s)
          → FirstFits w (candidate_first a (λ outlet spool. candidates goes more outlet spool) o s)
      by_candidate None is later = later
      by_candidate (Some c) is later = room_in_empty w c.item empty limit is

  there_is : (srcs : List Source) → is_some_there (candidates goes srcs o s) ≡ list_any (has_candidate goes o s) srcs
  there_is [] = refl
  there_is (source ∷ more) = by_candidate (candidate goes source o s) (there_is more)
    where
      by_candidate : (a : Option Candidate)
          → is_some_there (candidates goes more o s) ≡ list_any (has_candidate goes o s) more
          → is_some_there (candidate_first a (λ outlet spool. candidates goes more outlet spool) o s)
          ≡ (is_some a || list_any (has_candidate goes o s) more)
      by_candidate None later = later
      by_candidate (Some c) later = refl

-- ---- and the block has it

has_last : (items : List Item) (i : Item) → has_items (items ++ i ∷ []) ≡ true
has_last [] i = refl
has_last (j ∷ js) i = refl

items_stay : (front : List Candidate) (w : Writing) → has_items w.items ≡ true
    → has_items (with_items front w).items ≡ true
items_stay [] w e = e
items_stay (c ∷ more) w e = items_stay more (with_last c.item w) (has_last w.items c.item)

front_taken : (w v : Writing) (all front behind : List Candidate) → w.items ≡ [] → FirstFits w all
    → all ≡ front ++ behind → v ≡ with_items front w → NextHasNone behind v
    → has_items v.items ≡ is_some_there all
front_taken w v all [] [] empty fits are is next =
    ap (λ (x : Writing). has_items x.items) is ∙ ap has_items empty ∙ sym (ap is_some_there are)
front_taken w v all [] (c ∷ more) empty fits are is next =
    let room : has_room w c.item ≡ true = subst (FirstFits w) are fits in
    let none : has_room w c.item ≡ false = sym (ap (λ (x : Writing). has_room x c.item) is) ∙ next in
    absurd (false≢true (sym none ∙ room))
front_taken w v all (c ∷ front) behind empty fits are is next =
    ap (λ (x : Writing). has_items x.items) is
    ∙ items_stay front (with_last c.item w) (has_last w.items c.item) ∙ sym (ap is_some_there are)

pub first_has_room : FirstHasRoom
unfolding filled_block
first_has_room goes w o s empty limit short = by_suspended (all_suspended o.peer_fcs)
  where
    taken : (srcs : List Source)
        → TakesLongestFront (candidates goes srcs o s) w o s (after_sources goes srcs (filling w o s))
        → has_items (after_sources goes srcs (filling w o s)).block.items ≡ is_some_there (candidates goes srcs o s)
    taken srcs t = front_taken w (after_sources goes srcs (filling w o s)).block (candidates goes srcs o s) t.front
        t.behind empty (first_fits goes w o s (few o s short goes) empty limit srcs) t.are t.block t.next

    by_suspended : (b : Bool) → has_items (filled_where b goes (filling w o s)).block.items
        ≡ (not b && list_any (has_candidate goes o s) (sources 1 o))
    by_suspended true = ap has_items empty
    by_suspended false =
        taken (sources w.limit o) (fills goes (sources w.limit o) w o s)
        ∙ there_is goes w o s (sources w.limit o)
        ∙ more_turns goes o s w.limit (omega (arith, limit))
