-- The streams in turn: how often more than there is room for doesn't matter.
use Rattle.std.proofs.Common.{[], ◌∷◌, ◌++◌, length, not, ◌&&◌, nat_le, ◌≡◌, ◌<◌, ◌≤◌, ℕ, zero, suc, ◌+◌, Bool, true}
use Rattle.std.proofs.Common.{false, Option, Some, None, option_map, refl, sym, ap, ◌∙◌, arith, not-suc-le-zero}
use Rattle.std.proofs.Common.{add-one}
use Rattle.std.specs.List.{list_any}
use Rattle.std.proofs.lemmas.Grind.{common_steps}
use Rattle.std.proofs.lemmas.Bool.{leb-true}
use Rattle.njh_block.specs.Blocks.{Item, written_bytes, text_of}
use Rattle.njh_block.specs.Writing.{Writing, has_room, is_general, with_last}
use Rattle.njh_record.specs.Stored.{Stored}
use Rattle.njh_spool.specs.CustomerSpool.{CustomerSpool, WholeFile}
use Rattle.njh_stream.specs.Sending.{next_of}
use Rattle.njh_sched.specs.NextBlock.{Outlet, StreamTurn, Candidate, turns, next_served, sender_at, serving, data_item}
use Rattle.njh_sched.specs.NextBlock.{after_source, after_sources, after_candidate, added_where, filling}
use Rattle.njh_sched.specs.code.Filling.{room_of, filling_where}
use Rattle.njh_sched.proofs.SourceLists.{one_more, full_stays, nothing_left}

-- what a stream in turn sends
abbrev pub served_by : Outlet → CustomerSpool → ℕ → Candidate
served_by o s k = serving o s k (next_of (sender_at k o) s)

-- a record of a stream takes room
right_of : (a b : Bool) → (a && b) ≡ true → b ≡ true
right_of true b e = e
right_of false b e = absurd (cc e)

takes_room : (w : Writing) (i : Item) → 1 ≤ length (written_bytes i) → has_room w i ≡ true
    → room_of (with_last i w) < room_of w
takes_room w i some fits =
    let within : length (text_of w.bcb w.fcs (w.items ++ i ∷ [])) ≤ w.limit
    = leb-true (length (text_of w.bcb w.fcs (w.items ++ i ∷ []))) w.limit
    (right_of (not (list_any is_general w.items)) (nat_le (length (text_of w.bcb w.fcs (w.items ++ i ∷ []))) w.limit)
    fits) in
    let longer : length (text_of w.bcb w.fcs (w.items ++ i ∷ [])) ≡ length (text_of w.bcb w.fcs w.items) + length
    (written_bytes i)
    = grind (arith, common_steps) in
    omega (arith, within, longer)

data_takes : (k : ℕ) (r : Option Stored) → 1 ≤ length (written_bytes (data_item k r))
data_takes k (Some r) = omega arith
data_takes k None = omega arith

served_takes : (w : Writing) (o : Outlet) (s : CustomerSpool) (k : ℕ) → has_room w (served_by o s k).item ≡ true
    → room_of (with_last (served_by o s k).item w) < room_of w
served_takes w o s k e =
    takes_room w (served_by o s k).item (data_takes k (next_of (sender_at k o) s).stored) e

module _ (goes : WholeFile → Bool) where
  pub turn_is : (w : Writing) (o : Outlet) (s : CustomerSpool) (k : Option ℕ) → next_served o ≡ k
      → after_source goes StreamTurn (filling w o s) ≡ after_candidate (option_map (served_by o s) k) (filling w o s)
  unfolding after_source
  turn_is w o s k e = ap (λ t. after_candidate (option_map (served_by o s) t) (filling w o s)) e

  pub no_turns : (n : ℕ) (w : Writing) (o : Outlet) (s : CustomerSpool) → next_served o ≡ None
      → after_sources goes (turns n)
      (filling w o s) ≡ filling w o s
  no_turns zero w o s e = nothing_left goes (filling w o s)
  no_turns (suc n) w o s e = one_more goes StreamTurn (turns n) (filling w o s) (filling w o s) (turn_is w o s None e)
      ∙ no_turns n w o s e

  pub enough : (n m : ℕ) (w : Writing) (o : Outlet) (s : CustomerSpool) → room_of w < n → room_of w < m
      → after_sources goes (turns n) (filling w o s) ≡ after_sources goes (turns m) (filling w o s)
  enough zero m w o s h k = absurd (not-suc-le-zero h)
  enough (suc n) zero w o s h k = absurd (not-suc-le-zero k)
  enough (suc n) (suc m) w o s h k = by_turn (next_served o) refl (enough n m)
    where
      by_room :
          (t : ℕ) (b : Bool) → next_served o ≡ Some t → has_room w (served_by o s t).item ≡ b
          → ((v : Writing) (p : Outlet) (r : CustomerSpool) → room_of v < n → room_of v < m
          → after_sources goes (turns n) (filling v p r) ≡ after_sources goes (turns m) (filling v p r))
          → after_sources goes (turns n) (added_where b (served_by o s t) (filling w o s))
          ≡ after_sources goes (turns m) (added_where b (served_by o s t) (filling w o s))
      by_room t true e f more =
          let less : room_of (with_last (served_by o s t).item w) < room_of w = served_takes w o s t f in
          more (with_last (served_by o s t).item w) (served_by o s t).outlet (served_by o s t).spool
          (omega (arith, less)) (omega
          (arith, less))
      by_room t false e f more = full_stays goes (turns n) w o s ∙ sym (full_stays goes (turns m) w o s)

      served : (t : ℕ) → next_served o ≡ Some t → after_source goes StreamTurn (filling w o s)
          ≡ added_where (has_room w (served_by o s t).item) (served_by o s t) (filling w o s)
      served t e = turn_is w o s (Some t) e

      by_turn :
          (t : Option ℕ) → next_served o ≡ t
          → ((v : Writing) (p : Outlet) (r : CustomerSpool) → room_of v < n → room_of v < m
          → after_sources goes (turns n) (filling v p r) ≡ after_sources goes (turns m) (filling v p r))
          → after_sources goes (turns (suc n)) (filling w o s) ≡ after_sources goes (turns (suc m)) (filling w o s)
      by_turn None e more = no_turns (suc n) w o s e ∙ sym (no_turns (suc m) w o s e)
      by_turn (Some t) e more =
          one_more goes StreamTurn (turns n) (filling w o s) _ (served t e)
          ∙ by_room t (has_room w (served_by o s t).item) e refl more
          ∙ sym (one_more goes StreamTurn (turns m) (filling w o s) _ (served t e))

  -- a stream's record had room
  pub turn_went_on :
      (k : ℕ) (b : Bool) (w v : Writing) (o p : Outlet) (s : CustomerSpool) → next_served o ≡ Some k → b ≡ true
      → after_candidate (Some (served_by o s k)) (filling w o s) ≡ filling_where b v p s → room_of v < room_of w
      → after_sources goes (turns (room_of w + 1)) (filling w o s) ≡ after_sources goes (turns (room_of v + 1))
      (filling v p s)
  turn_went_on k b w v o p s served room e less =
      ap (λ n. after_sources goes (turns n) (filling w o s)) (add-one (room_of w))
      ∙ one_more goes StreamTurn (turns (room_of w)) (filling w o s) (filling v p s)
      (turn_is w o s (Some k) served ∙ e ∙ ap (λ t. filling_where t v p s) room)
      ∙ enough (room_of w) (room_of v + 1) v p s less (omega arith)

  -- it had none
  pub turn_stopped :
      (k : ℕ) (b : Bool) (w v : Writing) (o p : Outlet) (s : CustomerSpool) → next_served o ≡ Some k → b ≡ false
      → after_candidate (Some (served_by o s k)) (filling w o s) ≡ filling_where b v p s
      → after_sources goes (turns (room_of w + 1)) (filling w o s) ≡ filling_where false v p s
  turn_stopped k b w v o p s served room e =
      ap (λ n. after_sources goes (turns n) (filling w o s)) (add-one (room_of w))
      ∙ one_more goes StreamTurn (turns (room_of w)) (filling w o s) (filling_where false v p s)
      (turn_is w o s (Some k) served ∙ e ∙ ap (λ t. filling_where t v p s) room)
      ∙ full_stays goes (turns (room_of w)) v p s
