-- Rounds of turns: one turn more, and one round more.
use Rattle.std.proofs.Common.{◌≡◌, ℕ, ◌<◌, ◌≤◌, List, [], ◌∷◌, ◌++◌, length, set, get_or, refl, ap, sym, subst, ◌∙◌}
use Rattle.std.proofs.Common.{⊎_elim, arith, append_assoc, append-nil}
use Rattle.std.specs.Prelude.{◌⊎◌, None, IsSome}
use Rattle.std.specs.List.{flat_map}
use Rattle.std.proofs.lemmas.Bool.{cases_lt}
use Rattle.std.proofs.lemmas.Grind.{flat_map-append}
use Rattle.std.proofs.lemmas.List.{take-append-le, length-append, get_or-set_same, get_or-set_other, get_or_append_left}
use Rattle.std.proofs.lemmas.List.{get_or_read, get_or_default, set-get_or}
use Rattle.std.proofs.lemmas.List.Elements.{All-push}
use Rattle.std.proofs.Math.Seq.{get_or-append_seam, take-append_seam}
use Rattle.njh_table.specs.declared.LineId.{LineId}
use Rattle.njh_hub.specs.declared.event.Event.{Event}
use Rattle.njh_hub.specs.Sent.{IsCounted}
use Rattle.njh_hub.specs.WholeHub.{Part, HubRun, hub_run}
use Rattle.njh_hub.proofs.RunningLaws.{counted_from, hub_run-append}
use Rattle.njh_turns.specs.Wires.{Pending, Prompted, Failed, WireAct, WireSays, HubWire, hub_wire}
use Rattle.njh_turns.specs.Turns.{Turn, IsTurn, Placed, HubMoment, HadTurn, HadTurns, HasFault, IsRound, moment}
use Rattle.njh_turns.specs.Turns.{no_line_id, no_turn, quiet_after, turn_events, round_events, quiets_after, turn_at}
use Rattle.njh_turns.specs.Turns.{placed_acts, placed_prompt, placed_stop}
use Rattle.njh_turns.proofs.TurnLaws.{counted_on}

-- ---- one turn more

pub round_events-none : (lines : List LineId) (quiets : List ℕ) → round_events lines quiets [] ≡ []
round_events-none [] quiets = refl
round_events-none (line ∷ lines) [] = refl
round_events-none (line ∷ lines) (quiet ∷ quiets) = refl

pub round_events-more : (lines : List LineId) (quiets : List ℕ) (turns : List Turn) (turn : Turn) →
    length turns < length lines → length turns < length quiets → round_events lines quiets (turns ++ turn ∷ [])
    ≡ round_events lines quiets turns ++ turn_events (get_or lines (length turns) no_line_id)
    (get_or quiets (length turns) 0) turn
round_events-more [] quiets turns turn h k = absurd (omega arith)
round_events-more (l ∷ ls) [] turns turn h k = absurd (omega arith)
round_events-more (l ∷ ls) (q ∷ qs) [] turn h k =
    ap (λ (es : List Event). turn_events l q turn ++ es) (round_events-none ls qs) ∙ append-nil (turn_events l q turn)
round_events-more (l ∷ ls) (q ∷ qs) (t ∷ ts) turn h k =
    ap (λ (es : List Event). turn_events l q t ++ es) (round_events-more ls qs ts turn (omega arith) (omega arith))
    ∙ sym (append_assoc (turn_events l q t) (round_events ls qs ts)
    (turn_events (get_or ls (length ts) no_line_id) (get_or qs (length ts) 0) turn))

pub quiets_after-none : (quiets : List ℕ) → quiets ≡ quiets_after quiets []
quiets_after-none [] = refl
quiets_after-none (q ∷ qs) = refl

pub quiets_after-here : (quiets : List ℕ) (turns : List Turn) →
    get_or (quiets_after quiets turns) (length turns) 0 ≡ get_or quiets (length turns) 0
quiets_after-here [] turns = refl
quiets_after-here (q ∷ qs) [] = refl
quiets_after-here (q ∷ qs) (t ∷ ts) = quiets_after-here qs ts

pub quiets_after-more : (quiets : List ℕ) (turns : List Turn) (turn : Turn) →
    set (quiets_after quiets turns) (length turns) (quiet_after (get_or quiets (length turns) 0) turn.heard)
    ≡ quiets_after quiets (turns ++ turn ∷ [])
quiets_after-more [] turns turn = refl
quiets_after-more (q ∷ []) [] turn = refl
quiets_after-more (q ∷ r ∷ qs) [] turn = refl
quiets_after-more (q ∷ qs) (t ∷ ts) turn =
    ap (λ (xs : List ℕ). quiet_after q t.heard ∷ xs) (quiets_after-more qs ts turn)

-- an earlier turn stands where it stood
placed-before : (parts : List Part) (lines : List LineId) (quiets : List ℕ) (i : ℕ) (turns : List Turn) (turn : Turn) →
    i < length turns → turn_at parts lines quiets i (turns ++ turn ∷ []) ≡ turn_at parts lines quiets i turns
placed-before parts lines quiets i turns turn h =
    ap (λ (ts : List Turn). record (turn_at parts lines quiets i (turns ++ turn ∷ [])) {
      parts = (hub_run parts (round_events lines quiets ts)).parts;
    }) (take-append-le i turns (turn ∷ []) (omega arith))
    ∙ ap (λ (t : Turn). record (turn_at parts lines quiets i turns) { turn = t })
    (get_or_append_left turns (turn ∷ []) no_turn i h)

placed-here : (parts : List Part) (lines : List LineId) (quiets : List ℕ) (turns : List Turn) (turn : Turn) →
    turn_at parts lines quiets (length turns) (turns ++ turn ∷ []) ≡ record {
      parts = (hub_run parts (round_events lines quiets turns)).parts;
      line = get_or lines (length turns) no_line_id;
      quiet = get_or quiets (length turns) 0;
      turn = turn;
    }
placed-here parts lines quiets turns turn =
    ap (λ (ts : List Turn). record (turn_at parts lines quiets (length turns) (turns ++ turn ∷ [])) {
      parts = (hub_run parts (round_events lines quiets ts)).parts;
    }) (take-append_seam turns (turn ∷ []))
    ∙ ap (λ (t : Turn). record (turn_at parts lines quiets (length turns) (turns ++ turn ∷ [])) {
      parts = (hub_run parts (round_events lines quiets turns)).parts;
      turn = t;
    }) (get_or-append_seam turns turn [] no_turn)

-- One wire more had its turn.
pub record GoesRound {S : Type 0} (says : WireSays S) (lines : List LineId) (before : HubMoment S) (turns : List Turn)
    (now : HubMoment S) (i : ℕ) (id : LineId) (quiet : ℕ) (turn : Turn) (wire : S) (after : HubWire S) : Type 0 where
  pub so_far : IsRound says lines before turns now
  pub at : length turns ≡ i
  pub lines_left : i < length lines
  pub quiets_left : i < length before.quiets
  pub wires_left : i < length now.wires
  pub line_is : id ≡ get_or lines i no_line_id
  pub quiet_is : quiet ≡ get_or now.quiets i 0
  pub wire_is : wire ≡ get_or now.wires i wire
  pub did : IsTurn says id quiet (hub_wire now.parts wire) turn after

-- the wires that had their turn, that one among them
round_had : {S : Type 0} {says : WireSays S} {lines : List LineId} {first now : HubMoment S} {turns : List Turn} {i : ℕ}
    {id : LineId} {quiet : ℕ} {turn : Turn} {wire : S} {after : HubWire S} →
    GoesRound says lines first turns now i id quiet turn wire after →
    HadTurn says (turn_at first.parts lines first.quiets (length turns) (turns ++ turn ∷ [])) wire after.wire →
    (k : ℕ) (d : S) → k < length (turns ++ turn ∷ []) → (k < length turns) ⊎ (length turns ≤ k) →
    HadTurn says (turn_at first.parts lines first.quiets k (turns ++ turn ∷ [])) (get_or first.wires k d)
    (get_or (set now.wires i after.wire) k d)
round_had {S} {says} {lines} {first} {now} {turns} {i} {id} {quiet} {turn} {wire} {after} g this k d within which =
    ⊎_elim (λ (w : k < length turns).
    let P : Placed → Type 0 = λ p. HadTurn says p (get_or first.wires k d) (get_or (set now.wires i after.wire) k d) in
    let Q : S → Type 0 = λ s. HadTurn says (turn_at first.parts lines first.quiets k turns) (get_or first.wires k d)
    s in
    let other : get_or (set now.wires i after.wire) k d ≡ get_or now.wires k d =
    get_or-set_other now.wires i k after.wire d (omega (arith, g.at, w)) in
    subst P (sym (placed-before first.parts lines first.quiets k turns turn w))
    (subst Q (sym other) (g.so_far.had k d w)))
    (λ (w : length turns ≤ k).
    let at : k ≡ i = omega (arith, g.at, w, within, length-append turns (turn ∷ [])) in
    let same : length turns ≡ k = omega (arith, g.at, at) in
    let old : wire ≡ get_or first.wires k d = get_or_read now.wires i wire g.wires_left g.wire_is d
    ∙ ap (λ (n : ℕ). get_or now.wires n d) (sym at) ∙ g.so_far.rest k d w in
    let new_is : after.wire ≡ get_or (set now.wires i after.wire) k d =
    sym (ap (λ (n : ℕ). get_or (set now.wires i after.wire) n d) at
    ∙ get_or-set_same now.wires i after.wire d g.wires_left) in
    let placed : ℕ → Placed = λ n. turn_at first.parts lines first.quiets n (turns ++ turn ∷ []) in
    let P : ℕ → Type 0 = λ n. HadTurn says (placed n) wire after.wire in
    let Q : S → Type 0 = λ s. HadTurn says (placed k) s after.wire in
    let R : S → Type 0 = λ s. HadTurn says (placed k) (get_or first.wires k d) s in
    subst R new_is (subst Q old (subst P same this))) which

pub round_more : {S : Type 0} {says : WireSays S} {lines : List LineId} {first now : HubMoment S} {turns : List Turn}
    {i : ℕ} {id : LineId} {quiet : ℕ} {turn : Turn} {wire : S} {after : HubWire S} →
    GoesRound says lines first turns now i id quiet turn wire after →
    IsRound says lines first (turns ++ turn ∷ [])
    (moment after.parts (set now.quiets i (quiet_after quiet turn.heard)) (set now.wires i after.wire))
round_more {S} {says} {lines} {first} {now} {turns} {i} {id} {quiet} {turn} {wire} {after} g =
    let quiets = first.quiets in
    let so_far = round_events lines quiets turns in
    let led = (hub_run first.parts so_far).parts in
    let line_is : id ≡ get_or lines (length turns) no_line_id =
    g.line_is ∙ ap (λ (n : ℕ). get_or lines n no_line_id) (sym g.at) in
    let quiet_is : quiet ≡ get_or quiets (length turns) 0 =
    g.quiet_is ∙ ap (λ (n : ℕ). get_or now.quiets n 0) (sym g.at)
    ∙ ap (λ (qs : List ℕ). get_or qs (length turns) 0) g.so_far.calm
    ∙ quiets_after-here quiets turns in
    let here : turn_events id quiet turn ≡ turn_events (get_or lines (length turns) no_line_id)
    (get_or quiets (length turns) 0) turn =
    ap (λ (l : LineId). turn_events l quiet turn) line_is
    ∙ ap (λ (q : ℕ). turn_events (get_or lines (length turns) no_line_id) q turn) quiet_is in
    let events : round_events lines quiets (turns ++ turn ∷ []) ≡ so_far ++ turn_events id quiet turn =
    round_events-more lines quiets turns turn (omega (arith, g.at, g.lines_left)) (omega (arith, g.at, g.quiets_left))
    ∙ ap (λ (es : List Event). so_far ++ es) (sym here) in
    let P : Placed → Type 0 = λ p. HadTurn says p wire after.wire in
    let place : record { parts = now.parts; line = id; quiet = quiet; turn = turn }
    ≡ turn_at first.parts lines quiets (length turns) (turns ++ turn ∷ []) =
    ap (λ (ps : List Part). record { parts = ps; line = id; quiet = quiet; turn = turn }) g.so_far.hub
    ∙ ap (λ (l : LineId). record { parts = led; line = l; quiet = quiet; turn = turn }) line_is
    ∙ ap (λ (q : ℕ). record {
      parts = led;
      line = get_or lines (length turns) no_line_id;
      quiet = q;
      turn = turn;
    }) quiet_is ∙ sym (placed-here first.parts lines quiets turns turn) in
    let this : HadTurn says (turn_at first.parts lines quiets (length turns) (turns ++ turn ∷ [])) wire after.wire =
    subst P place (record {
      acts = g.did.acts;
      stop = g.did.stop;
      prompted = g.did.prompted;
      counts = g.did.counts;
      counted = g.did.counted;
    }) in
    record {
      hub = g.did.hub ∙ ap (λ (ps : List Part). (hub_run ps (turn_events id quiet turn)).parts) g.so_far.hub
          ∙ sym (ap (λ (h : HubRun). h.parts) (hub_run-append first.parts so_far (turn_events id quiet turn)))
          ∙ sym (ap (λ (es : List Event). (hub_run first.parts es).parts) events);
      calm = ap (λ (qs : List ℕ). set qs i (quiet_after quiet turn.heard)) g.so_far.calm
          ∙ ap (λ (n : ℕ). set (quiets_after quiets turns) n (quiet_after quiet turn.heard)) (sym g.at)
          ∙ ap (λ (q : ℕ). set (quiets_after quiets turns) (length turns) (quiet_after q turn.heard)) quiet_is
          ∙ quiets_after-more quiets turns turn;
      had = λ k d within. round_had g this k d within (cases_lt k (length turns));
      rest = λ k d past. get_or-set_other now.wires i k after.wire d
          (omega (arith, g.at, past, length-append turns (turn ∷ [])))
          ∙ g.so_far.rest k d (omega (arith, past, length-append turns (turn ∷ [])));
    }

-- The next wire is passed over: its turn is that of an answer that is pending.
abbrev pub passed_over : Turn
passed_over = record { heard = Pending; cut = None }

pub round_over : {S : Type 0} {says : WireSays S} {lines : List LineId} {first : HubMoment S} {turns : List Turn}
    {now : List Part} {now_quiets : List ℕ} (now_wires : List S) {i : ℕ} → ((s : S) → says.passed s s []) →
    IsRound says lines first turns (moment now now_quiets now_wires) → length turns ≡ i → i < length lines →
    i < length first.quiets → i < length now_wires →
    IsRound says lines first (turns ++ passed_over ∷ []) (moment now now_quiets now_wires)
round_over [] none h at lines_left quiets_left wires_left = absurd (omega (arith, wires_left))
round_over {S} {says} {lines} {first} {turns} {now} {now_quiets} (w ∷ ws) {i} none h at lines_left quiets_left
    wires_left =
    let now_wires : List S = w ∷ ws in
    let wire : S = get_or now_wires i w in
    let goes : GoesRound says lines first turns (moment now now_quiets now_wires) i (get_or lines i no_line_id)
    (get_or now_quiets i 0) passed_over wire (hub_wire now wire) = record {
      so_far = h;
      at = at;
      lines_left = lines_left;
      quiets_left = quiets_left;
      wires_left = wires_left;
      line_is = refl;
      quiet_is = refl;
      wire_is = get_or_default now_wires i w wire wires_left;
      did = record {
        hub = refl;
        acts = none wire;
        stop = refl;
        prompted = λ (never : Pending ≡ Prompted). cc;
        counts = omega arith;
        counted = λ fault. ⊎_elim (λ (never : Pending ≡ Failed). cc) (λ (never : IsSome passed_over.cut). cc) fault;
      };
    } in
    let P : List ℕ → Type 0 = λ qs. IsRound says lines first (turns ++ passed_over ∷ [])
    (moment now qs (set now_wires i wire)) in
    let Q : List S → Type 0 = λ ss. IsRound says lines first (turns ++ passed_over ∷ []) (moment now now_quiets ss) in
    subst Q (set-get_or now_wires i w) (subst P (set-get_or now_quiets i 0) (round_more goes))

-- no wire had a turn yet
pub round_none : {S : Type 0} (says : WireSays S) (lines : List LineId) (now : HubMoment S) →
    IsRound says lines now [] now
round_none says lines now = record {
  hub = sym (ap (λ (es : List Event). (hub_run now.parts es).parts) (round_events-none lines now.quiets));
  calm = quiets_after-none now.quiets;
  had = λ i d none. absurd (omega (arith, none));
  rest = λ i d past. refl;
}

-- ---- one round more

pub had_more : {S : Type 0} (says : WireSays S) (turns : List Placed) (p : Placed) (a b c : S) →
    ((a b c : S) (xs ys : List WireAct) → says.passed a b xs → says.passed b c ys → says.passed a c (xs ++ ys)) →
    HadTurns says turns a b → HadTurn says p b c → HadTurns says (turns ++ p ∷ []) a c
had_more {S} says turns p a b c more h t =
    let acts : flat_map placed_acts (turns ++ p ∷ []) ≡ flat_map placed_acts turns ++ placed_acts p =
    flat_map-append placed_acts turns (p ∷ []) ∙ ap (λ (xs : List WireAct). flat_map placed_acts turns ++ xs)
    (append-nil (placed_acts p)) in
    let P : List WireAct → Type 0 = λ xs. says.passed a c xs in
    record {
      acts = subst P (sym acts) (more a b c (flat_map placed_acts turns) (placed_acts p) h.acts t.acts);
      stops = All-push placed_stop turns p h.stops t.stop;
      prompts = All-push placed_prompt turns p h.prompts t.prompted;
      counts = omega (arith, h.counts, t.counts);
      counted = All-push (λ q. HasFault q.turn → IsCounted (says.count a) (says.count c)) turns p
          (λ k d within fault. counted_on (says.count a) (says.count b) (says.count c) h.counts t.counts
          (h.counted k d within fault))
          (λ fault. counted_from (says.count a) (says.count b) (says.count c) h.counts (t.counted fault));
    }
