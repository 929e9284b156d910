-- A service whose attendant brings nothing: its story is rounds alone.
use Rattle.std.proofs.Common.{◌≡◌, ℕ, List, [], ◌∷◌, ◌++◌, get_or, refl, ap, subst, ◌∙◌, inl, inr}
use Rattle.std.specs.Prelude.{All, ◌⊎◌}
use Rattle.std.proofs.lemmas.List.Elements.{All-head, All-tail}
use Rattle.njh_spool.specs.Restoring.{KeptFile}
use Rattle.njh_table.specs.declared.LineId.{LineId}
use Rattle.njh_hub.specs.declared.event.Event.{Event}
use Rattle.njh_hub.specs.WholeHub.{Part, hub_run}
use Rattle.njh_turns.specs.Breaks.{ServiceBreaks, TurnsBreak}
use Rattle.njh_turns.specs.Service.{Happening, Round, Given, IsAttended, IsBrought, service_events, service_quiets}
use Rattle.njh_turns.specs.Service.{service_rounds, service_turns}
use Rattle.njh_turns.specs.Turns.{Placed, HubMoment, HubWires, HadTurns, IsServed, all_events, all_quiets, hub_wires}
use Rattle.njh_turns.specs.Turns.{moment}
use Rattle.njh_turns.specs.Turns.{no_quiets, quiets_after, round_events, turn_at, turns_of}
use Rattle.njh_turns.specs.Wires.{WireSays}

rounds_events : (lines : List LineId) (quiets : List ℕ) (story : List Happening) → All (IsBrought ⊥) story →
    service_events lines quiets story ≡ all_events lines quiets (service_rounds story)
rounds_events lines quiets [] none = refl
rounds_events lines quiets (Round turns ∷ story) none =
    ap (λ (es : List Event). round_events lines quiets turns ++ es)
    (rounds_events lines (quiets_after quiets turns) story (All-tail (IsBrought ⊥) (Round turns) story none))
rounds_events lines quiets (Given event ∷ story) none =
    absurd (All-head (IsBrought ⊥) (Given event) story none)

rounds_quiets : (quiets : List ℕ) (story : List Happening) → All (IsBrought ⊥) story →
    service_quiets quiets story ≡ all_quiets quiets (service_rounds story)
rounds_quiets quiets [] none = refl
rounds_quiets quiets (Round turns ∷ story) none =
    rounds_quiets (quiets_after quiets turns) story (All-tail (IsBrought ⊥) (Round turns) story none)
rounds_quiets quiets (Given event ∷ story) none =
    absurd (All-head (IsBrought ⊥) (Given event) story none)

rounds_turns : (parts : List Part) (lines : List LineId) (quiets : List ℕ) (i : ℕ) (story : List Happening) →
    All (IsBrought ⊥) story →
    service_turns parts lines quiets i story ≡ turns_of parts lines quiets i (service_rounds story)
rounds_turns parts lines quiets i [] none = refl
rounds_turns parts lines quiets i (Round turns ∷ story) none =
    ap (λ (ps : List Placed). turn_at parts lines quiets i turns ∷ ps)
    (rounds_turns (hub_run parts (round_events lines quiets turns)).parts lines (quiets_after quiets turns) i story
    (All-tail (IsBrought ⊥) (Round turns) story none))
rounds_turns parts lines quiets i (Given event ∷ story) none =
    absurd (All-head (IsBrought ⊥) (Given event) story none)

-- The second can't be,
first_of : {A B : Type 0} → A ⊎ B → (B → ⊥) → A
first_of (inl a) never = a
first_of (inr b) never = absurd (never b)

-- or the first.
second_of : {A B : Type 0} → A ⊎ B → (A → ⊥) → B
second_of (inl a) never = absurd (never a)
second_of (inr b) never = b

-- So many rounds, the first of which found no quiets.
pub served_by : {W : Type 0} {says : WireSays W} {lines : List LineId} {turns : ℕ} {before : HubWires W}
    {after : HubMoment W} → IsAttended says ⊥ ⊥ lines turns (moment before.parts (no_quiets lines) before.wires) after →
    IsServed says lines turns before (hub_wires after.parts after.wires)
served_by {W} {says} {lines} {turns} {before} {after} a = record {
  rounds = service_rounds a.story;
  many = first_of a.many (λ fewer. fewer.0);
  each = a.each;
  hub = a.hub ∙ ap (λ (es : List Event). (hub_run before.parts es).parts)
      (rounds_events lines (no_quiets lines) a.story a.brought);
  had = λ i d within.
      let P : List Placed → Type 0 = λ ps. HadTurns says ps (get_or before.wires i d) (get_or after.wires i d) in
      subst P (rounds_turns before.parts lines (no_quiets lines) i a.story a.brought) (a.had i d within);
}

-- One of them was broken off.
pub turns_break : {W : Type 0} {says : WireSays W} {may_leave : List (List KeptFile) → Type 0} {lines : List LineId}
    {turns : ℕ} {before after : HubWires W} →
    ServiceBreaks says may_leave ⊥ lines turns (moment before.parts (no_quiets lines) before.wires) after →
    TurnsBreak says may_leave lines turns before after
unfolding served_by
turns_break {W} {says} {may_leave} {lines} {turns} {before} {after} b = record {
  rounds = b.rounds;
  fewer = b.fewer;
  mid = b.mid;
  served = served_by {before = before} b.attended;
  calm = b.attended.calm ∙ rounds_quiets (no_quiets lines) b.attended.story b.attended.brought;
  breaks = second_of b.breaks (λ brought. brought.0);
}

-- ---- of a call

-- the lines, the quiets and the number of rounds that the call was given
pub served_so : {W : Type 0} (says : WireSays W) {served lines : List LineId} {quiets : List ℕ} {rounds turns : ℕ}
    {parts : List Part} {wires : List W} {after : HubMoment W} →
    IsAttended says ⊥ ⊥ served rounds (moment parts quiets wires) after →
    served ≡ lines → quiets ≡ no_quiets lines → rounds ≡ turns →
    IsServed says lines turns (hub_wires parts wires) (hub_wires after.parts after.wires)
served_so {W} says {served} {lines} {quiets} {rounds} {turns} {parts} {wires} {after} a same calm many =
    let P : List LineId → Type 0 = λ ls. IsAttended says ⊥ ⊥ ls rounds (moment parts quiets wires) after in
    let Q : List ℕ → Type 0 = λ qs. IsAttended says ⊥ ⊥ lines rounds (moment parts qs wires) after in
    let R : ℕ → Type 0 = λ n. IsServed says lines n (hub_wires parts wires) (hub_wires after.parts after.wires) in
    subst R many (served_by {before = hub_wires parts wires} (subst Q calm (subst P same a)))

pub break_so : {W : Type 0} (says : WireSays W) {may_leave : List (List KeptFile) → Type 0}
    {served lines : List LineId} {quiets : List ℕ} {rounds turns : ℕ} {parts : List Part} {wires : List W}
    {after : HubWires W} →
    ServiceBreaks says may_leave ⊥ served rounds (moment parts quiets wires) after →
    served ≡ lines → quiets ≡ no_quiets lines → rounds ≡ turns →
    TurnsBreak says may_leave lines turns (hub_wires parts wires) after
break_so {W} says {may_leave} {served} {lines} {quiets} {rounds} {turns} {parts} {wires} {after} b same calm many =
    let P : List LineId → Type 0 = λ ls. ServiceBreaks says may_leave ⊥ ls rounds (moment parts quiets wires) after in
    let Q : List ℕ → Type 0 = λ qs. ServiceBreaks says may_leave ⊥ lines rounds (moment parts qs wires) after in
    let R : ℕ → Type 0 = λ n. TurnsBreak says may_leave lines n (hub_wires parts wires) after in
    subst R many (turns_break {before = hub_wires parts wires} (subst Q calm (subst P same b)))
