-- A service that goes on: wires at rest, what a customer is given, one round more.
use Rattle.std.proofs.Common.{◌≡◌, ℕ, ◌<◌, ◌≤◌, List, [], ◌∷◌, ◌++◌, length, set, get_or, refl, Option, Some, None}
use Rattle.std.proofs.Common.{Ok, ap, sym, subst, ◌∙◌, ◌⊎◌, ⊎_elim, inl, arith, append_assoc, append-nil}
use Rattle.std.specs.Prelude.{All, IsSome}
use Rattle.std.proofs.lemmas.Grind.{flat_map-append}
use Rattle.std.proofs.lemmas.List.Elements.{All-push}
use Rattle.njh_table.specs.declared.LineId.{LineId}
use Rattle.njh_table.specs.declared.new_routes.GivenRoute.{GivenRoute}
use Rattle.njh_table.specs.NewRoutes.{new_routes_of, routes_checked, entries_of_routes}
use Rattle.njh_customer.specs.NewRoutes.{part_after_routes}
use Rattle.njh_customer.specs.Orders.{part_after_order}
use Rattle.njh_customer.specs.declared.given_order.GivenOrder.{GivenOrder}
use Rattle.njh_spool.specs.Restoring.{KeptFile}
use Rattle.njh_hub.specs.declared.event.Event.{Event}
use Rattle.njh_hub.specs.declared.event.Event.TheVariants.{Routes, Order}
use Rattle.njh_turns.specs.Breaks.{GivenBreak}
use Rattle.njh_turns.specs.Keeping.{LeavesEither}
use Rattle.njh_turns.specs.Service.{Happening, Round, Given, happening_events, happening_quiets, happening_rounds}
use Rattle.njh_turns.specs.Service.{happening_turns, IsPossible, ArePossible, IsBrought, service_events, service_quiets}
use Rattle.njh_turns.specs.Service.{service_rounds, service_turns, AreStill, IsAttended, WasGiven}
use Rattle.std.specs.List.{flat_map}
use Rattle.njh_hub.specs.WholeHub.{Part, HubRun, part, refusal_of, hub_run}
use Rattle.njh_hub.proofs.RunningLaws.{hub_run-append, routes_done}
use Rattle.njh_turns.specs.Turns.{Turn, Placed, HubMoment, HadTurn, HadTurns, IsRound, moment, turn_at, placed_acts}
use Rattle.njh_turns.specs.Turns.{quiets_after}
use Rattle.njh_turns.specs.Turns.{round_events}
use Rattle.njh_turns.specs.Wires.{WireAct, WireSays}
use Rattle.njh_turns.proofs.RoundLaws.{had_more}
use Rattle.njh_turns.proofs.TurnLaws.{counted_on}

-- ---- a story that goes on

service_quiets-more : (quiets : List ℕ) (story : List Happening) (more : Happening) →
    service_quiets quiets (story ++ more ∷ []) ≡ happening_quiets (service_quiets quiets story) more
service_quiets-more quiets [] more = refl
service_quiets-more quiets (h ∷ story) more = service_quiets-more (happening_quiets quiets h) story more

service_events-more : (lines : List LineId) (quiets : List ℕ) (story : List Happening) (more : Happening) →
    service_events lines quiets (story ++ more ∷ [])
    ≡ service_events lines quiets story ++ happening_events lines (service_quiets quiets story) more
service_events-more lines quiets [] more = append-nil (happening_events lines quiets more)
service_events-more lines quiets (h ∷ story) more =
    let now = happening_quiets quiets h in
    ap (λ (es : List Event). happening_events lines quiets h ++ es) (service_events-more lines now story more)
    ∙ sym (append_assoc (happening_events lines quiets h) (service_events lines now story)
    (happening_events lines (service_quiets now story) more))

-- the parts after a story
abbrev parts_after : List Part → List LineId → List ℕ → List Happening → List Part
parts_after parts lines quiets story = (hub_run parts (service_events lines quiets story)).parts

parts_after-first : (parts : List Part) (lines : List LineId) (quiets : List ℕ) (h : Happening) (story : List Happening)
    →
    parts_after parts lines quiets (h ∷ story)
    ≡ parts_after (hub_run parts (happening_events lines quiets h)).parts lines (happening_quiets quiets h) story
parts_after-first parts lines quiets h story =
    ap (λ (x : HubRun). x.parts)
    (hub_run-append parts (happening_events lines quiets h) (service_events lines (happening_quiets quiets h) story))

parts_after-more : (parts : List Part) (lines : List LineId) (quiets : List ℕ) (story : List Happening)
    (more : Happening) →
    parts_after parts lines quiets (story ++ more ∷ [])
    ≡ (hub_run (parts_after parts lines quiets story) (happening_events lines (service_quiets quiets story) more)).parts
parts_after-more parts lines quiets story more =
    ap (λ (es : List Event). (hub_run parts es).parts) (service_events-more lines quiets story more)
    ∙ ap (λ (x : HubRun). x.parts)
    (hub_run-append parts (service_events lines quiets story)
    (happening_events lines (service_quiets quiets story) more))

service_turns-more : (parts : List Part) (lines : List LineId) (quiets : List ℕ) (i : ℕ) (story : List Happening)
    (more : Happening) →
    service_turns parts lines quiets i (story ++ more ∷ [])
    ≡ service_turns parts lines quiets i story
    ++ happening_turns (parts_after parts lines quiets story) lines (service_quiets quiets story) i more
service_turns-more parts lines quiets i [] more = append-nil (happening_turns parts lines quiets i more)
service_turns-more parts lines quiets i (h ∷ story) more =
    let first = happening_turns parts lines quiets i h in
    let now = happening_quiets quiets h in
    let led = (hub_run parts (happening_events lines quiets h)).parts in
    ap (λ (ps : List Placed). first ++ ps) (service_turns-more led lines now i story more)
    ∙ sym (append_assoc first (service_turns led lines now i story)
    (happening_turns (parts_after led lines now story) lines (service_quiets now story) i more))
    ∙ ap (λ (ps : List Part). service_turns parts lines quiets i (h ∷ story) ++ happening_turns ps lines
    (service_quiets now story) i more)
    (sym (parts_after-first parts lines quiets h story))

possible-more : (parts : List Part) (lines : List LineId) (quiets : List ℕ) (story : List Happening) (more : Happening)
    →
    ArePossible parts lines quiets story → IsPossible (parts_after parts lines quiets story) more →
    ArePossible parts lines quiets (story ++ more ∷ [])
possible-more parts lines quiets [] more so_far this = (this, tt)
possible-more parts lines quiets (h ∷ story) more so_far this =
    let led = (hub_run parts (happening_events lines quiets h)).parts in (
      so_far.0,
      possible-more led lines (happening_quiets quiets h) story more so_far.1
          (subst (λ (ps : List Part). IsPossible ps more) (parts_after-first parts lines quiets h story) this),
    )

service_rounds-more : (story : List Happening) (more : Happening) →
    service_rounds (story ++ more ∷ []) ≡ service_rounds story ++ happening_rounds more
service_rounds-more story more =
    flat_map-append happening_rounds story (more ∷ [])
    ∙ ap (λ (xs : List (List Turn)). service_rounds story ++ xs) (append-nil (happening_rounds more))

-- ---- a service that came so far

-- What `IsAttended` says, whatever the number of its rounds.
pub record IsAt {W : Type 0} (says : WireSays W) (steers : Type 0) (lines : List LineId) (first : HubMoment W)
    (story : List Happening) (now : HubMoment W) : Type 0 where
  pub each : All (λ round. length round ≡ length lines) (service_rounds story)
  pub possible : ArePossible first.parts lines first.quiets story
  pub brought : All (IsBrought steers) story
  pub hub : now.parts ≡ (hub_run first.parts (service_events lines first.quiets story)).parts
  pub calm : now.quiets ≡ service_quiets first.quiets story
  pub had : (i : ℕ) (d : W) → i < length lines →
      HadTurns says (service_turns first.parts lines first.quiets i story) (get_or first.wires i d)
      (get_or now.wires i d)

-- what is said of it where so many of its happenings are rounds, or fewer
pub attended_in : {W : Type 0} {says : WireSays W} {steers : Type 0} {lines : List LineId} {first now : HubMoment W}
    {story : List Happening} {turns : ℕ} → IsAt says steers lines first story now →
    {ended : Type 0} → (length (service_rounds story) ≡ turns) ⊎ (ended × (length (service_rounds story) < turns)) →
    IsAttended says steers ended lines turns first now
attended_in {W} {says} {steers} {lines} {first} {now} {story} {turns} h {ended} many = record {
  story = story;
  many = many;
  each = h.each;
  possible = h.possible;
  brought = h.brought;
  hub = h.hub;
  calm = h.calm;
  had = h.had;
}

pub attended_at : {W : Type 0} {says : WireSays W} {steers : Type 0} {lines : List LineId} {first now : HubMoment W}
    {story : List Happening} {turns : ℕ} → IsAt says steers lines first story now → {ended : Type 0} →
    length (service_rounds story) ≡ turns → IsAttended says steers ended lines turns first now
attended_at h many = attended_in h (inl many)

-- there are at most so many
pub rounds_within : {W : Type 0} {says : WireSays W} {steers ended : Type 0} {lines : List LineId} {turns : ℕ}
    {first now : HubMoment W} (a : IsAttended says steers ended lines turns first now) →
    length (service_rounds a.story) ≤ turns
rounds_within {W} {says} {steers} {ended} {lines} {turns} a =
    ⊎_elim (λ (w : length (service_rounds a.story) ≡ turns). omega (arith, w))
    (λ (w : ended × (length (service_rounds a.story) < turns)). omega (arith, w.1)) a.many

pub at_first : {W : Type 0} (says : WireSays W) (steers : Type 0) (lines : List LineId) (first : HubMoment W) →
    ((s : W) → says.passed s s []) → IsAt says steers lines first [] first
at_first says steers lines first none = record {
  each = λ k d never. absurd (omega (arith, never));
  possible = tt;
  brought = λ k d never. absurd (omega (arith, never));
  hub = refl;
  calm = refl;
  had = λ i d within. record {
    acts = none (get_or first.wires i d);
    stops = λ k e never. absurd (omega (arith, never));
    prompts = λ k e never. absurd (omega (arith, never));
    counts = omega arith;
    counted = λ k e never. absurd (omega (arith, never));
  };
}

had_still : {W : Type 0} (says : WireSays W) (turns : List Placed) (a b c : W) →
    ((a b c : W) (xs ys : List WireAct) → says.passed a b xs → says.passed b c ys → says.passed a c (xs ++ ys)) →
    HadTurns says turns a b → says.passed b c [] → says.count b ≤ says.count c → HadTurns says turns a c
had_still {W} says turns a b c more h still counts =
    let acts : List WireAct = flat_map placed_acts turns in
    record {
      acts = subst (λ (xs : List WireAct). says.passed a c xs) (append-nil acts) (more a b c acts [] h.acts still);
      stops = h.stops;
      prompts = h.prompts;
      counts = omega (arith, h.counts, counts);
      counted = λ k d within fault. counted_on (says.count a) (says.count b) (says.count c) h.counts counts
          (h.counted k d within fault);
    }

-- wires on which nothing passed
pub at_still : {W : Type 0} {says : WireSays W} {steers : Type 0} {lines : List LineId} {first now : HubMoment W}
    {story : List Happening} (new_wires : List W) → IsAt says steers lines first story now →
    ((a b c : W) (xs ys : List WireAct) → says.passed a b xs → says.passed b c ys → says.passed a c (xs ++ ys)) →
    length now.wires ≡ length lines → AreStill says.passed says.count now.wires new_wires →
    IsAt says steers lines first story (moment now.parts now.quiets new_wires)
at_still {W} {says} {steers} {lines} {first} {now} {story} new_wires h more same still = record {
  each = h.each;
  possible = h.possible;
  brought = h.brought;
  hub = h.hub;
  calm = h.calm;
  had = λ i d within. had_still says (service_turns first.parts lines first.quiets i story) (get_or first.wires i d)
      (get_or now.wires i d) (get_or new_wires i d) more (h.had i d within)
      (still.passed_none i d (omega (arith, same, within))) (still.counts i d (omega (arith, same, within)));
}

-- the happening, if any, of what is given
abbrev pub with_given : List Happening → Option Event → List Happening
with_given story None = story
with_given story (Some event) = story ++ Given event ∷ []

pub rounds-with_given : (story : List Happening) (given : Option Event) →
    service_rounds (with_given story given) ≡ service_rounds story
rounds-with_given story None = refl
rounds-with_given story (Some event) = service_rounds-more story (Given event) ∙ append-nil (service_rounds story)

pub at_given : {W : Type 0} {says : WireSays W} {steers : Type 0} {lines : List LineId} {first now : HubMoment W}
    {story : List Happening} (given : Option Event) (new : List Part) →
    IsAt says steers lines first story now → WasGiven now.parts given new → (IsSome given → steers) →
    IsAt says steers lines first (with_given story given) (moment new now.quiets now.wires)
at_given None new h done from = record {
  each = h.each;
  possible = h.possible;
  brought = h.brought;
  hub = done ∙ h.hub;
  calm = h.calm;
  had = h.had;
}
at_given {W} {says} {steers} {lines} {first} {now} {story} (Some event) new h done from =
    let more = Given event in
    let P : List (List Turn) → Type 0 = λ rounds. All (λ round. length round ≡ length lines) rounds in
    record {
      each = subst P (sym (rounds-with_given story (Some event))) h.each;
      possible = possible-more first.parts lines first.quiets story more h.possible
          (subst (λ (ps : List Part). IsPossible ps more) h.hub done.0);
      brought = All-push (IsBrought steers) story more h.brought (from refl);
      hub = done.1 ∙ ap (λ (ps : List Part). (hub_run ps (event ∷ [])).parts) h.hub
          ∙ sym (parts_after-more first.parts lines first.quiets story more);
      calm = h.calm ∙ sym (service_quiets-more first.quiets story more);
      had = λ i d within.
          let Q : List Placed → Type 0 = λ ps. HadTurns says ps (get_or first.wires i d) (get_or now.wires i d) in
          subst Q (sym (service_turns-more first.parts lines first.quiets i story more
          ∙ append-nil (service_turns first.parts lines first.quiets i story)))
          (h.had i d within);
    }

pub at_round : {W : Type 0} {says : WireSays W} {steers : Type 0} {lines : List LineId} {first now new : HubMoment W}
    {story : List Happening} {round : List Turn} → IsAt says steers lines first story now →
    ((a b c : W) (xs ys : List WireAct) → says.passed a b xs → says.passed b c ys → says.passed a c (xs ++ ys)) →
    length round ≡ length lines → IsRound says lines now round new →
    IsAt says steers lines first (story ++ Round round ∷ []) new
at_round {W} {says} {steers} {lines} {first} {now} {new} {story} {round} h more whole r =
    let led = (hub_run first.parts (service_events lines first.quiets story)).parts in
    let quieter = service_quiets first.quiets story in
    let P : List (List Turn) → Type 0 = λ rounds. All (λ round. length round ≡ length lines) rounds in
    record {
      each = subst P (sym (service_rounds-more story (Round round)))
          (All-push (λ round. length round ≡ length lines) (service_rounds story) round h.each whole);
      possible = possible-more first.parts lines first.quiets story (Round round) h.possible tt;
      brought = All-push (IsBrought steers) story (Round round) h.brought tt;
      hub = r.hub ∙ ap (λ (ps : List Part). (hub_run ps (round_events lines now.quiets round)).parts) h.hub
          ∙ ap (λ (qs : List ℕ). (hub_run led (round_events lines qs round)).parts) h.calm
          ∙ sym (parts_after-more first.parts lines first.quiets story (Round round));
      calm = r.calm ∙ ap (λ (qs : List ℕ). quiets_after qs round) h.calm
          ∙ sym (service_quiets-more first.quiets story (Round round));
      had = λ i d within.
          let Q : Placed → Type 0 = λ p. HadTurn says p (get_or now.wires i d) (get_or new.wires i d) in
          let place : turn_at now.parts lines now.quiets i round ≡ turn_at led lines quieter i round =
          ap (λ (ps : List Part). turn_at ps lines now.quiets i round) h.hub
          ∙ ap (λ (qs : List ℕ). turn_at led lines qs i round) h.calm in
          let R : List Placed → Type 0 = λ ps. HadTurns says ps (get_or first.wires i d) (get_or new.wires i d) in
          subst R (sym (service_turns-more first.parts lines first.quiets i story (Round round)))
          (had_more says (service_turns first.parts lines first.quiets i story) (turn_at led lines quieter i round)
          (get_or first.wires i d) (get_or now.wires i d) (get_or new.wires i d) more (h.had i d within)
          (subst Q place (r.had i d (omega (arith, whole, within)))));
    }

pub rounds-with_round : (story : List Happening) (round : List Turn) →
    service_rounds (story ++ Round round ∷ []) ≡ service_rounds story ++ round ∷ []
rounds-with_round story round = service_rounds-more story (Round round)

-- ---- what is given

-- new routes
pub by_routes : (parts new : List Part) (c : ℕ) (routes : List GivenRoute) →
    new ≡ set parts c (part_after_routes (entries_of_routes (new_routes_of c routes)) (part c parts)) →
    c < length parts → routes_checked (part c parts).customer.entry (new_routes_of c routes) ≡ Ok tt →
    WasGiven parts (Some (Routes c routes)) new
by_routes parts new c routes hub known checked = (
  record { given = refl; named = (known, checked); taken = tt },
  hub ∙ sym (ap (λ (h : HubRun). h.parts) (routes_done parts c routes checked)),
)

-- an order
pub by_order : (parts new : List Part) (c : ℕ) (order : GivenOrder) →
    new ≡ set parts c (part_after_order order (part c parts)) → c < length parts →
    refusal_of order (part c parts) ≡ None → WasGiven parts (Some (Order c order)) new
by_order parts new c order hub known taken = (record { given = refl; named = known; taken = taken }, hub)

-- where it is kept, or isn't
pub was_given : {parts new : List Part} {event : Event} → WasGiven parts (Some event) new
    → (given : Option Event) × WasGiven parts given new
was_given {parts} {new} {event} done = (Some event, done)

pub given_break : {may_leave : List (List KeptFile) → Type 0} {parts new : List Part} {event : Event}
    → WasGiven parts (Some event) new → LeavesEither may_leave parts new
    → (event : Event) × GivenBreak may_leave parts event new
given_break {may_leave} {parts} {new} {event} done left =
    (event, record { can = done.0; hub = done.1; left = left })
