-- The calls of a round, one after another.
use Rattle.std.proofs.Common.{◌≡◌, ◌⊎◌, ℕ, Bool, true, List, [], ◌∷◌, ap, subst, ◌∙◌, inl, inr, refl}
use Rattle.http_server.specs.Exchange.{Call, Chain}
use Rattle.njh_request.specs.declared.refusal.RequestRefusal.TheVariants.{Busy}
use Rattle.njh_answer.specs.Answers.{refuses}
use Rattle.njh_console.specs.Desks.{DeskState, new_desk, taken_when, told_when, IsServed}
use Rattle.njh_console.specs.Orders.{TakenOrders}
use Rattle.njh_console.specs.Rounds.{AreAnswered, AreToldToWait, IsToldFor}
use Rattle.njh_console.specs.Scenes.{Scene}

-- after the first one each is told to ask again, and what was ordered stays
rest_waits : (d new : DeskState) (calls : List Call) → d.done ≡ true → Chain IsServed d calls new
    → AreToldToWait d.scene.service.since calls × (new.taken ≡ d.taken) × (new.done ≡ true)
rest_waits d new [] done chain =
    (tt, ap (λ (x : DeskState). x.taken) chain, ap (λ (x : DeskState). x.done) chain ∙ done)
rest_waits d new (c ∷ calls) done (next, served, chain) =
    let since = d.scene.service.since in
    let told_for : IsToldFor since (refuses since Busy) served.0 =
    subst (λ (b : Bool). IsToldFor since (told_when b d.scene d.orders c.0) served.0) done served.1 in
    let kept : taken_when d.done served.0.deed d.taken ≡ d.taken =
    ap (λ (b : Bool). taken_when b served.0.deed d.taken) done in
    let rest = rest_waits next new calls (ap (λ (x : DeskState). x.done) served.3) chain in
    let others : AreToldToWait since calls =
    subst (λ (n : ℕ). AreToldToWait n calls) (ap (λ (x : DeskState). x.scene.service.since) served.3) rest.0 in (
      ((served.0, told_for, served.2), others),
      rest.1 ∙ (ap (λ (x : DeskState). x.taken) served.3 ∙ kept),
      rest.2,
    )

pub calls_are_answered : (s : Scene) (o : TakenOrders) (calls : List Call) (new : DeskState)
    → Chain IsServed (new_desk s o) calls new → AreAnswered s o calls new.taken
calls_are_answered s o [] new chain = ap (λ (x : DeskState). x.taken) chain
calls_are_answered s o (c ∷ calls) new (next, served, chain) =
    let rest = rest_waits next new calls (ap (λ (x : DeskState). x.done) served.3) chain in
    let others : AreToldToWait s.service.since calls =
    subst (λ (n : ℕ). AreToldToWait n calls) (ap (λ (x : DeskState). x.scene.service.since) served.3) rest.0 in
    (served.0, served.1, served.2, rest.1 ∙ ap (λ (x : DeskState). x.taken) served.3, others)

-- whether calls were made is seen by the desk
pub calls_seen : (d new : DeskState) (calls : List Call) → Chain IsServed d calls new
    → ((calls ≡ []) × (new ≡ d)) ⊎ ((c : Call) × (others : List Call) × (calls ≡ c ∷ others) × (new.done ≡ true))
calls_seen d new [] chain = inl (refl, chain)
calls_seen d new (c ∷ calls) (next, served, chain) =
    inr (c, calls, refl, (rest_waits next new calls (ap (λ (x : DeskState). x.done) served.3) chain).2)
