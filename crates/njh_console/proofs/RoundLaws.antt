-- A round at the desk.
use Rattle.std.proofs.Common.{◌≡◌, ℕ, List, ◌∷◌, ap, ◌∙◌, inl, inr, subst, sym}
use Rattle.http_server.specs.Exchange.{Chain}
use Rattle.njh_console.specs.Consoles.{AreServed}
use Rattle.njh_console.specs.Desks.{DeskState, new_desk, IsServed}
use Rattle.njh_console.specs.Orders.{TakenOrders}
use Rattle.njh_console.specs.Rounds.{AreAnswered}
use Rattle.njh_console.specs.Scenes.{Scene}
use Rattle.njh_console.specs.Seats.{Seat}
use Rattle.njh_console.specs.code.Looking.{AreLookedAt}
use Rattle.njh_answer.specs.declared.answering.Deed.{Deed}
use Rattle.njh_console.proofs.CallLaws.{calls_are_answered}

-- who was looked at is served
pub served_at : {V : Type 0} (scene : Scene) (now : ℕ) (orders : TakenOrders) (old new : DeskState)
    (before after : List (Seat V)) (what : Deed) → old ≡ new_desk scene orders → what ≡ new.taken
    → AreLookedAt now old new before after → AreServed scene now orders before after what
served_at scene now orders old new before after what opened taken (inl (passed, same)) =
    inl (passed, taken ∙ (ap (λ (d : DeskState). d.taken) same ∙ ap (λ (d : DeskState). d.taken) opened))
served_at scene now orders old new before after what opened taken (inr (call, others, turn, chain)) =
    inr (
      call,
      others,
      turn,
      subst (λ (w : Deed). AreAnswered scene orders (call ∷ others) w) (sym taken)
          (calls_are_answered scene orders (call ∷ others) new
          (subst (λ (d : DeskState). Chain IsServed d (call ∷ others) new) opened chain)),
    )
