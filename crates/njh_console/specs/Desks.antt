-- The desk of a round: it answers the first request by what there is to be told of, and keeps what that orders.
use Rattle.std.specs.Prelude.{◌≡◌, ℕ, Bool, true, false, List}
use Rattle.http.specs.declared.request.Request.{Request}
use Rattle.http_server.specs.declared.response.Response.{Response}
use Rattle.njh_request.specs.declared.refusal.RequestRefusal.TheVariants.{Busy}
use Rattle.njh_answer.specs.Answers.{Told, refuses}
use Rattle.njh_answer.specs.declared.answering.Deed.{Deed}
use Rattle.njh_answer.specs.declared.answering.Deed.TheVariants.{Nothing}
use Rattle.njh_console.specs.Orders.{TakenOrders}
use Rattle.njh_console.specs.Rounds.{told_to, IsToldBy, IsToldFor}
use Rattle.njh_console.specs.Scenes.{Scene}

pub record DeskState : Type 0 where
  pub scene : Scene
  pub orders : TakenOrders
  -- a request of the round was answered
  pub done : Bool
  pub taken : Deed

-- nobody has asked anything yet
abbrev pub new_desk : Scene → TakenOrders → DeskState
new_desk s o = record { scene = s; orders = o; done = false; taken = Nothing }

abbrev pub told_when : Bool → Scene → TakenOrders → Request (List ℕ) → Told
told_when false s o r = told_to s o r
told_when true s o r = refuses s.service.since Busy

-- what is answered to a request
abbrev pub told_at : DeskState → Request (List ℕ) → Told
told_at d r = told_when d.done d.scene d.orders r

abbrev pub taken_when : Bool → Deed → Deed → Deed
taken_when false what before = what
taken_when true what before = before

-- after a request that was told so
abbrev pub desk_after : DeskState → Told → DeskState
desk_after d t = record d { done = true; taken = taken_when d.done t.deed d.taken }

abbrev pub IsServed : DeskState → Request (List ℕ) → Response → DeskState → Type 0
IsServed d r response new =
    (t : Told) × IsToldFor d.scene.service.since (told_at d r) t × IsToldBy t response × (new ≡ desk_after d t)
