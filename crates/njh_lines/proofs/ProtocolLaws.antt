-- What a wire does by the rules of its line's protocol.
use Rattle.std.proofs.Common.{◌≡◌, ◌⊎◌, ℕ, ◌+◌, Bool, List, [], Option, Some, None, inl, inr, min, refl, subst, sym}
use Rattle.std.proofs.Common.{⊎_elim}
use Rattle.std.specs.Prelude.{◌↔◌, IsSome, IsTrue}
use Rattle.njh_hub.specs.declared.session_view.SessionView.{SessionView}
use Rattle.njh_sight.specs.Sessions.{HasRefused}
use Rattle.njh_sight.specs.declared.label.Label.{Label}
use Rattle.njh_wire.specs.Leaving.{IsGone, IsSaid, Leaves, StillLeaves}
use Rattle.njh_wire.specs.Tally.{tally}
use Rattle.njh_wire.specs.declared.connection.Saying.{Saying}
use Rattle.njh_wire.specs.declared.end.Stop.{Stop}
use Rattle.njh_table.specs.declared.Protocol.{Protocol}
use Rattle.njh_table.specs.declared.Protocol.TheVariants.{Bisync, Tcp}
use Rattle.njh_wire.specs.ByTcp.{tcp_stall, IsFlushedByTcp, IsReadyByTcp}
use Rattle.njh_wire.specs.Readings.{IsFlushed, IsOpen}
use Rattle.njh_wire.specs.Standing.{Standing}
use Rattle.njh_lines.specs.Attention.{patience}
use Rattle.njh_lines.specs.Connecting.{IsOverOn, IsReadyOn, StaysOn}
use Rattle.njh_lines.specs.Wires.{IsFlushedOn}

pub ready_by : {C : Type 0} (p : Protocol) (wire : Standing C) (is_ready : Bool)
    → (p ≡ Bisync → (IsTrue is_ready ↔ ((wire.waiting ≡ []) × (IsSome wire.parting ⊎ IsOpen wire))))
    → (p ≡ Tcp → (IsTrue is_ready ↔ IsReadyByTcp wire)) → IsTrue is_ready ↔ IsReadyOn p wire
ready_by Bisync wire is_ready bisync tcp = bisync refl
ready_by Tcp wire is_ready bisync tcp = tcp refl

pub stalled_by : (p : Protocol) (since moment : ℕ) (Waits : Type 0)
    → (p ≡ Bisync → Waits → moment ≡ min (since + 1000) 18446744073709551615)
    → (p ≡ Tcp → Waits → moment ≡ min (since + tcp_stall) 18446744073709551615)
    → Waits → moment ≡ min (since + patience p) 18446744073709551615
stalled_by Bisync since moment Waits bisync tcp = bisync refl
stalled_by Tcp since moment Waits bisync tcp = tcp refl

pub flushed_by : {C : Type 0} (p : Protocol) (moved : C → C → List ℕ → List ℕ → Type 0) (s new : Standing C)
    (Waits : Type 0) → (p ≡ Bisync → Waits → IsFlushed moved s new) → (p ≡ Tcp → Waits → IsFlushedByTcp moved s new)
    → Waits → IsFlushedOn p moved s new
flushed_by Bisync moved s new Waits bisync tcp = bisync refl
flushed_by Tcp moved s new Waits bisync tcp = tcp refl

-- by an equal view of it no sign-on was refused either, and it isn't over
pub same_view : (label : Label) (protocol : Protocol) (one session : SessionView) → session ≡ one
    → ¬ HasRefused label one → ¬ IsOverOn protocol label one
    → (¬ HasRefused label session) × (¬ IsOverOn protocol label session)
same_view label protocol one session same none goes = (
  subst (λ its. ¬ HasRefused label its) (sym same) none,
  subst (λ its. ¬ IsOverOn protocol label its) (sym same) goes,
)

-- a session that goes on isn't over
pub stays_not_over : (p : Protocol) (label : Label) (session : SessionView) → StaysOn p session
    → ¬ IsOverOn p label session
stays_not_over Bisync label session stays over = over
stays_not_over Tcp label session stays over = over.1 stays

-- ---- what is done beside the line's frames leaves its counts and its clock

pub record IsSameBeside {C : Type 0} (s new : Standing C) : Type 0 where
  pub failures : new.failures ≡ s.failures
  pub tally : tally new ≡ tally s
  pub clock : new.clock ≡ s.clock
  pub protocol : new.protocol ≡ s.protocol

same_by : {C : Type 0} (s other new : Standing C) → new ≡ other → IsSameBeside s other → IsSameBeside s new
same_by {C} s other new is same = subst (λ (wire : Standing C). IsSameBeside s wire) (sym is) same

-- its connection was told to say something
pub said_same : {C : Type 0} (moved : C → C → List ℕ → List ℕ → Type 0) (said : C → C → Saying → Type 0)
    (saying : Saying) (s new : Standing C) → IsSaid moved said saying s new → IsSameBeside s new
said_same moved said saying s new (inl says) = same_by s _ new says.stands record {
  failures = refl;
  tally = refl;
  clock = refl;
  protocol = refl;
}
said_same moved said saying s new (inr (inl failed)) = same_by s _ new failed record {
  failures = refl;
  tally = refl;
  clock = refl;
  protocol = refl;
}
said_same moved said saying s new (inr (inr nobody)) = same_by s s new nobody.1 record {
  failures = refl;
  tally = refl;
  clock = refl;
  protocol = refl;
}

-- who leaves was let go on
pub leaves_same : {C : Type 0} (moved : C → C → List ℕ → List ℕ → Type 0) (stops : C → Stop → Type 0)
    (s new : Standing C) → Leaves moved stops s new → IsSameBeside s new
leaves_same {C} moved stops s new leaves = ⊎_elim
    (λ (still : StillLeaves leaves.after leaves.count s new). same_by s _ new still.stands record {
      failures = refl;
      tally = refl;
      clock = refl;
      protocol = refl;
    })
    (λ (gone : IsGone stops leaves.after s new). same_by s _ new gone.stands record {
      failures = refl;
      tally = refl;
      clock = refl;
      protocol = refl;
    })
    leaves.goes

-- or nobody leaves
pub let_same : {C : Type 0} (moved : C → C → List ℕ → List ℕ → Type 0) (stops : C → Stop → Type 0)
    (s new : Standing C) (who : Option C) → s.leave.who ≡ who → (s.leave.who ≡ None → new ≡ s)
    → (IsSome s.leave.who → Leaves moved stops s new) → IsSameBeside s new
let_same moved stops s new None is nobody leaves = same_by s s new (nobody is) record {
  failures = refl;
  tally = refl;
  clock = refl;
  protocol = refl;
}
let_same {C} moved stops s new (Some one) is nobody leaves =
    let There : Option C → Type 0 = λ it. IsSome it in
    leaves_same moved stops s new (leaves (subst There (sym is) refl))
