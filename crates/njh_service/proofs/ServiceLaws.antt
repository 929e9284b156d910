-- A service over a hub that a depot opened.
use Rattle.std.proofs.Common.{◌≡◌, List, subst, sym}
use Rattle.std.specs.Prelude.{Result, Ok, Err, IfOk}
use Rattle.njh_hub.specs.WholeHub.{Part}
use Rattle.njh_turns.specs.Turns.{no_quiets}
use Rattle.njh_sites.specs.declared.endpoints.Endpoint.{Endpoint}
use Rattle.njh_sites.specs.Endpoints.{lines_of}
use Rattle.njh_sites.specs.Opened.{IsApart}
use Rattle.njh_service.specs.Serving.{IsOpenedOn, Served}

-- what is so of the depot and the hub is so of the service's
pub settled_on : {W A D F : Type 0} (settled : D → List Part → Type 0) (hub : List Part) (depot : D)
    (result : Result (Served W A D) F) → settled depot hub → IfOk result (λ s. s.hub ≡ hub)
    → IfOk result (λ s. s.depot ≡ depot) → IfOk result (λ s. settled s.depot s.hub)
settled_on settled hub depot (Ok s) holds is_hub is_depot =
    subst (λ (parts : List Part). settled s.depot parts) (sym is_hub)
    (subst (λ d. settled d hub) (sym is_depot) holds)
settled_on settled hub depot (Err fault) holds is_hub is_depot = tt

-- and so the service was opened on these lines
pub opened_on : {W A D F : Type 0} (opens : D → List Part → Type 0) (hub : List Part) (depot : D) (es : List Endpoint)
    (result : Result (Served W A D) F) → IsApart es → opens depot hub → IfOk result (λ s. s.hub ≡ hub)
    → IfOk result (λ s. s.depot ≡ depot) → IfOk result (λ s. s.lines ≡ lines_of es)
    → IfOk result (λ s. s.quiets ≡ no_quiets (lines_of es)) → IfOk result (λ s. IsOpenedOn (opens s.depot) es s)
opened_on {W} {A} {D} {F} opens hub depot es (Ok s) apart holds is_hub is_depot lines calm = record {
  apart = apart;
  hub = settled_on {F = F} opens hub depot (Ok s) holds is_hub is_depot;
  lines = lines;
  calm = calm;
}
opened_on {W} {A} {D} {F} opens hub depot es (Err fault) apart holds is_hub is_depot lines calm = tt
