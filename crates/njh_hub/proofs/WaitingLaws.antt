-- Nothing waits on a line that the hub doesn't have.
use Rattle.std.proofs.Common.{◌≡◌, ℕ, List, length, None, slice_get, ap, inl, inr}
use Rattle.std.proofs.lemmas.Bool.{cases_lt}
use Rattle.std.proofs.lemmas.List.{get_or_past}
use Rattle.njh_table.specs.declared.LineId.{LineId}
use Rattle.njh_customer.specs.Customer.{CustomerLine, no_customer_line}
use Rattle.njh_hub.specs.Views.{hub_line}
use Rattle.njh_hub.specs.WholeHub.{Part, HasLine, part}

pub nothing_waits : (parts : List Part) (id : LineId) (index : ℕ) → ¬ HasLine parts id
    → slice_get (hub_line id parts).state.messages index ≡ None
nothing_waits parts id index unknown =
    let lines = (part id.customer parts).customer.lines in
    elim (cases_lt id.number (length lines)) [
      | inl there ↦ absurd (unknown there)
      | inr past ↦
          ap (λ (x : CustomerLine). slice_get x.state.messages index) (get_or_past lines id.number no_customer_line past)
    ]
