-- A step on one line of the hub, and what comes of it.
use Rattle.std.specs.Prelude.{◌≡◌, ◌≢◌, ℕ, ◌+◌, ◌<◌, ◌≤◌, ◌⊎◌, List, length, slice_set, Some, None}
use Rattle.std.specs.Prelude.{Result, Err, OnOk, OnErr, Vec, vec_len}
use Rattle.std.specs.Prelude.{vec_capacity}
use Rattle.njh_bisync.specs.Limits.{longest_frame}
use Rattle.njh_table.specs.declared.LineId.{LineId}
use Rattle.njh_hub.specs.declared.fault.HubFault.{HubFault}
use Rattle.njh_hub.specs.declared.fault.HubFault.TheVariants.{UnknownLine, UnknownCustomer, Memory, NoRoute, QueueFull}
use Rattle.njh_customer.specs.Orders.{part_after_order}
use Rattle.njh_customer.specs.declared.given_order.GivenOrder.{GivenOrder}
use Rattle.njh_hub.specs.WholeHub.{Part, part, refusal_of, HasLine, SameLines}

-- What is given to a customer, new routes or an order, leaves the others' parts, and each as many lines; where it is
-- refused, all is as it was.
pub record GivenLeaves {A : Type 0} (parts : List Part) (customer : ℕ) (result : Result A HubFault)
    (new : List Part) : Type 0 where
  pub others : (c : ℕ) → c ≢ customer → part c new ≡ part c parts
  pub lines : SameLines parts new
  pub err : OnErr result (new ≡ parts)

-- An order is refused by this fault, as it is by what its customer is.
abbrev pub IsRefusedBy : {A : Type 0} → HubFault → List Part → ℕ → GivenOrder → Result A HubFault → Type 0
IsRefusedBy why parts customer order result =
    (result ≡ Err why) × (customer < length parts) × (refusal_of order (part customer parts) ≡ Some why)

-- An order leads its customer to what it is after it and no other anywhere; or it is refused, since there is no such
-- customer, or as it is refused by what its customer is: a message has no way, or no room.
pub record IsOrdered {A : Type 0} (parts : List Part) (customer : ℕ) (order : GivenOrder) (result : Result A HubFault)
    (new : List Part) : Type 0 where
  pub hub : OnOk result (new ≡ slice_set parts customer (part_after_order order (part customer parts)))
  pub stays : GivenLeaves parts customer result new
  pub known : OnOk result (customer < length parts)
  pub taken : OnOk result (refusal_of order (part customer parts) ≡ None)
  pub unknown : (customer < length parts → ⊥) → result ≡ Err UnknownCustomer
  pub refused : customer < length parts → (why : HubFault) → refusal_of order (part customer parts) ≡ Some why
      → result ≡ Err why
  pub causes : OnErr result (((result ≡ Err UnknownCustomer) × (customer < length parts → ⊥))
      ⊎ (IsRefusedBy NoRoute parts customer order result ⊎ IsRefusedBy QueueFull parts customer order result))

-- A step on a line leads that line's customer to `after` and no other anywhere, and puts what it sent in the place of
-- what `out` held; or it is refused, and nothing has changed.
pub record IsStep {A Z : Type 0} (parts : List Part) (id : LineId) (after : Part) (sent : List ℕ) (out : Vec ℕ Z)
    (result : Result A HubFault) (new : List Part) (new_out : Vec ℕ Z) : Type 0 where
  pub hub : OnOk result (new ≡ slice_set parts id.customer after)
  pub others : (c : ℕ) → c ≢ id.customer → part c new ≡ part c parts
  pub frame : OnOk result (new_out.items ≡ sent)
  pub lines : SameLines parts new
  pub room : OnOk result (longest_frame ≤ vec_capacity new_out)
  pub known : OnOk result (HasLine parts id)
  pub unknown : (HasLine parts id → ⊥) → result ≡ Err UnknownLine
  pub memory : HasLine parts id
      → OnErr result ((result ≡ Err Memory) × (vec_capacity out < vec_len out + longest_frame))
  pub err : OnErr result ((new ≡ parts) × (new_out.items ≡ out.items) × (vec_capacity new_out ≡ vec_capacity out))
