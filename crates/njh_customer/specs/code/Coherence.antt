-- What ties a customer's lines, streams and files to each other: the invariant of all that it goes through.
use Rattle.std.specs.Prelude.{◌≡◌, ℕ, ◌≤◌, All, length, List, map}
use Rattle.njh_stream.specs.declared.receiver.Receiver.{Receiver}
use Rattle.njh_stream.specs.WholeFiles.{HaveHeaders}
use Rattle.njh_stream.specs.code.Agreement.{AreTied}
use Rattle.njh_spool.specs.CustomerSpool.{CustomerSpool}
use Rattle.njh_table.specs.Entries.{RouteEntry}
use Rattle.njh_customer.specs.Customer.{Customer, CustomerLine}
use Rattle.njh_customer.specs.NewRoutes.{customer_with_routes}
use Rattle.njh_customer.specs.Orders.{customer_after_order}
use Rattle.njh_customer.specs.declared.given_order.GivenOrder.{GivenOrder}

-- the streams to the hub, line by line
abbrev pub streams_to_hub : List CustomerLine → List (List Receiver)
streams_to_hub lines = map (λ x. x.receivers) lines

-- eight streams to the hub, and at most four of a kind that the peer may use
abbrev pub HasStreams : CustomerLine → Type 0
HasStreams x = (length x.receivers ≡ 8) × (x.streams ≤ 4)

-- how many blocks a customer's files may take, and how many there may be
abbrev pub limits_of : CustomerSpool → ℕ × ℕ
limits_of s = (s.quota, s.limit)

-- What a customer's streams keep of its partial files is what those are, each of its whole files has headers that read,
-- its files have its own quota and its own limit, and each of its lines has a mark.
pub record IsCoherent (c : Customer) : Type 0 where
  pub tied : AreTied (streams_to_hub c.lines) c.spool
  pub streamed : All HasStreams c.lines
  pub headers : HaveHeaders c.spool.whole
  pub quota : c.spool.quota ≡ c.entry.quota
  pub limit : c.spool.limit ≡ c.entry.files
  pub marks : length c.entry.up ≡ length c.lines

-- Routes that are given keep it coherent.
abbrev pub RoutesKeepCoherent : Type 0
RoutesKeepCoherent =
    (routes : List RouteEntry) (c : Customer) → IsCoherent c → IsCoherent (customer_with_routes routes c)

-- So does an order.
abbrev pub OrdersKeepCoherent : Type 0
OrdersKeepCoherent =
    (order : GivenOrder) (c : Customer) → IsCoherent c → IsCoherent (customer_after_order order c)
