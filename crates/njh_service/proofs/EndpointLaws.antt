-- The lines of a hub that was opened on tables.
use Rattle.std.proofs.Common.{◌≡◌, ℕ, zero, suc, ◌<◌, List, [], ◌∷◌, length, map, get_or, refl}
use Rattle.std.proofs.Common.{sym, ap, subst, ◌∙◌, arith}
use Rattle.std.specs.Prelude.{All}
use Rattle.std.proofs.lemmas.List.{length-map}
use Rattle.std.proofs.lemmas.List.Elements.{All-map}
use Rattle.njh_table.specs.declared.LineId.{LineId}
use Rattle.njh_table.specs.TableFile.{TableFile, NamedLine, no_customer, customer_at, entry_of, HasLine}
use Rattle.njh_hub.specs.Parts.{entries_of}
use Rattle.njh_hub.specs.WholeHub.{Part, part_at_open}
use Rattle.njh_hub.specs.WholeHub as hub
use Rattle.njh_sites.specs.declared.endpoints.Endpoint.{Endpoint}

get_or-map_default : {X Y : Type 0} (f : X → Y) (xs : List X) (k : ℕ) (d : X)
    → get_or (map f xs) k (f d) ≡ f (get_or xs k d)
get_or-map_default f [] k d = refl
get_or-map_default f (x ∷ xs) zero d = refl
get_or-map_default f (x ∷ xs) (suc k) d = get_or-map_default f xs k d

-- a customer's part is that of its entry
opened_part : (t : TableFile) (c : ℕ) → hub.part c (map part_at_open (entries_of t)) ≡ part_at_open
    (entry_of (customer_at t c))
opened_part t c = get_or-map_default part_at_open (entries_of t) c hub.no_entry
    ∙ ap part_at_open (get_or-map_default entry_of t.customers c no_customer)

-- the hub has the lines of its tables
pub opened_line : (t : TableFile) (id : LineId) → HasLine t id → hub.HasLine (map part_at_open (entries_of t)) id
opened_line t id known =
    let e = entry_of (customer_at t id.customer) in
    let here : length (hub.part id.customer (map part_at_open (entries_of t))).customer.lines
    ≡ length (part_at_open e).customer.lines =
    ap (λ (p : Part). length p.customer.lines) (opened_part t id.customer) in
    let states : length (part_at_open e).customer.lines ≡ length e.lines = length-map e.lines _ in
    let entries : length e.lines ≡ length (customer_at t id.customer).lines =
    length-map (customer_at t id.customer).lines (λ (l : NamedLine). l.entry) in
    omega (arith, known, here, states, entries)

-- so the lines of endpoints are lines of a hub that has as many
pub opened_endpoints : (t : TableFile) (parts : List Part) (endpoints : List Endpoint)
    → hub.SameLines (map part_at_open (entries_of t)) parts
    → All (λ endpoint. HasLine t endpoint.line) endpoints → All (λ endpoint. hub.HasLine parts endpoint.line) endpoints
opened_endpoints t parts endpoints same known = λ k port within.
    let id = (get_or endpoints k port).line in
    let here = opened_line t id (known k port within) in
    subst (λ (n : ℕ). id.number < n) (sym (same id.customer)) here

pub opened_lines : (parts : List Part) (endpoints : List Endpoint) (lines : List LineId)
    → lines ≡ map (λ endpoint. endpoint.line) endpoints → All (λ endpoint. hub.HasLine parts endpoint.line) endpoints
    → All (hub.HasLine parts) lines
opened_lines parts endpoints lines same known =
    subst (λ (ls : List LineId). All (hub.HasLine parts) ls) (sym same)
    (All-map (hub.HasLine parts) (λ (endpoint : Endpoint). endpoint.line) endpoints known)
