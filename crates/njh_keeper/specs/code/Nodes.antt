-- Which nodes the headers of a file name.
use Rattle.std.specs.Prelude.{◌≡◌, ℕ, List, [], ◌∷◌, Option, Some, None, ⊤}
use Rattle.std.specs.List.{AllByRecursion}
use Rattle.njh_record.specs.Stored.{Stored}
use Rattle.njh_record.specs.declared.Kind.{Kind}
use Rattle.njh_record.specs.declared.Kind.TheVariants.{Out}
use Rattle.njh_header.specs.Redirecting.{destination_node}

abbrev pub with_first : Option (List ℕ) → List (List ℕ) → List (List ℕ)
with_first (Some node) nodes = node ∷ nodes
with_first None nodes = nodes

-- by the records of a file of this kind that name its destination, among those after one with this SRCB
abbrev pub nodes_in : Kind → Option ℕ → List Stored → List (List ℕ)
nodes_in kind before [] = []
nodes_in kind before (r ∷ rs) = with_first (destination_node kind before r) (nodes_in kind (Some r.srcb) rs)

-- by the data set headers that read and are no continuations
abbrev pub named_nodes : Option ℕ → List Stored → List (List ℕ)
named_nodes before records = nodes_in Out before records

-- by a record after one with this SRCB
abbrev pub named_node : Option ℕ → Stored → Option (List ℕ)
named_node before r = destination_node Out before r

-- no two of them differ
abbrev pub AreOne : List (List ℕ) → Type 0
AreOne [] = ⊤
AreOne (n ∷ ns) = AllByRecursion (λ m. m ≡ n) ns
