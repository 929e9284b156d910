-- The headers of a file name one node if it stays as it is when it is sent to its destination, and else several.
use Rattle.njh_keeper.proofs.Words
use Words.{◌≡◌, ℕ, List, [], ◌∷◌, length, get_or, drop, Option, Some, None, refl, sym, ap, subst, ◌∙◌, AllByRecursion}
use Words.{User, Kind, In, Stored, stays, destination_of, destination_node, records_to_node, said_destination, AreOne}
use Words.{with_first, NameOneNode, ◌⊎◌, inl, inr, true, is_name, IsRerouted}
use Rattle.{std.{proofs.Common.⊎_elim, specs.Prelude.unwrap_or}, njh_header.proofs.DestinationRecords.named_eight}
use Rattle.njh_header.proofs.{DestinationRecords.stays_so, Destinations.{FirstNode, destination_is_first, first_names}}
use Rattle.njh_header.proofs.{ChangedFields.name_eight, Destinations.{none_before, goes_to_node, records_twice}}
use Rattle.{njh_keeper.specs.code.Nodes.nodes_in, njh_customer.specs.Surviving.{as_before, to_node}}

abbrev pub AllAre : List ℕ → List (List ℕ) → Type 0
AllAre node nodes = AllByRecursion (λ n. n ≡ node) nodes

-- where the first one is told, it is this node
abbrev IsOnly : List ℕ → Option (List ℕ) → Type 0
IsOnly node o = (m : List ℕ) → o ≡ Some m → m ≡ node

first_apart : (node : List ℕ) (o : Option (List ℕ)) (nodes : List (List ℕ)) → AllAre node (with_first o nodes)
    → IsOnly node o × AllAre node nodes
first_apart node None nodes all = (λ m e. absurd (cc e), all)
first_apart node (Some n) nodes all = (λ m e. (let same : n ≡ m = cc e in sym same ∙ all.0), all.1)

first_beside : (node : List ℕ) (o : Option (List ℕ)) (nodes : List (List ℕ)) → IsOnly node o → AllAre node nodes
    → AllAre node (with_first o nodes)
first_beside node None nodes only all = all
first_beside node (Some n) nodes only all = (only n refl, all)

module _ (kind : Kind) (node : List ℕ) where
  records_stay : (before : Option ℕ) (rs : List Stored) → AllAre node (nodes_in kind before rs)
      → records_to_node kind node before rs ≡ rs
  records_stay before [] all = refl
  records_stay before (r ∷ rs) all =
      let each = first_apart node (destination_node kind before r) (nodes_in kind (Some r.srcb) rs) all in
      λ i. stays kind before r node each.0 i ∷ records_stay (Some r.srcb) rs each.1 i

  records_name : length node ≡ 8 → (before : Option ℕ) (rs : List Stored) → records_to_node kind node before rs ≡ rs
      → AllAre node (nodes_in kind before rs)
  records_name eight before [] same = tt
  records_name eight before (r ∷ rs) same =
      first_beside node (destination_node kind before r) (nodes_in kind (Some r.srcb) rs)
      (stays_so kind before r node eight (ap (λ (xs : List Stored). get_or xs 0 r) same))
      (records_name eight (Some r.srcb) rs (ap (λ (xs : List Stored). drop 1 xs) same))

-- the first node is this one
abbrev BeginsWith : Kind → List ℕ → Option ℕ → List Stored → Type 0
BeginsWith kind node before rs =
    (rest : List (List ℕ)) × (nodes_in kind before rs ≡ node ∷ rest) × (length node ≡ 8)

named_first : (kind : Kind) (node : List ℕ) (before : Option ℕ) (rs : List Stored) → FirstNode kind node before rs
    → BeginsWith kind node before rs
named_first kind node before _ (first_names _ r rs says) = (
  nodes_in kind (Some r.srcb) rs,
  ap (λ o. with_first o (nodes_in kind (Some r.srcb) rs)) says,
  named_eight kind before r node says,
)
named_first kind node before _ (none_before _ r rs none more) =
    let found = named_first kind node (Some r.srcb) rs more in
    (found.0, ap (λ o. with_first o (nodes_in kind (Some r.srcb) rs)) none ∙ found.1, found.2)

abbrev nobody : User
nobody = record { node = []; user = [] }

pub said_is : (kind : Kind) (rs : List Stored) (d : User) → destination_of kind rs ≡ Some d
    → (said_destination kind rs).node ≡ d.node
said_is kind rs d reads = ap (λ (o : Option User). (unwrap_or o nobody).node) reads

module _ (kind : Kind) (rs : List Stored) (d : User) (reads : destination_of kind rs ≡ Some d) where
  begins : BeginsWith kind d.node None rs
  begins = named_first kind d.node None rs (destination_is_first kind rs d reads)

  pub names_one_node : AreOne (nodes_in kind None rs) → NameOneNode kind rs
  names_one_node one =
      ap (λ node. records_to_node kind node None rs) (said_is kind rs d reads)
      ∙ records_stay kind d.node None rs (subst (AllAre d.node) (sym begins.1) (refl, subst AreOne begins.1 one))

  pub one_node_is_named : NameOneNode kind rs → AreOne (nodes_in kind None rs)
  one_node_is_named one =
      let same : records_to_node kind d.node None rs ≡ rs =
      ap (λ node. records_to_node kind node None rs) (sym (said_is kind rs d reads)) ∙ one in
      let all : AllAre d.node (d.node ∷ begins.0) =
      subst (AllAre d.node) begins.1 (records_name kind d.node begins.2 None rs same) in
      subst AreOne (sym begins.1) all.1

-- a job's file names one at most
one_in_job : (rs : List Stored) → AreOne (nodes_in In None rs)
one_in_job [] = tt
one_in_job (r ∷ rs) = subst (λ nodes. AreOne (with_first (destination_node In None r) nodes)) (sym (no_more r.srcb rs))
    (at_most (destination_node In None r))
  where
    no_more : (before : ℕ) (rs : List Stored) → nodes_in In (Some before) rs ≡ []
    no_more before [] = refl
    no_more before (r ∷ rs) = no_more r.srcb rs

    at_most : (o : Option (List ℕ)) → AreOne (with_first o [])
    at_most None = tt
    at_most (Some node) = tt

pub job_names_one : (rs : List Stored) (d : User) → destination_of In rs ≡ Some d → NameOneNode In rs
job_names_one rs d reads = names_one_node In rs d reads (one_in_job rs)

-- they were sent to a node
pub record AreSentTo (kind : Kind) (before now : List Stored) : Type 0 where
  pub node : List ℕ
  pub named : is_name node ≡ true
  pub are : now ≡ records_to_node kind node None before

module _ (kind : Kind) (before now : List Stored) (d : User) (reads : destination_of kind now ≡ Some d)
    (sent : AreSentTo kind before now) where
  stays_there : records_to_node kind sent.node None now ≡ now
  stays_there =
      ap (records_to_node kind sent.node None) sent.are
      ∙ records_twice kind sent.node sent.node sent.named sent.named None before ∙ sym sent.are

  -- that node is their destination
  pub goes_there : d.node ≡ sent.node
  goes_there =
      let first = begins kind now d reads in
      (subst (AllAre sent.node) first.1
      (records_name kind sent.node (name_eight sent.node sent.named) None now stays_there)).0

  -- and they name no other
  pub sent_names_one : NameOneNode kind now
  sent_names_one = ap (λ node. records_to_node kind node None now) (said_is kind now d reads ∙ goes_there) ∙ stays_there

-- the last command alone decides
pub last_decides : (kind : Kind) (before now : List Stored) → IsRerouted kind before now
    → (now ≡ before) ⊎ AreSentTo kind before now
last_decides kind _ now (as_before records) = inl refl
last_decides kind _ now (to_node node before _ named more) =
    let first = records_to_node kind node None before in
    ⊎_elim (λ (same : now ≡ first). inr (record { node = node; named = named; are = same }))
    (λ (sent : AreSentTo kind first now). inr (record {
      node = sent.node;
      named = sent.named;
      are = sent.are ∙ records_twice kind node sent.node named sent.named None before;
    })) (last_decides kind first now more)

module _ (kind : Kind) (before now : List Stored) (d : User) (reads : destination_of kind before ≡ Some d) where
  said_node : (node : List ℕ) → is_name node ≡ true
      → (said_destination kind (records_to_node kind node None before)).node ≡ node
  said_node node named =
      let goes = goes_to_node node named kind before d reads in
      said_is kind (records_to_node kind node None before) goes.0 goes.1 ∙ goes.2

  -- they are as they were, or their headers name one node
  pub same_or_one_node : IsRerouted kind before now → (now ≡ before) ⊎ NameOneNode kind now
  same_or_one_node rerouted = ⊎_elim (λ (same : now ≡ before). inl same)
      (λ (sent : AreSentTo kind before now). inr (subst (NameOneNode kind) (sym sent.are)
      (ap (λ node. records_to_node kind node None (records_to_node kind sent.node None before))
      (said_node sent.node sent.named) ∙ records_twice kind sent.node sent.node sent.named sent.named None before)))
      (last_decides kind before now rerouted)

  -- where the headers named one node and the destination is what it was, they are as they were
  pub same_by_destination : IsRerouted kind before now → NameOneNode kind before
      → said_destination kind now ≡ said_destination kind before → now ≡ before
  same_by_destination rerouted one same =
      ⊎_elim (λ (still : now ≡ before). still) (λ (sent : AreSentTo kind before now).
      let node : sent.node ≡ (said_destination kind before).node = sym (said_node sent.node sent.named)
      ∙ ap (λ rs. (said_destination kind rs).node) (sym sent.are) ∙ ap (λ (u : User). u.node) same in
      sent.are ∙ ap (λ n. records_to_node kind n None before) node ∙ one) (last_decides kind before now rerouted)
