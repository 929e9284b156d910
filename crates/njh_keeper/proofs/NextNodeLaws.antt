-- The data set headers of a file are gone through, and the nodes that they name compared.
use Rattle.std.proofs.Common.{◌≡◌, ℕ, ◌+◌, ◌≤◌, ◌==◌, ◌&&◌, ◌⊎◌, inl, inr, not, cond, false, List, [], ◌∷◌, length}
use Rattle.std.proofs.Common.{drop, slice_get, Option, Some, None, option_map, is_some, refl, sym, ap, subst, ◌∙◌}
use Rattle.std.proofs.Common.{arith}
use Rattle.{std.proofs.lemmas.Bool.{cases_Bool, eqb-true}, std.specs.Result.result_ok, njh_record.specs.Stored.Stored}
use Rattle.njh_header.specs.Headers.{data_set_header}
use Rattle.njh_keeper.{proofs.NodeLaws.AllAre, specs.code.Nodes.{named_node, AreOne, named_nodes, with_first}}

-- ---- the next node

at_first : (before : ℕ) (records : List Stored) (r : Stored) → Some r ≡ slice_get records 0
    → named_nodes (Some before) records ≡ with_first (named_node (Some before) r)
    (named_nodes (Some r.srcb) (drop 1 records))
at_first before [] r e = absurd (cc e)
at_first before (x ∷ rs) r e =
    let same : x ≡ r = cc e in
    ap (λ (y : Stored). with_first (named_node (Some before) y) (named_nodes (Some y.srcb) rs)) same

pub fewer : (records : List Stored) (r : Stored) → Some r ≡ slice_get records 0
    → length (drop 1 records) + 1 ≡ length records
fewer [] r e = absurd (cc e)
fewer (x ∷ rs) r e = omega arith

pub empty : (records : List Stored) → length records ≤ 0 → records ≡ []
empty [] e = refl
empty (x ∷ rs) e = absurd (omega arith)

-- the next record's SRCB was read, and of a header its bytes
pub next_of : (next : Option Stored) (srcb : ℕ) → option_map (λ r. r.srcb) next ≡ Some srcb
    → (r : Stored) × (Some r ≡ next) × (r.srcb ≡ srcb)
next_of None srcb is = absurd (cc is)
next_of (Some r) srcb is = (r, refl, cc is)

pub no_next : (next : Option Stored) → option_map (λ r. r.srcb) next ≡ None → None ≡ next
no_next None is = refl
no_next (Some r) is = absurd (cc is)

abbrev pub IsRead : Option Stored → ℕ → List ℕ → Type 0
IsRead next srcb bytes = (code : ℕ) → (code ≡ 0xc0) ⊎ (code ≡ 0xe0) → Some srcb ≡ Some code
    → next ≡ Some (record { srcb = code; bytes = bytes })

pub names_none : (before : ℕ) (r : Stored) → (r.srcb == 0xe0) ≡ false → named_node (Some before) r ≡ None
names_none before r other =
    ap (λ is. cond (is && not (before == 0xe0)) (option_map (λ h. h.destination.node)
    (result_ok (data_set_header r.bytes))) None) other

pub read_one : (before : ℕ) (records rest : List Stored) (srcb : ℕ) (read bytes : List ℕ) (said : Option (List ℕ))
    → option_map (λ r. r.srcb) (slice_get records 0) ≡ Some srcb → IsRead (slice_get records 0) srcb read
    → rest ≡ drop 1 records → bytes ≡ read → said ≡ named_node (Some before) (record { srcb = srcb; bytes = bytes })
    → named_nodes (Some before) records ≡ with_first said (named_nodes (Some srcb) rest)
read_one before records rest srcb read bytes said first header left same named =
    let r = next_of (slice_get records 0) srcb first in
    let told : Stored = record { srcb = srcb; bytes = bytes } in
    let says : named_node (Some before) r.0 ≡ said = elim (cases_Bool (srcb == 0xe0)) [
      | inl is ↦
          let found : Some r.0 ≡ Some (record { srcb = srcb; bytes = read }) =
          r.1 ∙ header srcb (inr (eqb-true srcb 0xe0 is)) refl in
          let one : r.0 ≡ record { srcb = srcb; bytes = read } = cc in
          ap (named_node (Some before)) (one ∙ ap (λ (xs : List ℕ). record { srcb = srcb; bytes = xs }) (sym same))
          ∙ sym named
      | inr other ↦ names_none before r.0 (ap (λ code. code == 0xe0) r.2 ∙ other)
          ∙ sym (named ∙ names_none before told other)
    ] in
    at_first before records r.0 r.1
    ∙ ap (λ (rs : List Stored). with_first (named_node (Some before) r.0) (named_nodes (Some r.0.srcb) rs)) (sym left)
    ∙ ap (λ (n : Option (List ℕ)). with_first n (named_nodes (Some r.0.srcb) rest)) says
    ∙ ap (λ (code : ℕ). with_first said (named_nodes (Some code) rest)) r.2

pub at_end : (before : ℕ) (records rest : List Stored) (said : Option (List ℕ)) → None ≡ slice_get records 0
    → rest ≡ drop 1 records → said ≡ None
    → named_nodes (Some before) records ≡ with_first said (named_nodes (Some before) rest)
at_end before [] rest said end left none =
    ap (named_nodes (Some before)) (sym left)
    ∙ ap (λ (n : Option (List ℕ)). with_first n (named_nodes (Some before) rest)) (sym none)
at_end before (r ∷ rs) rest said end left none = absurd (cc end)

pub is_none : (o : Option (List ℕ)) → is_some o ≡ false → o ≡ None
is_none None e = refl
is_none (Some x) e = absurd (cc e)

-- ---- one node

-- with these left, of all: they are one where these are the first
abbrev pub Known : List (List ℕ) → List ℕ → List (List ℕ) → Type 0
Known all first left = (AllAre first left → AreOne all) × (AreOne all → AllAre first left)

pub from_zero : (records : List Stored) → named_nodes None records ≡ named_nodes (Some 0) records
from_zero [] = refl
from_zero (r ∷ rs) = refl

pub begins : (all : List (List ℕ)) (first : List ℕ) (left : List (List ℕ)) → all ≡ first ∷ left → Known all first left
begins all first left e = (λ every. subst AreOne (sym e) every, λ one. subst AreOne e one)

pub goes_on : (all : List (List ℕ)) (first : List ℕ) (left more : List (List ℕ)) → Known all first left
    → left ≡ first ∷ more → Known all first more
goes_on all first left more known e = (
  λ every. known.0 (subst (AllAre first) (sym e) (refl, every)),
  λ one. let each : AllAre first (first ∷ more) = subst (AllAre first) e (known.1 one) in each.1,
)

pub other : (all : List (List ℕ)) (first next : List ℕ) (left more : List (List ℕ)) → Known all first left
    → left ≡ next ∷ more → AreOne all → next ≡ first
other all first next left more known e one =
    let each : AllAre first (next ∷ more) = subst (AllAre first) e (known.1 one) in each.0

pub ends : (all : List (List ℕ)) (first : List ℕ) (left : List (List ℕ)) → Known all first left → left ≡ [] → AreOne all
ends all first left known e = known.0 (subst (AllAre first) (sym e) tt)

pub nothing : (all : List (List ℕ)) (found : Option (List ℕ)) (before : ℕ) (records : List Stored)
    → all ≡ with_first found (named_nodes (Some before) records) → found ≡ None
    → named_nodes (Some before) records ≡ [] → all ≡ []
nothing all found before records e none end =
    e ∙ ap (λ (n : Option (List ℕ)). with_first n (named_nodes (Some before) records)) none
    ∙ end

pub none_named : (records : List Stored) → named_nodes (Some 0) records ≡ [] → AreOne (named_nodes None records)
none_named records e = subst AreOne (sym (from_zero records ∙ e)) tt
