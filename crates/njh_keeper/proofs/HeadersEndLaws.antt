-- Where no header is left among a file's records: those that stood there are those that it has, and none names a node.
use Rattle.njh_keeper.proofs.Words
use Words.{◌≡◌, ℕ, ◌==◌, ◌||◌, Bool, true, false, List, [], ◌∷◌, drop, slice_get}
use Words.{Option, Some, None, refl, ap, ◌∙◌, Stored}
use Words.{named_nodes, with_first}
use Rattle.std.specs.List.{list_any}
use Rattle.njh_spool.specs.Headers.{is_header}
use Rattle.njh_keeper.proofs.NextNodeLaws.{names_none}

abbrev any_header : List Stored → Bool
any_header = list_any is_header

-- the first fails a test, and then the others
neither : (a b : Bool) → (a || b) ≡ false → (a ≡ false) × (b ≡ false)
neither true b none = absurd (cc none)
neither false b none = (refl, none)

pub no_header_names : (before : ℕ) (records : List Stored) → list_any is_header records ≡ false
    → named_nodes (Some before) records ≡ []
no_header_names before [] none = refl
no_header_names before (r ∷ rs) none =
    let both = neither (is_header r) (any_header rs) none in
    let codes = neither (r.srcb == 0xc0) (r.srcb == 0xe0) both.0 in
    ap (λ (n : Option (List ℕ)). with_first n (named_nodes (Some r.srcb) rs)) (names_none before r codes.1)
    ∙ no_header_names r.srcb rs both.1

pub none_left_names : (before : ℕ) (records rest : List Stored) → None ≡ slice_get records 0 → rest ≡ drop 1 records
    → named_nodes (Some before) rest ≡ []
none_left_names before [] rest end left = ap (named_nodes (Some before)) left
none_left_names before (r ∷ rs) rest end left = absurd (cc end)
