-- One item more of a part is looked at.
use Rattle.std.proofs.Common.{◌≡◌, ◌++◌, ◌∷◌, List, [], subst, sym}
use Rattle.serde_json.specs.Data.{Data}
use Rattle.njh_ctl.specs.Lists.{Keeps, KeepsOne, ListView, keeps_one_more}

pub keeps_more : (list : ListView) (ds all : List Data) (d : Data) (before after : List Data) → Keeps list ds before
    → KeepsOne list d before after → all ≡ ds ++ (d ∷ []) → Keeps list all after
keeps_more list ds all d before after so_far one same =
    subst (λ (items : List Data). Keeps list items after) (sym same)
    (subst (λ (kept : List Data). Keeps list (ds ++ (d ∷ [])) kept) (sym one.all)
    (keeps_one_more ds before d one.is so_far one.looked))
