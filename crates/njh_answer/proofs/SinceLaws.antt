-- An object with since when the service runs.
use Rattle.std.proofs.Common.{◌≡◌, ℕ, List, String, BTreeMap, Global, string_bytes, string_cmp, codes, sym, ap, ◌∙◌}
use Rattle.std.specs.BTreeMap.{insert_entry}
use Rattle.serde_json.specs.Data.{Data, Members, number, unsigned, object, put}
use Rattle.serde_json.specs.View.{view, members_view}
use Rattle.serde_json.specs.declared.value.Value.{Value, Object}
use Rattle.serde_json.proofs.Views.{members_view-insert_entry, view-Object}
use Rattle.njh_answer.specs.Answers.{with_since}

-- once it is put among the members
pub since-put : (since : ℕ) (value own : Value) (before after : BTreeMap (String Global) Value) (key : String Global)
    → value ≡ Object before → after.entries ≡ insert_entry string_cmp before.entries key own
    → string_bytes key ≡ codes "since" → view own ≡ number (unsigned since)
    → view (Object after) ≡ with_since since (view value)
since-put since value own before after key is put-there named told =
    let members : Members = members_view before.entries in
    let new : members_view after.entries ≡ put (codes "since") (number (unsigned since)) members =
    ap members_view put-there
    ∙ (members_view-insert_entry before.entries key own
    ∙ (ap (λ (k : List ℕ). put k (view own) members) named
    ∙ ap (λ (d : Data). put (codes "since") d members) told)) in
    view-Object after ∙ (ap object new ∙ sym (ap (with_since since) (ap view is ∙ view-Object before)))
