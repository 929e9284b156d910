-- An object with a member more.
use Rattle.std.proofs.Common.{◌≡◌, ℕ, List, String, BTreeMap, Global, string_bytes, string_cmp, sym, ap, ◌∙◌}
use Rattle.std.specs.BTreeMap.{insert_entry}
use Rattle.serde_json.specs.Data.{Members, object, put}
use Rattle.serde_json.specs.View.{view, members_view}
use Rattle.serde_json.specs.declared.value.Value.{Value, Object}
use Rattle.serde_json.proofs.Views.{members_view-insert_entry, view-Object}
use Rattle.njh_answer.specs.Members.{with_member}

-- once it is put among the members
pub member-put : (name : List ℕ) (value own : Value) (before after : BTreeMap (String Global) Value)
    (key : String Global) → value ≡ Object before
    → after.entries ≡ insert_entry string_cmp before.entries key own → string_bytes key ≡ name
    → view (Object after) ≡ with_member name (view own) (view value)
member-put name value own before after key is put-there named =
    let members : Members = members_view before.entries in
    let new : members_view after.entries ≡ put name (view own) members =
    ap members_view put-there
    ∙ (members_view-insert_entry before.entries key own
    ∙ ap (λ (k : List ℕ). put k (view own) members) named) in
    view-Object after
    ∙ (ap object new ∙ sym (ap (with_member name (view own)) (ap view is ∙ view-Object before)))
