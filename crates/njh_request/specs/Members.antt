-- The members of a body, and of a user in it: each is one of those that its object may have, and comes once.
use Rattle.std.specs.Prelude.{ℕ, Bool, true, false, List, [], ◌∷◌, ◌++◌, codes, cond, bytes_eq}
use Rattle.std.specs.Prelude.{if◌then◌else◌, Option, Some, None}
use Rattle.std.specs.List.{list_any}
use Rattle.std.specs.Option.{option_or}
use Rattle.json.specs.Find.{as_object}
use Rattle.json.specs.Json as json
use Rattle.json.specs.Strict.{keys}
use Rattle.njh_request.specs.Quotes.{quote_of}
use Rattle.njh_request.specs.declared.member.Form.{Form}
use Rattle.njh_request.specs.declared.member.Form.TheVariants as form
use Rattle.njh_request.specs.declared.member.Member.{Member}
use Rattle.njh_request.specs.declared.member.Member.TheVariants as member
use Rattle.njh_request.specs.declared.refusal.RequestRefusal.{RequestRefusal}
use Rattle.njh_request.specs.declared.refusal.RequestRefusal.TheVariants.{UnknownMember, RepeatedMember}

abbrev pub name_of : Member → List ℕ
name_of member.Command = codes "command"
name_of member.Owner = codes "owner"
name_of member.To = codes "to"
name_of member.Text = codes "text"
name_of member.State = codes "state"
name_of member.WhenIdle = codes "when_idle"
name_of member.Node = codes "node"
name_of member.User = codes "user"
name_of member.Name = codes "name"
name_of member.Until = codes "until"
name_of member.By = codes "by"
name_of member.File = codes "file"

abbrev pub member_of : List ℕ → Option Member
member_of key =
    if bytes_eq key (codes "command") then Some member.Command
    else if bytes_eq key (codes "owner") then Some member.Owner
    else if bytes_eq key (codes "to") then Some member.To
    else if bytes_eq key (codes "text") then Some member.Text
    else if bytes_eq key (codes "state") then Some member.State
    else if bytes_eq key (codes "when_idle") then Some member.WhenIdle
    else if bytes_eq key (codes "node") then Some member.Node
    else if bytes_eq key (codes "user") then Some member.User
    else if bytes_eq key (codes "name") then Some member.Name
    else if bytes_eq key (codes "until") then Some member.Until
    else if bytes_eq key (codes "by") then Some member.By
    else if bytes_eq key (codes "file") then Some member.File
    else None

-- which members an object may have: whatever orders something may have the terms of that
abbrev pub takes : Form → Member → Bool
takes form.User member.Node = true
takes form.User member.User = true
takes form.User m = false
takes f member.Name = true
takes f member.Until = true
takes f member.By = true
takes form.Order member.Command = true
takes form.Order member.Owner = true
takes form.Message member.To = true
takes form.Message member.Text = true
takes form.Line member.State = true
takes form.Line member.WhenIdle = true
takes form.Stop member.WhenIdle = true
takes form.Diff member.File = true
takes f m = false

abbrev pub stands_in : List ℕ → List (List ℕ) → Bool
stands_in key before = list_any (λ k. bytes_eq k key) before

-- what is wrong with a key that is this member, if it is one, and that stood before, or didn't
abbrev pub fault_of : Form → List ℕ → Bool → Option Member → Option RequestRefusal
fault_of f key stood None = Some (UnknownMember (quote_of key))
fault_of f key stood (Some m) =
    cond (takes f m) (cond stood (Some (RepeatedMember m)) None) (Some (UnknownMember (quote_of key)))

abbrev pub key_fault : Form → List (List ℕ) → List ℕ → Option RequestRefusal
key_fault f before key = fault_of f key (stands_in key before) (member_of key)

-- what is wrong with the first key that has a fault, behind others
abbrev pub odd_from : Form → List (List ℕ) → List (List ℕ) → Option RequestRefusal
odd_from f before [] = None
odd_from f before (key ∷ rest) = option_or (key_fault f before key) (odd_from f (before ++ key ∷ []) rest)

abbrev pub odd_where : RequestRefusal → Form → Option json.Members → Option RequestRefusal
odd_where otherwise f None = Some otherwise
odd_where otherwise f (Some ms) = odd_from f [] (keys ms)

-- what is wrong with what is to be an object of this form: it is none, or its first key that has a fault
abbrev pub odd_in : RequestRefusal → Form → json.Json → Option RequestRefusal
odd_in otherwise f j = odd_where otherwise f (as_object j)
