-- An object with a member more, among its members by its name.
use Rattle.std.specs.Prelude.{List, ℕ}
use Rattle.serde_json.specs.Data as json
use Rattle.serde_json.specs.Data.{Data, put}

abbrev pub with_member : (name : List ℕ) → (own : Data) → Data → Data
with_member name own json.null = json.null
with_member name own (json.boolean b) = json.boolean b
with_member name own (json.number n) = json.number n
with_member name own (json.string text) = json.string text
with_member name own (json.array items) = json.array items
with_member name own (json.object members) = json.object (put name own members)
