-- What an answer of a console holds.
use Rattle.std.specs.Prelude.{◌≡◌, ℕ, List, codes, cond, Option, Some, None, option_and_then}
use Rattle.std.specs.Option.{option_map}
use Rattle.std.specs.Str.{is_utf8}
use Rattle.serde_json.specs.Data.{Data, Items, null, boolean, number, string, array, object}
use Rattle.serde_json.specs.Find.{as_array, as_number, as_str, as_u64, get}
use Rattle.serde_json.specs.Read.{read}
use Rattle.njh_ctl.specs.declared.fault.CtlFault.{CtlFault}
use Rattle.njh_ctl.specs.declared.fault.CtlFault.TheVariants as fault

-- the JSON that bytes are
abbrev pub json_in : List ℕ → Option Data
json_in bytes = cond (is_utf8 bytes) (read bytes) None

-- why there is no value: what was read is none, or there is no memory
abbrev pub IsNoValue : Option Data → CtlFault → Type 0
IsNoValue o fault.NotUnderstood = o ≡ None
IsNoValue o fault.Memory = Unit {0}
IsNoValue o other = ⊥

-- the text that a member is
abbrev pub string_in : List ℕ → Data → Option (List ℕ)
string_in key d = option_and_then as_str (get key d)

-- the number that a member is
abbrev pub count_in : List ℕ → Data → Option ℕ
count_in key d = option_and_then as_u64 (option_and_then as_number (get key d))

-- the values of the list that a member is
abbrev pub list_in : List ℕ → Data → Option Items
list_in key d = option_and_then as_array (get key d)

-- a place to go on from, or null
abbrev pub next_by : Data → Option (Option ℕ)
next_by null = Some None
next_by (number n) = option_map Some (as_u64 n)
next_by (boolean b) = None
next_by (string s) = None
next_by (array ds) = None
next_by (object ms) = None

-- where a list goes on that an answer has a part of, if it does
abbrev pub next_in : Data → Option (Option ℕ)
next_in d = option_and_then next_by (get (codes "next") d)
