-- What is wrong at a place of a table file.
use Rattle.std.specs.Prelude.{ℕ, ◌+◌, Bool, false, List, codes, cond, is_ok, Option, Some, None}
use Rattle.std.specs.Prelude.{option_and_then, unwrap_or}
use Rattle.std.specs.Fmt.{decimal}
use Rattle.std.specs.Option.{option_map_or}
use Rattle.toml.specs.Data.{Data, Items, no_items, item, Members, get_member, as_str, as_array, as_table}
use Rattle.njh_ebcdic.specs.Reading.{name_of_text}
use Rattle.njh_table.specs.declared.fault.TableFault.{TableFault}
use Rattle.njh_table.specs.declared.fault.TableFault.TheVariants as faults
use Rattle.njh_table.specs.declared.places.Key.{Key}
use Rattle.njh_table.specs.declared.places.Key.TheVariants as named
use Rattle.njh_table.specs.declared.places.Part.{Part}
use Rattle.njh_table.specs.declared.places.Part.TheVariants as parts
use Rattle.njh_table.specs.Keys.{number}
use Rattle.njh_table.specs.Limits.{max_block, max_capacity, max_customers, max_files, max_line_name, max_lines}
use Rattle.njh_table.specs.Limits.{max_port, max_quota, max_ranges, max_routes, max_streams, min_block}
use Rattle.njh_table.specs.Places.{key_name}
use Rattle.njh_check.specs.Words.{◌+++◌, between_words, found_words}

-- what a name of a part may be
unfoldable pub name_words : Part → List ℕ
name_words parts.File = codes "a name"
name_words (parts.Customer c) = codes "a name: 1 to 8 of A to Z, 0 to 9, $, # and @"
name_words (parts.Line c n) = between_words 1 max_line_name +++ codes " letters and digits"
name_words (parts.Route c n) = codes "a name"

-- what the key `line` of a part may be
unfoldable pub line_words : Part → List ℕ
line_words parts.File = codes "a list"
line_words (parts.Customer c) = codes "a list of lines"
line_words (parts.Line c n) = codes "a list"
line_words (parts.Route c n) = codes "a line's name"

-- what may be at a key
unfoldable pub wanted_words : Part → Key → List ℕ
wanted_words part named.Capacity = between_words 1 max_capacity
wanted_words part named.Customer = codes "a list of customers"
wanted_words part named.Name = name_words part
wanted_words part named.Hub = codes "a name: 1 to 8 of A to Z, 0 to 9, $, # and @"
wanted_words part named.Quota = between_words 1 max_quota
wanted_words part named.Files = between_words 1 max_files
wanted_words part named.Line = line_words part
wanted_words part named.Route = codes "a list of routes"
wanted_words part named.Node = codes "a name: 1 to 8 of A to Z, 0 to 9, $, # and @"
wanted_words part named.Role = codes "\"call\" or \"answer\""
wanted_words part named.Block = between_words min_block max_block
wanted_words part named.Streams = between_words 1 max_streams
wanted_words part named.Password = codes "empty or a name: 1 to 8 of A to Z, 0 to 9, $, # and @"
wanted_words part named.Port = between_words 0 max_port
wanted_words part named.Connect = codes "an IP address and a port, on a line without a port of its own"
wanted_words part named.From =
    between_words 1 max_ranges +++ codes " addresses or networks without bits behind the mask, on a line with a port"
wanted_words part named.Protocol =
    codes "\"bisync\", or \"tcp\" on a line that answers with a port or calls with connect"
wanted_words part named.Second = codes "the name of another line"

-- how many of a part there may be
unfoldable pub most_words : Part → List ℕ
most_words parts.File = codes "the file is too long"
most_words (parts.Customer c) = codes "at most " +++ decimal max_customers +++ codes " customers"
most_words (parts.Line c n) = codes "at most " +++ decimal max_lines +++ codes " lines on the whole hub"
most_words (parts.Route c n) = codes "at most " +++ decimal max_routes +++ codes " routes"

-- whether a value is a name
unfoldable pub is_name_value : Option Data → Bool
is_name_value value = option_map_or (λ text. is_ok (name_of_text text)) (option_and_then as_str value) false

-- whether it is a customer's name that has nothing wrong but that it is an earlier one's
unfoldable pub is_name_again : Part → Key → Option Data → Bool
is_name_again (parts.Customer c) named.Name value = is_name_value value
is_name_again part key value = false

-- a value at a key, but a password isn't told
unfoldable pub told_words : Key → Option Data → List ℕ
told_words named.Password value = codes "it"
told_words key value = found_words value

-- a value that a key can't have
unfoldable pub bad_value_words : Part → Option Key → Option Data → List ℕ
bad_value_words part None value = found_words value +++ codes " isn't a table"
bad_value_words part (Some key) value =
    cond (is_name_again part key value) (found_words value +++ codes " is an earlier customer's name")
    (told_words key value +++ codes " isn't " +++ wanted_words part key)

-- a key that isn't there, or is an empty list
unfoldable pub missing_words : Option Key → Option Data → List ℕ
missing_words None value = codes "no key"
missing_words (Some key) None = codes "no key " +++ key_name key
missing_words (Some key) (Some value) = codes "the list " +++ key_name key +++ codes " is empty"

-- a capacity that is less than the quotas' sum
unfoldable pub over_words : ℕ → List ℕ
over_words sum = codes " is less than the quotas, which add to " +++ decimal sum

-- the quotas of customers, added; one that is no quota counts as none
unfoldable pub quota_in : Data → Option ℕ
quota_in value =
    option_and_then (number 0 max_quota) (option_and_then (get_member (key_name named.Quota)) (as_table value))

abbrev pub quotas_of : Items → ℕ
quotas_of no_items = 0
quotas_of (item value more) = unwrap_or (quota_in value) 0 + quotas_of more

unfoldable pub quotas_in : Members → ℕ
quotas_in document =
    option_map_or quotas_of (option_and_then as_array (get_member (key_name named.Customer) document)) 0

-- what is wrong, by the fault, its place and what is there
unfoldable pub reason_words : TableFault → Members → Part → Option Key → Option Data → List ℕ
reason_words faults.BadToml document part key value = codes "no TOML"
reason_words faults.MissingKey document part key value = missing_words key value
reason_words faults.BadValue document part key value = bad_value_words part key value
reason_words faults.DoubleLine document part key value = found_words value +++ codes " is an earlier line's name"
reason_words faults.DoubleNode document part key value =
    found_words value +++ codes " has a route already, or is the hub's own name"
reason_words faults.UnknownLine document part key value = found_words value +++ codes " is no line of this customer"
reason_words faults.QuotaOver document part key value = found_words value +++ over_words (quotas_in document)
reason_words faults.TooMany document part key value = most_words part
reason_words faults.Memory document part key value = codes "memory was refused"
