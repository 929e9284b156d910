-- What is at a place of a table file.
use Rattle.std.specs.Prelude.{ℕ, Option, Some, None, option_and_then}
use Rattle.toml.specs.Data.{Data, Members, get_member, get_item, as_array, as_table}
use Rattle.njh_table.specs.declared.places.Key.{Key}
use Rattle.njh_table.specs.declared.places.Key.TheVariants as named
use Rattle.njh_table.specs.declared.places.Part.{Part}
use Rattle.njh_table.specs.declared.places.Part.TheVariants as parts
use Rattle.njh_table.specs.Places.{key_name}

-- the element of a number in the list at a key, if there is one
unfoldable pub element : ℕ → Key → Members → Option Data
element number key keys = option_and_then (get_item number) (option_and_then as_array (get_member (key_name key) keys))

-- and its keys
unfoldable pub element_keys : ℕ → Key → Members → Option Members
element_keys number key keys = option_and_then as_table (element number key keys)

-- a part of the file as a value; the file itself is none
unfoldable pub part_value : Part → Members → Option Data
part_value parts.File document = None
part_value (parts.Customer c) document = element c named.Customer document
part_value (parts.Line c n) document = option_and_then (element n named.Line) (element_keys c named.Customer document)
part_value (parts.Route c n) document = option_and_then (element n named.Route) (element_keys c named.Customer document)

-- the keys of a part of the file
unfoldable pub part_keys : Part → Members → Option Members
part_keys parts.File document = Some document
part_keys (parts.Customer c) document = element_keys c named.Customer document
part_keys (parts.Line c n) document =
    option_and_then (element_keys n named.Line) (element_keys c named.Customer document)
part_keys (parts.Route c n) document =
    option_and_then (element_keys n named.Route) (element_keys c named.Customer document)

-- the value of a part's key, or the part as a value
unfoldable pub value_at : Part → Option Key → Members → Option Data
value_at part None document = part_value part document
value_at part (Some key) document = option_and_then (get_member (key_name key)) (part_keys part document)
