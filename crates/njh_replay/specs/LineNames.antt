-- The names of the customers and of the lines.
use Rattle.std.specs.Prelude.{ℕ, List, map, Option, option_and_then, slice_get}
use Rattle.njh_table.specs.declared.LineId.{LineId}
use Rattle.njh_table.specs.TableFile.{TableFile, NamedCustomer}

-- the names of the customers, in their order
abbrev pub customers_of : TableFile → List (List ℕ)
customers_of tables = map (λ customer. customer.name) tables.customers

-- the names of a customer's lines, in their order
abbrev pub names_in : NamedCustomer → List (List ℕ)
names_in customer = map (λ line. line.name) customer.lines

-- those of all customers
abbrev pub names_of : TableFile → List (List (List ℕ))
names_of tables = map names_in tables.customers

-- the name of a line, by its number within its customer and the customer's
abbrev pub name_at : List (List (List ℕ)) → LineId → Option (List ℕ)
name_at names id = option_and_then (λ lines. slice_get lines id.number) (slice_get names id.customer)
