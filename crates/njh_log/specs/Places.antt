-- Where something happened.
use Rattle.std.specs.Prelude.{Bool, true, false, ◌&&◌}
use Rattle.std.specs.Str.{bytes_eq}
use Rattle.njh_log.specs.declared.heading.Place.{Place}
use Rattle.njh_log.specs.declared.heading.Place.TheVariants.{Hub, Customer, Line}

-- the hub, the same customer, or the same line of it
abbrev pub same_place : Place → Place → Bool
same_place Hub Hub = true
same_place Hub (Customer other) = false
same_place Hub (Line other second) = false
same_place (Customer customer) Hub = false
same_place (Customer customer) (Customer other) = bytes_eq customer other
same_place (Customer customer) (Line other second) = false
same_place (Line customer line) Hub = false
same_place (Line customer line) (Customer other) = false
same_place (Line customer line) (Line other second) = bytes_eq customer other && bytes_eq line.bytes second.bytes

-- the customer with whom it happened, as a place
abbrev pub customer_place : Place → Place
customer_place Hub = Hub
customer_place (Customer customer) = Customer customer
customer_place (Line customer line) = Customer customer
