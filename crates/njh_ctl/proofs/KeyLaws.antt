-- By what an order is asked for.
use Rattle.std.proofs.Common.{◌≡◌, ℕ, Bool, true, false, List, Option, Some, None, cond, refl}
use Rattle.std.specs.Prelude.{is_some}
use Rattle.njh_request.specs.OrderNames.{order_name_of}
use Rattle.njh_request.specs.Paths.{is_number, key_by, key_of, value_behind}

number_where : (b : Bool) (n : ℕ) (o : Option (List ℕ)) → b ≡ true
    → is_some (key_by (cond b (Some n) None) o) ≡ true
number_where true n o is = refl
number_where false n o is = cc is

name_where : (b : Bool) (n : ℕ) (o : Option (List ℕ)) → b ≡ false
    → is_some (key_by (cond b (Some n) None) o) ≡ is_some o
name_where true n o is = cc is
name_where false n None is = refl
name_where false n (Some name) is = refl

pub key_of_number : (text : List ℕ) → is_number text ≡ true → is_some (key_of text) ≡ true
key_of_number text is = number_where (is_number text) (value_behind 0 text) (order_name_of text) is

pub key_of_name : (text : List ℕ) → is_number text ≡ false → is_some (key_of text) ≡ is_some (order_name_of text)
key_of_name text is = name_where (is_number text) (value_behind 0 text) (order_name_of text) is
