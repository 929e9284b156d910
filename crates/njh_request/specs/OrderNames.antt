-- The name under which an order is remembered. It begins with a letter, and so it is no number.
use Rattle.std.specs.Prelude.{ℕ, ◌||◌, ◌&&◌, ◌==◌, Bool, false, List, [], ◌∷◌, length, cond, nat_le, Option, Some, None}
use Rattle.std.specs.List.{list_all}
use Rattle.njh_ebcdic.specs.Names.{within}
use Rattle.njh_request.specs.Quotes.{quote_of}

abbrev pub is_letter : ℕ → Bool
is_letter b = within 65 90 b || within 97 122 b

-- a letter, a digit, -, . or _
abbrev pub is_name_byte : ℕ → Bool
is_name_byte b = is_letter b || within 48 57 b || (b == 45 || b == 46 || b == 95)

abbrev pub begins_with_letter : List ℕ → Bool
begins_with_letter [] = false
begins_with_letter (b ∷ rest) = is_letter b

-- 1 to 32 of them
abbrev pub is_order_name : List ℕ → Bool
is_order_name text = begins_with_letter text && nat_le (length text) 32 && list_all is_name_byte text

abbrev pub order_name_of : List ℕ → Option (List ℕ)
order_name_of text = cond (is_order_name text) (Some (quote_of text)) None
