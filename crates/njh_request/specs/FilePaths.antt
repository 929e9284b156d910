-- The name of a file in a request: it says from the root on where the file is.
use Rattle.std.specs.Prelude.{ℕ, ◌&&◌, ◌==◌, Bool, false, List, [], ◌∷◌, length, cond, nat_le, Option, Some, None}

abbrev pub begins_with_stroke : List ℕ → Bool
begins_with_stroke [] = false
begins_with_stroke (b ∷ rest) = b == 47

-- /etc/njehub/tables.toml.new
abbrev pub is_path : List ℕ → Bool
is_path text = begins_with_stroke text && nat_le (length text) 1024

abbrev pub path_of_text : List ℕ → Option (List ℕ)
path_of_text text = cond (is_path text) (Some text) None
