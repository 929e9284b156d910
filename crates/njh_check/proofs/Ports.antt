-- The first line that has a port, customer after customer.
use Rattle.std.proofs.Common.{◌≡◌, ℕ, ◌+◌, ◌<◌, ◌==◌, List, ◌∷◌, length, get_or, drop, Some, None}
use Rattle.std.proofs.Common.{sym, ap, ◌∙◌}
use Rattle.std.specs.List.{find, flat_map}
use Rattle.std.specs.Option.{option_or}
use Rattle.std.proofs.lemmas.List.{drop_more}
use Rattle.std.proofs.lemmas.List.Folds.{find-append}
use Rattle.njh_table.specs.TableFile.{NamedLine, NamedCustomer}
use Rattle.njh_check.specs.Warnings.{first_on}

-- that of customers from one on is its own, or that of those after it
pub first_from : (port i : ℕ) (cs : List NamedCustomer) (c : NamedCustomer) → i < length cs → c ≡ get_or cs i c
    → first_on port (drop i cs)
    ≡ option_or (find (λ l. l.port == port) c.lines) (first_on port (drop (i + 1) cs))
first_from port i cs c within is =
    ap (first_on port) (drop_more cs i c within ∙ ap (λ x. x ∷ drop (i + 1) cs) (sym is))
    ∙ find-append (λ l. l.port == port) c.lines (flat_map (λ x. x.lines) (drop (i + 1) cs))

-- a line that the first of them has is the first of all
pub first_found : (port i : ℕ) (cs : List NamedCustomer) (c : NamedCustomer) (l : NamedLine) → i < length cs
    → c ≡ get_or cs i c → find (λ l. l.port == port) c.lines ≡ Some l → first_on port (drop i cs) ≡ Some l
first_found port i cs c l within is found =
    first_from port i cs c within is ∙ ap (λ o. option_or o (first_on port (drop (i + 1) cs))) found

-- and one that it hasn't is of those after it
pub first_later : (port i : ℕ) (cs : List NamedCustomer) (c : NamedCustomer) → i < length cs → c ≡ get_or cs i c
    → find (λ l. l.port == port) c.lines ≡ None → first_on port (drop i cs) ≡ first_on port (drop (i + 1) cs)
first_later port i cs c within is none =
    first_from port i cs c within is ∙ ap (λ o. option_or o (first_on port (drop (i + 1) cs))) none
