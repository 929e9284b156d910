-- What paths name, by their parts.
use Rattle.std.proofs.Common.{◌≡◌, ℕ, eqb, Bool, true, false, List, [], ◌∷◌, ◌++◌}
use Rattle.std.proofs.Common.{Ok, Some, option_map, refl, ap, subst, ◌∙◌}
use Rattle.std.specs.Prelude.{codes}
use Rattle.std.specs.List.{All}
use Rattle.std.proofs.lemmas.Bool.{eqb-true}
use Rattle.std.proofs.lemmas.List.Elements.{All-weaker}
use Rattle.std.proofs.lemmas.List.Splits.{slice_split_at, slice_split_none}
use Rattle.std.proofs.lemmas.List.Sums.{AllPass-from_list_all}
use Rattle.njh_request.specs.Paths.{customer_by, customer_named, key_of, line_by, parts_of, resource_of}
use Rattle.njh_request.specs.Paths.{resource_of_parts}
use Rattle.njh_request.specs.declared.resource.Resource.TheVariants.{Outcome}
use Rattle.njh_table.specs.TableFile.{TableFile, line_named}
use Rattle.njh_ctl.specs.Questions.{customer_path, is_path_byte, is_word, line_path, outcome_path}

byte_cases : (x : Bool) (b : ℕ) → eqb b 47 ≡ x → is_path_byte b ≡ true → x ≡ false
byte_cases false b e is = refl
byte_cases true b e is =
    let at : b ≡ 47 = eqb-true b 47 e in
    let bad : false ≡ true = subst (λ (n : ℕ). is_path_byte n ≡ true) at is in cc bad

byte_apart : (b : ℕ) → is_path_byte b ≡ true → eqb b 47 ≡ false
byte_apart b is = byte_cases (eqb b 47) b refl is

word_apart : (word : List ℕ) → is_word word ≡ true → All (λ b. eqb b 47 ≡ false) word
word_apart word is =
    All-weaker (λ b. is_path_byte b ≡ true) (λ b. eqb b 47 ≡ false) byte_apart word
    (AllPass-from_list_all is_path_byte word is)

-- a word alone, and before a stroke
pub word_parts : (word : List ℕ) → is_word word ≡ true → parts_of word ≡ word ∷ []
word_parts word is = slice_split_none (λ b. eqb b 47) word (word_apart word is)

pub word_and_parts : (word rest : List ℕ) → is_word word ≡ true → parts_of (word ++ 47 ∷ rest) ≡ word ∷ parts_of rest
word_and_parts word rest is = slice_split_at (λ b. eqb b 47) word 47 rest (word_apart word is) refl

-- ---- resources

parts_behind_customers : (rest : List ℕ)
    → parts_of (codes "/v1/customers/" ++ rest) ≡ [] ∷ codes "v1" ∷ codes "customers" ∷ parts_of rest
parts_behind_customers rest = refl

parts_behind_orders : (rest : List ℕ)
    → parts_of (codes "/v1/orders/" ++ rest) ≡ [] ∷ codes "v1" ∷ codes "orders" ∷ parts_of rest
parts_behind_orders rest = refl

parts_behind_lines : (rest : List ℕ)
    → parts_of (codes "/v1/lines/" ++ rest) ≡ [] ∷ codes "v1" ∷ codes "lines" ∷ parts_of rest
parts_behind_lines rest = refl

-- a customer's
pub resource-customer_path : (tables : TableFile) (word part : List ℕ) → is_word word ≡ true
    → parts_of part ≡ part ∷ []
    → resource_of tables (customer_path word part) ≡ customer_by word part (customer_named tables word)
resource-customer_path tables word part is alone =
    ap (resource_of_parts tables)
    (parts_behind_customers (word ++ 47 ∷ part)
    ∙ ap (λ (p : List (List ℕ)). [] ∷ codes "v1" ∷ codes "customers" ∷ p)
    (word_and_parts word part is ∙ ap (λ (p : List (List ℕ)). word ∷ p) alone))

-- a line
pub resource-line_path : (tables : TableFile) (word : List ℕ) → is_word word ≡ true
    → resource_of tables (line_path word) ≡ Some (line_by word (line_named tables word))
resource-line_path tables word is =
    ap (resource_of_parts tables)
    (parts_behind_lines word
    ∙ ap (λ (p : List (List ℕ)). [] ∷ codes "v1" ∷ codes "lines" ∷ p) (word_parts word is))

-- an order's outcome
pub resource-order_path : (tables : TableFile) (word : List ℕ) → parts_of word ≡ word ∷ []
    → resource_of tables (outcome_path word) ≡ option_map (λ k. Ok (Outcome k)) (key_of word)
resource-order_path tables word alone =
    ap (resource_of_parts tables)
    (parts_behind_orders word ∙ ap (λ (p : List (List ℕ)). [] ∷ codes "v1" ∷ codes "orders" ∷ p) alone)
