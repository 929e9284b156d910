-- Numbers in a path and behind it are read back.
use Rattle.std.proofs.Common.{◌≡◌, ℕ, ◌^◌, ◌<◌, ◌≤◌, ◌&&◌, Bool, true, List, [], ◌∷◌, length, cond}
use Rattle.std.proofs.Common.{Some, None, refl, ap, ap₂, ◌∙◌, arith, leb, lit<}
use Rattle.std.specs.Prelude.{not}
use Rattle.std.specs.Fmt.{decimal}
use Rattle.std.specs.List.{list_all}
use Rattle.std.proofs.lemmas.Bool.{and_parts, leb-true, le-leb, ltb-true}
use Rattle.std.proofs.lemmas.Fmt.{decimal_nonempty, digits_decimal, digits_value-decimal, length-decimal-le}
use Rattle.std.proofs.lemmas.Str.Parse.{FoldsDigits, IsDigitsTest, IsNumeralModel, numerals_by_fold}
use Rattle.njh_ebcdic.specs.Names.{is_empty, within}
use Rattle.njh_request.specs.Paths.{is_number, number_in, place_in, value_behind}
use Rattle.njh_ctl.specs.Questions.{from_text, is_place}

tests_digits : IsDigitsTest (λ ds. list_all (within 48 57) ds ≡ true)
tests_digits = record {
  empty = refl;
  parts = λ c cs e.
      let k = and_parts (within 48 57 c) (list_all (within 48 57) cs) e in
      let m = and_parts (leb 48 c) (leb c 57) k.0 in ((leb-true 48 c m.0, leb-true c 57 m.1), k.1);
  more = λ c cs k e.
      ap₂ (λ a b. a && b) (ap₂ (λ a b. a && b) (le-leb 48 c k.0) (le-leb c 57 k.1)) e;
}

folds_digits : FoldsDigits value_behind
folds_digits = record {
  empty = λ n. refl;
  more = λ n c cs k. ap (λ m. value_behind m cs) (omega arith);
}

own_digits : IsNumeralModel (λ ds. list_all (within 48 57) ds ≡ true) (value_behind 0)
own_digits = numerals_by_fold (λ ds. list_all (within 48 57) ds ≡ true) tests_digits value_behind folds_digits

is_not_empty : (ds : List ℕ) → 0 < length ds → not (is_empty ds) ≡ true
is_not_empty [] some = absurd (omega (arith, some))
is_not_empty (d ∷ ds) some = refl

read_number : (b : Bool) (ds : List ℕ) (n : ℕ) → is_number ds ≡ b → b ≡ true → value_behind 0 ds ≡ n
    → number_in ds ≡ Some n
read_number b ds n is holds value =
    ap (λ t. cond t (Some (value_behind 0 ds)) None) (is ∙ holds) ∙ ap (λ (m : ℕ). Some m) value

-- a number of at most 18 digits
pub number-decimal : (n : ℕ) → is_place n ≡ true → number_in (decimal n) ≡ Some n
number-decimal n place =
    let small : n < 10 ^ 18 = ltb-true n 1000000000000000000 place in
    let fits : n < 2 ^ 64 = omega (arith, small) in
    let long : length (decimal n) ≤ 18 = length-decimal-le 18 n (lit< tt) small fits in
    let number : is_number (decimal n) ≡ true =
    ap₂ (λ a b. a && b) (is_not_empty (decimal n) (decimal_nonempty n fits))
    (ap₂ (λ a b. a && b) (le-leb (length (decimal n)) 18 long) (digits_decimal own_digits n fits)) in
    read_number true (decimal n) n number refl (digits_value-decimal own_digits n fits)

-- and behind `from=`
pub place-from_text : (n : ℕ) → is_place n ≡ true → place_in (Some (from_text n)) ≡ Some n
place-from_text n place = number-decimal n place
