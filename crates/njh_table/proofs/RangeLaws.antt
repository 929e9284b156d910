-- Ranges of addresses: the bits of an address, and what a text writes.
use Rattle.std.proofs.Common.{◌≡◌, ◌≢◌, ℕ, ◌+◌, ◌%◌, ◌^◌, ◌<◌, ◌≤◌, ◌==◌, Bool, true, false, cond, ◌&&◌, not}
use Rattle.std.proofs.Common.{nat_lt, nat_le, List, [], ◌∷◌, ◌++◌, length, take, drop, Option, Some, None, IfSome, All}
use Rattle.std.proofs.Common.{option_and_then, option_map, Result, Ok, Err, MatchOption, refl, sym, ap, ◌∙◌, inl, inr}
use Rattle.std.proofs.Common.{append_assoc, append-nil, arith}
use Rattle.std.specs.Prelude.{IsTrue}
use Rattle.std.specs.Borrow.{Bor}
use Rattle.std.specs.List.{list_all, position_or_len, before_first, after_first}
use Rattle.std.specs.Result.{result_ok, OkIff}
use Rattle.std.specs.Str.Parse.{ParsesUnsigned, digits_value}
use Rattle.std.proofs.Math.Nat.{mod-eq_of_lt, mod-one}
use Rattle.std.proofs.lemmas.Bool.{false≢true, and_parts, and_from, cases_lt, lt-ltb, le-ltb, ltb-true, leb-true}
use Rattle.std.proofs.lemmas.Bool.{eqb-false, le-leb, not-true}
use Rattle.std.proofs.lemmas.List.Elements.{All-nil, All-cons}
use Rattle.std.proofs.lemmas.Str.Parse.{IsDigitsTest, IsNumeralModel, numerals_by_value, parse_digits}
use Rattle.std.specs.declared.net.ip_addr.IpAddr.{IpAddr}
use Rattle.std.specs.declared.net.ip_addr.IpAddr.TheVariants.{V4, V6}
use Rattle.toml.specs.Data.{Data, Items, no_items, item, as_str, as_array}
use Rattle.toml.specs.View.{items_view}
use Rattle.toml.specs.declared.value.Value.{Value}
use Rattle.njh_ebcdic.specs.Names.{within}
use Rattle.njh_table.specs.declared.address_range.AddressRange.{AddressRange}
use Rattle.njh_table.specs.Addresses.{ip_of}
use Rattle.njh_table.specs.Keys.{is_digit, leads, is_decimal, bits_of, halves, range_with, range_in, range, ranges_in}
use Rattle.njh_table.specs.Keys.{count_of, may_have, ranges_of, from}
use Rattle.njh_table.specs.Limits.{max_ranges}
use Rattle.njh_table.specs.Ranges.{number_of, ends_in_zeros, is_range, own_range}

-- ---- the bits of an address

-- a power that has no room in 128 bits is more than any number that has
beyond : (n bits : ℕ) → n < 2 ^ 128 → ¬ (2 ^ bits < 2 ^ 128) → n < 2 ^ bits
beyond n bits fits over = elim (cases_lt (2 ^ bits) (2 ^ 128)) [
  | inl below ↦ absurd (over below)
  | inr least ↦ omega (arith, fits, least)
]

pub all_behind : (n bits : ℕ) → n < 2 ^ 128 → ¬ (2 ^ bits < 2 ^ 128) → n % 2 ^ bits ≡ n
all_behind n bits fits over = mod-eq_of_lt (beyond n bits fits over)

-- an address by itself is a range
own_ends : (address : IpAddr) → ends_in_zeros 0 address ≡ true
unfolding ends_in_zeros
own_ends address = ap (λ n. n == 0) (mod-one (number_of address))

pub own_range-is : (address : IpAddr) → IsTrue (is_range (own_range address))
own_range-is (V4 ip) = own_ends (V4 ip)
own_range-is (V6 ip) = own_ends (V6 ip)

-- ---- a number in decimal

abbrev AreDigits : List ℕ → Type 0
AreDigits text = list_all is_digit text ≡ true

digits_test : IsDigitsTest AreDigits
digits_test = record {
  empty = refl;
  parts = λ c cs all.
      let (first, rest) = and_parts (is_digit c) (list_all is_digit cs) all in
      let (least, most) = and_parts _ _ first in ((leb-true 48 c least, leb-true c 57 most), rest);
  more = λ c cs within rest.
      and_from (is_digit c) (list_all is_digit cs)
      (and_from _ _ (le-leb 48 c within.0) (le-leb c 57 within.1)) rest;
}

own : IsNumeralModel AreDigits (digits_value 10)
own = numerals_by_value AreDigits digits_test

leads_long : (text : List ℕ) → leads text ≡ true → 0 < length text
leads_long [] e = absurd (false≢true e)
leads_long (c ∷ text) e = omega arith

pub number_read : {E : Type 0} (text : List ℕ) (r : Result ℕ E) → is_decimal text ≡ true → ParsesUnsigned 8 10 text r
    → result_ok r ≡ bits_of text
number_read {E} text r is parses =
    let (digits, leading) = and_parts (list_all is_digit text) (leads text) is in
    by r (leads_long text leading) (parse_digits own 8 text r parses digits)
  where
    value : ℕ
    value = digits_value 10 text

    small : (test : Bool) → nat_lt value 256 ≡ test → bits_of text ≡ cond test (Some value) None
    small test e = ap (λ t. cond t (Some value) None) (ap (λ t. t && nat_lt value 256) is ∙ e)

    too_large : (test : Bool) → nat_lt value 256 ≡ test → 0 < length text → ¬ ((0 < length text) × (value < 2 ^ 8))
        → None ≡ bits_of text
    too_large true e long never = absurd (never (long, ltb-true value 256 e))
    too_large false e long never = sym (small false e)

    by : (r : Result ℕ E) → 0 < length text → OkIff r ((0 < length text) × (value < 2 ^ 8)) value
        → result_ok r ≡ bits_of text
    by (Ok n) long (fits, same) = ap Some same ∙ sym (small true (lt-ltb value 256 fits.1))
    by (Err e) long never = too_large (nat_lt value 256) refl long never

-- ---- a text's two halves

pub halves_are : (text : List ℕ) (r : Option (Bor (List ℕ) × Bor (List ℕ)))
    → MatchOption r (position_or_len (λ c. c == 47) text ≡ length text)
    (λ x. (position_or_len (λ c. c == 47) text < length text) × (x.0.now ≡ before_first (λ c. c == 47) text)
    × (x.1.now ≡ after_first (λ c. c == 47) text))
    → option_map (λ h. (h.0.now, h.1.now)) r ≡ halves text
halves_are text None none =
    sym (ap (λ t. option_map (λ place. (take place text, drop (place + 1) text))
    (cond t (Some (position_or_len (λ c. c == 47) text)) None))
    (le-ltb (position_or_len (λ c. c == 47) text) (length text) (omega (arith, none))))
halves_are text (Some x) (below, before, behind) =
    (λ i. Some (before i, behind i))
    ∙ sym (ap (λ t. option_map (λ place. (take place text, drop (place + 1) text))
    (cond t (Some (position_or_len (λ c. c == 47) text)) None))
    (lt-ltb (position_or_len (λ c. c == 47) text) (length text) below))

-- ---- the ranges of a list

pub items_counted : (values : List Value) → count_of (items_view values) ≡ length values
items_counted [] = refl
items_counted (v ∷ values) = omega (arith, items_counted values)

-- what a list gives, by how many values it has
pub from_counted : (port : ℕ) (value : Data) (values : List Value) → Some (items_view values) ≡ as_array value
    → (test : Bool) → may_have port (length values) ≡ test
    → from port value ≡ cond test (ranges_in (items_view values)) None
from_counted port value values is test may =
    ap (option_and_then (ranges_of port)) (sym is)
    ∙ ap (λ t. cond t (ranges_in (items_view values)) None) (ap (may_have port) (items_counted values) ∙ may)

-- those of the items, after those done
abbrev pub ranges_after : List AddressRange → Items → Option (List AddressRange)
ranges_after done values = option_map (λ others. done ++ others) (ranges_in values)

pub after_none : (values : Items) → ranges_after [] values ≡ ranges_in values
after_none values = by (ranges_in values)
  where
    by : (o : Option (List AddressRange)) → option_map (λ others. [] ++ others) o ≡ o
    by None = refl
    by (Some others) = refl

pub ranges_after-more : (done : List AddressRange) (value : Data) (more : Items) (first : AddressRange)
    → range value ≡ Some first → ranges_after done (item value more) ≡ ranges_after (done ++ first ∷ []) more
ranges_after-more done value more first is =
    ap (λ o. option_map (λ others. done ++ others)
    (option_and_then (λ first. option_map (λ others. first ∷ others) (ranges_in more)) o)) is
    ∙ by (ranges_in more)
  where
    by : (o : Option (List AddressRange))
        → option_map (λ others. done ++ others) (option_map (λ others. first ∷ others) o)
        ≡ option_map (λ others. (done ++ first ∷ []) ++ others) o
    by None = refl
    by (Some others) = ap Some (sym (append_assoc done (first ∷ []) others))

pub ranges_after-bad : (done : List AddressRange) (value : Data) (more : Items) → range value ≡ None
    → ranges_after done (item value more) ≡ None
ranges_after-bad done value more is =
    ap (λ o. option_map (λ others. done ++ others)
    (option_and_then (λ first. option_map (λ others. first ∷ others) (ranges_in more)) o)) is

pub after_all : (done : List AddressRange) → ranges_after done no_items ≡ Some done
after_all done = ap Some (append-nil done)

-- ---- what is read may be written, and is no more than a line may have

abbrev IsWritten : AddressRange → Type 0
IsWritten range = IsTrue (is_range range)

if_range : (test : Bool) (range : AddressRange) → is_range range ≡ test → IfSome (cond test (Some range) None) IsWritten
if_range true range is = is
if_range false range is = tt

range_in-is : (text : List ℕ) (parts : Option (List ℕ × List ℕ)) → IfSome (range_in text parts) IsWritten
range_in-is text None = by (ip_of text)
  where
    by : (o : Option IpAddr) → IfSome (option_map own_range o) IsWritten
    by None = tt
    by (Some address) = own_range-is address
range_in-is text (Some parts) = by (ip_of parts.0)
  where
    with_bits : (address : IpAddr) (o : Option ℕ) → IfSome (option_and_then (range_with address) o) IsWritten
    with_bits address None = tt
    with_bits address (Some bits) =
        if_range (is_range (record { address = address; bits = bits })) (record { address = address; bits = bits }) refl

    by : (o : Option IpAddr)
        → IfSome (option_and_then (λ address. option_and_then (range_with address) (bits_of parts.1)) o) IsWritten
    by None = tt
    by (Some address) = with_bits address (bits_of parts.1)

range-is : (value : Data) → IfSome (range value) IsWritten
range-is value = by (as_str value)
  where
    by : (text : Option (List ℕ)) → IfSome (option_and_then (λ text. range_in text (halves text)) text) IsWritten
    by None = tt
    by (Some text) = range_in-is text (halves text)

abbrev AreOf : Items → List AddressRange → Type 0
AreOf values ranges = (length ranges ≡ count_of values) × All IsWritten ranges

ranges_in-are : (values : Items) → IfSome (ranges_in values) (AreOf values)
ranges_in-are no_items = (refl, All-nil IsWritten)
ranges_in-are (item value more) = by (range value) (range-is value) (ranges_in more) (ranges_in-are more)
  where
    by : (o : Option AddressRange) → IfSome o IsWritten
        → (others : Option (List AddressRange)) → IfSome others (AreOf more)
        → IfSome (option_and_then (λ first. option_map (λ rest. first ∷ rest) others) o) (AreOf (item value more))
    by None is others are = tt
    by (Some first) is None are = tt
    by (Some first) is (Some rest) are = (omega (arith, are.0), All-cons IsWritten first rest is are.1)

pub record IsFromOf (port : ℕ) (ranges : List AddressRange) : Type 0 where
  pub listens : 0 < length ranges → port ≢ 0
  pub few : length ranges ≤ max_ranges
  pub written : All (λ range. IsTrue (is_range range)) ranges

pub from_nobody : (port : ℕ) → IsFromOf port []
from_nobody port = record {
  listens = λ some. absurd (omega arith);
  few = omega arith;
  written = All-nil IsWritten;
}

counted : (port : ℕ) (values : Items) (o : Option (List AddressRange)) → may_have port (count_of values) ≡ true
    → IfSome o (AreOf values) → IfSome o (IsFromOf port)
counted port values None may are = tt
counted port values (Some ranges) may are =
    let (listens, few) = and_parts (not (port == 0)) (within 1 max_ranges (count_of values)) may in
    let (least, most) = and_parts (nat_le 1 (count_of values)) (nat_le (count_of values) max_ranges) few in
    let at_most : count_of values ≤ max_ranges = leb-true (count_of values) max_ranges most in
    let count : length ranges ≡ count_of values = are.0 in record {
      listens = λ _. eqb-false port 0 (not-true (port == 0) listens);
      few = omega (arith, at_most, count);
      written = are.1;
    }

pub from-is : (port : ℕ) (value : Data) → IfSome (from port value) (IsFromOf port)
from-is port value = by (as_array value)
  where
    if_may : (test : Bool) (values : Items) → may_have port (count_of values) ≡ test
        → IfSome (cond test (ranges_in values) None) (IsFromOf port)
    if_may true values may = counted port values (ranges_in values) may (ranges_in-are values)
    if_may false values may = tt

    by : (values : Option Items) → IfSome (option_and_then (ranges_of port) values) (IsFromOf port)
    by None = tt
    by (Some values) = if_may (may_have port (count_of values)) values refl
