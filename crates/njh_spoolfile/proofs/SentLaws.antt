-- The mark before a node's name, and a file's records that are made to name that node, one after the other.
use Rattle.std.proofs.Common.{◌≡◌, ◌≢◌, ℕ, zero, suc, ◌+◌, ◌<◌, ◌==◌, ◌&&◌, Bool, true, false, cond, not, List, [], ◌∷◌}
use Rattle.std.proofs.Common.{◌++◌}
use Rattle.std.proofs.Common.{length, get_or, set, take, drop, map, Option, None, Some, is_some, refl, sym, ap, subst}
use Rattle.std.proofs.Common.{◌∙◌}
use Rattle.std.proofs.Common.{arith, Bor, MatchOption}
use Rattle.std.proofs.lemmas.Bool.{eqb-true, false_from_ne_true}
use Rattle.std.proofs.lemmas.List.{length-map, map-set}
use Rattle.std.specs.Option.{option_map}
use Rattle.std.specs.Result.{result_ok}
use Rattle.njh_ebcdic.specs.Reading.{name_of_text}
use Rattle.njh_header.specs.Headers.{data_set_header}
use Rattle.njh_header.specs.Redirecting.{destination_place, redirected_record, records_to_node}
use Rattle.njh_record.specs.Stored.{Stored, has_srcb}
use Rattle.njh_record.specs.declared.Kind.{Kind}
use Rattle.njh_record.specs.declared.Kind.TheVariants.{In, Out}
use Rattle.njh_spoolfile.specs.Kept.{contents_of}
use Rattle.njh_spoolfile.specs.Sent.{as_stored, is_sent, records_named, records_now, without_mark}
use Rattle.njh_spoolfile.specs.code.Sending.{short_srcb}
use Rattle.njh_spoolfile.specs.declared.kept.StoredRecord.{StoredRecord}

-- ---- the mark

no_mark : (text : List ℕ) → ((rest : List ℕ) → text ≢ 62 ∷ rest) → is_sent text ≡ false
no_mark [] none = refl
no_mark (c ∷ rest) none =
    false_from_ne_true (c == 62) (λ is. none rest (ap (λ x. x ∷ rest) (eqb-true c 62 is)))

pub mark_seen : (text : List ℕ) (found : Option (Bor (List ℕ)))
    → MatchOption found ((rest : List ℕ) → text ≢ 62 ∷ rest) (λ node. text ≡ 62 ∷ node.now)
    → is_some found ≡ is_sent text
mark_seen text None none = sym (no_mark text none)
mark_seen text (Some node) is = sym (ap is_sent is)

pub stands_so : (kind : Kind) (text : List ℕ) (rs : List Stored) → ((rest : List ℕ) → text ≢ 62 ∷ rest)
    → records_now kind text rs ≡ Some rs
stands_so kind text rs none =
    ap (λ b. cond b (records_named kind (name_of_text (drop 1 text)) rs) (Some rs)) (no_mark text none)

pub no_mark_is : (text : List ℕ) → ((rest : List ℕ) → text ≢ 62 ∷ rest) → text ≡ without_mark text
no_mark_is text none = ap (λ b. cond b (drop 1 text) text) (sym (no_mark text none))

-- ---- one record after the other

abbrev pub all_stored : List StoredRecord → List Stored
all_stored records = map as_stored (map contents_of records)

short_test : (srcb : ℕ) → (short_srcb srcb == 0xe0) ≡ (srcb == 0xe0)
short_test srcb = by (srcb == 0xe0)
  where
    by : (b : Bool) → (cond b 0xe0 0 == 0xe0) ≡ b
    by true = refl
    by false = refl

module _ (kind : Kind) (node : List ℕ) where
  short_is_enough : (k : Kind) (srcb : ℕ) (rs : List Stored)
      → records_to_node k node (Some (short_srcb srcb)) rs ≡ records_to_node k node (Some srcb) rs
  short_is_enough k srcb [] = refl
  short_is_enough In srcb (r ∷ rs) = refl
  short_is_enough Out srcb (r ∷ rs) =
      ap (λ b. redirected_record node
      (cond (has_srcb 0xe0 r && not b) (option_map (λ h. h.place) (result_ok (data_set_header r.bytes))) None) r
      ∷ records_to_node Out node (Some r.srcb) rs) (short_test srcb)

  -- what a record becomes
  abbrev pub becomes : Option ℕ → Stored → Stored
  becomes before r = redirected_record node (destination_place kind before r) r

  one_more : (before : Option ℕ) (xs : List Stored) (n : ℕ) (r : Stored) → n < length xs → r ≡ get_or xs n r
      → let ys = set xs n (becomes before r) in
      take (suc n) ys ++ records_to_node kind node (Some (short_srcb r.srcb)) (drop (suc n) ys)
      ≡ take n xs ++ records_to_node kind node before (drop n xs)
  one_more before [] n r there is = absurd (omega (arith, there))
  one_more before (x ∷ xs) zero r there is =
      ap (λ rs. becomes before r ∷ rs) (short_is_enough kind r.srcb xs)
      ∙ ap (λ (y : Stored). becomes before y ∷ records_to_node kind node (Some y.srcb) xs) is
  one_more before (x ∷ xs) (suc n) r there is =
      ap (λ rs. x ∷ rs) (one_more before xs n r (omega (arith, there)) is)

  -- a record is made to name the node, and those before it were
  pub redirects_one : (before : Option ℕ) (xs : List StoredRecord) (n : ℕ) (old new : StoredRecord) → n < length xs
      → old ≡ get_or xs n old → as_stored (contents_of new) ≡ becomes before (as_stored (contents_of old))
      → let ys = all_stored (set xs n new) in
      take (n + 1) ys ++ records_to_node kind node (Some (short_srcb old.srcb)) (drop (n + 1) ys)
      ≡ take n (all_stored xs) ++ records_to_node kind node before (drop n (all_stored xs))
  redirects_one before xs n old new there is made =
      let r = as_stored (contents_of old) in
      let all = all_stored xs in
      let long : length all ≡ length xs =
      length-map (map contents_of xs) as_stored ∙ length-map xs contents_of in
      let here : r ≡ get_or all n r =
      ap (λ (x : StoredRecord). as_stored (contents_of x)) is ∙ sym (at_place xs n old (omega (arith, there))) in
      let set_is : all_stored (set xs n new) ≡ set all n (becomes before r) =
      ap (map as_stored) (map-set contents_of xs n new) ∙ map-set as_stored (map contents_of xs) n (contents_of new)
      ∙ ap (set all n) made in
      let next : n + 1 ≡ suc n = omega arith in
      (λ i. take (next i) (set_is i)
      ++ records_to_node kind node (Some (short_srcb old.srcb)) (drop (next i) (set_is i)))
      ∙ one_more before all n r (omega (arith, there, long)) here
    where
      at_place : (xs : List StoredRecord) (n : ℕ) (d : StoredRecord) → n < length xs
          → get_or (all_stored xs) n (as_stored (contents_of d)) ≡ as_stored (contents_of (get_or xs n d))
      at_place [] n d there = absurd (omega (arith, there))
      at_place (x ∷ xs) zero d there = refl
      at_place (x ∷ xs) (suc n) d there = at_place xs n d (omega (arith, there))
