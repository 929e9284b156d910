-- Bytes of which a field is another, and a header of which a field of its general section is.
use Rattle.std.proofs.Common.{◌≡◌, ℕ, ◌+◌, ◌≤◌, ◌==◌, ◌&&◌, Bool, true, false, List, ◌++◌, length, take, drop}
use Rattle.std.proofs.Common.{refl, sym, ap, ◌∙◌, arith, rules, append_assoc, length-drop, length-append, eqb-true}
use Rattle.std.specs.List.{flat_map}
use Rattle.std.proofs.lemmas.List.{drop-drop, same_lists, places, length-take-le, take-append-drop}
use Rattle.njh_ebcdic.specs.Names.{is_name}
use Rattle.njh_record.specs.Bytes.{field, with_field, number_at}
use Rattle.njh_header.specs.Sections.{HasGeneral}
use Rattle.njh_header.proofs.Fields.{field_at, number_at-take, number_at-append}

-- a name is eight bytes
pub name_eight : (node : List ℕ) → is_name node ≡ true → length node ≡ 8
name_eight node named = at_test (length node == 8) _ refl named
  where
    at_test : (eight more : Bool) → (length node == 8) ≡ eight → (eight && more) ≡ true → length node ≡ 8
    at_test true more is e = eqb-true (length node) 8 is
    at_test false more is e = absurd (cc e)

module _ (at : ℕ) (new bytes : List ℕ) where
  -- a number before the field
  number_before : (k : ℕ) → k + 2 ≤ at → at ≤ length bytes → number_at k (with_field at new bytes) ≡ number_at k bytes
  number_before k before within =
      let front = length-take-le at bytes within in
      (ap (number_at k) (append_assoc (take at bytes) new (drop (at + length new) bytes))
      ∙ number_at-append k (take at bytes) (new ++ drop (at + length new) bytes) (omega arith))
      ∙ number_at-take k at bytes before

  -- a field before it
  pub field_before : (k size : ℕ) → k + size ≤ at → at ≤ length bytes
      → field k size (with_field at new bytes) ≡ field k size bytes
  field_before k size before within =
      let front = length-take-le at bytes within in
      same_lists _ _ (search (rules, places)) (λ i d h. grind (arith, places))

  -- itself
  pub field_itself : at ≤ length bytes → length new ≡ 8 → field at 8 (with_field at new bytes) ≡ new
  field_itself within eight =
      ap (field at 8) (append_assoc (take at bytes) new (drop (at + length new) bytes))
      ∙ field_at (take at bytes) new (drop (at + length new) bytes) at 8 (length-take-le at bytes within) eight

  pub length_still : at + length new ≤ length bytes → length (with_field at new bytes) ≡ length bytes
  length_still within =
      let front = length-take-le at bytes (omega arith) in
      let back = length-drop (at + length new) bytes in
      let two = length-append (take at bytes) new in
      let all = length-append (take at bytes ++ new) (drop (at + length new) bytes) in
      omega arith

  -- the last one stays
  pub field_twice : (old : List ℕ) → length new ≡ 8 → length old ≡ 8 → at + 8 ≤ length bytes
      → with_field at new (with_field at old bytes) ≡ with_field at new bytes
  field_twice old eight also within =
      let front = length-take-le at bytes (omega arith) in
      let long : length (with_field at old bytes) ≡ length bytes =
      (let some = length-append (take at bytes) old in
      omega (
        arith,
        length-append (take at bytes ++ old) (drop (at + length old) bytes),
        length-drop (at + length old) bytes,
      )) in
      same_lists _ _ (search (rules, places)) (λ i d h. grind (arith, places))

pub field_eight : (at : ℕ) (bytes : List ℕ) → at + 8 ≤ length bytes → length (field at 8 bytes) ≡ 8
field_eight at bytes within = length-take-le 8 (drop at bytes) (omega (arith, within, length-drop at bytes))

-- what is there already changes nothing
pub field_stays : (at : ℕ) (bytes : List ℕ) → at + 8 ≤ length bytes → with_field at (field at 8 bytes) bytes ≡ bytes
field_stays at bytes within =
    ap (λ n. take at bytes ++ field at 8 bytes ++ drop (at + n) bytes) (field_eight at bytes within)
    ∙ ap (λ rest. take at bytes ++ field at 8 bytes ++ rest) (sym (drop-drop 8 at bytes))
    ∙ append_assoc (take at bytes) (field at 8 bytes) (drop 8 (drop at bytes))
    ∙ ap (λ rest. take at bytes ++ rest) (take-append-drop 8 (drop at bytes))
    ∙ take-append-drop at bytes

-- a field behind some bytes
field_after : (at : ℕ) (new front rest : List ℕ)
    → with_field (length front + at) new (front ++ rest) ≡ front ++ with_field at new rest
field_after at new front rest = same_lists _ _ (search (rules, places)) (λ i d h. grind (arith, places))

module _ (size at : ℕ) (bytes : List ℕ) (place : ℕ) (general : HasGeneral size bytes place) where
  -- the section is where it was
  pub general_still : (new : List ℕ) → 4 ≤ at → at + length new ≤ size
      → HasGeneral size (with_field (place + at) new bytes) place
  general_still new low within =
      let passes = general.passes in
      let sections : List ℕ = flat_map (λ section. section) passes.sections in
      let front : List ℕ = passes.before ++ sections in
      let long : place ≡ length front = omega (arith, passes.four, passes.end, length-append passes.before sections) in
      let number = number_before at new general.rest 0 (omega arith) (omega (arith, general.whole)) in
      let kind = number_before at new general.rest 2 (omega arith) (omega (arith, general.whole)) in
      let same = length_still at new general.rest (omega (arith, general.whole)) in
      record {
        rest = with_field at new general.rest;
        passes = record {
          before = passes.before;
          four = passes.four;
          sections = passes.sections;
          others = passes.others;
          parts =
              ap (with_field (place + at) new) (passes.parts)
              ∙ ap (λ (p : ℕ). with_field (p + at) new (front ++ general.rest)) long
              ∙ field_after at new front general.rest;
          end = passes.end;
        };
        begins = record {
          head = omega (arith, same, general.begins.head);
          length_field = omega (arith, number, general.begins.length_field);
          kind = kind ∙ general.begins.kind;
        };
        long_enough = omega (arith, number, general.long_enough);
        whole = omega (arith, same, general.whole);
      }

  -- bytes up to a place in it
  pub within_general : at ≤ size → place + at ≤ length bytes
  within_general inside =
      let passes = general.passes in
      let sections : List ℕ = flat_map (λ section. section) passes.sections in
      let front = length-append passes.before sections in
      let all = length-append (passes.before ++ sections) general.rest in
      omega (arith, passes.four, passes.end, general.whole, ap length passes.parts)
