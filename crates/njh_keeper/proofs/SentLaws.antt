-- A file that was sent elsewhere: what its row says of its node, and which records stand under its key.
use Rattle.njh_keeper.proofs.Words
use Words.{◌≡◌, ℕ, zero, suc, ◌<◌, ◌≤◌, ◌==◌, ◌⊎◌, inl, inr, Bool, true, false, cond, not, List, [], ◌∷◌, ◌++◌}
use Words.{length}
use Words.{◌&&◌, take, drop, Option, Some, None, Result, Ok, Err, refl, sym, ap, subst, ◌∙◌, arith, take-append-drop}
use Words.{drop_all, take_all, append-nil, nat_lt, nat_tests, AllByRecursion, is_name, name_of_text}
use Words.{NameFault, User, Kind, Stored}
use Words.{SpoolContents, destination_of, records_to_node, said_destination, IsRerouted, FitsHub, HasRecords, IsStored}
use Words.{NameOneNode, records_now, is_sent, with_mark, field_text, front_then}
use Rattle.std.proofs.{Common.⊎_elim, lemmas.Bool.and_parts}
use Rattle.std.specs.{List.list_all, Option.option_map, Prelude.{find, unwrap_or}}
use Rattle.njh_customer.proofs.{GrowingLaws.rerouted_count, SurvivingLaws.rerouted_then}
use Rattle.njh_customer.specs.Surviving.{as_before, to_node}
use Rattle.njh_ebcdic.proofs.{Blanks.is_name-padded, ReadBack.name_of_text-shown_text}
use Rattle.njh_ebcdic.specs.Characters.{bytes_or_blanks, character_of, printed_character, shown_text, table}
use Rattle.njh_ebcdic.specs.{Names.{is_empty, is_name_byte, padded_field, without_end_blanks}, Reading.name_of_word}
use Rattle.{std.specs.Str.chars, njh_spoolfile.specs.Sent.records_named}
use Rattle.njh_ebcdic.specs.declared.name.NameFault.TheVariants.{BadCharacter, Empty, TooLong}
use Rattle.njh_header.proofs.{DestinationRecords.{sent, sent_long, sent_srcb}, Destinations.records_twice}
use Rattle.njh_keeper.proofs.NodeLaws.{AreSentTo, goes_there, last_decides, said_is, sent_names_one}
use Rattle.njh_keeper.specs.code.Following.{IsMarkedWell}
use Rattle.njh_spool.specs.CustomerSpool.{WholeFile}
use Words.{All-from_recursion, StoredRecord, contents_of, as_stored, are_records_from, map}
use Rattle.njh_keeper.{proofs.FileLaws.{Fits-record, fits_each}, specs.code.Restoring.HaveRoom}

-- ---- the mark

-- no character that is shown is the mark
not_shown : (b : ℕ) (pairs : List (ℕ × ℕ)) → list_all (λ pair. not (pair.1 == 62)) pairs ≡ true
    → (unwrap_or (option_map (λ pair. pair.1) (find (λ pair. pair.0 == b) pairs)) 63 == 62) ≡ false
not_shown b [] others = refl
not_shown b (p ∷ pairs) others =
    let each = and_parts (not (p.1 == 62)) (list_all (λ pair. not (pair.1 == 62)) pairs) others in
    at_test (p.0 == b) each.0 (not_shown b pairs each.1)
  where
    isnt : (c : Bool) → not c ≡ true → c ≡ false
    isnt true is = absurd (cc is)
    isnt false is = refl

    at_test : (t : Bool) → not (p.1 == 62) ≡ true
        → (unwrap_or (option_map (λ pair. pair.1) (find (λ pair. pair.0 == b) pairs)) 63 == 62) ≡ false
        → (unwrap_or (option_map (λ pair. pair.1)
        (cond t (Some p) (find (λ pair. pair.0 == b) pairs))) 63 == 62) ≡ false
    at_test true other rest = isnt (p.1 == 62) other
    at_test false other rest = rest

no_mark_shown : (b : ℕ) → (printed_character b == 62) ≡ false
unfolding character_of
no_mark_shown b = not_shown b table refl

no_mark_in : (bytes : List ℕ) → is_sent (field_text bytes) ≡ false
no_mark_in bytes = at_bytes (without_end_blanks bytes)
  where
    at_bytes : (bs : List ℕ) → is_sent (shown_text bs) ≡ false
    at_bytes [] = refl
    at_bytes (b ∷ bs) = no_mark_shown b

pub is_sent_back : (b : Bool) (node : List ℕ) → is_sent (with_mark b (field_text node)) ≡ b
is_sent_back true node = refl
is_sent_back false node = no_mark_in node

-- ---- what a row's text says

module _ (kind : Kind) (rs : List Stored) where
  plain_now : (text : List ℕ) → is_sent text ≡ false → records_now kind text rs ≡ Some rs
  plain_now text none = ap (λ b. cond b (records_named kind (name_of_text (drop 1 text)) rs) (Some rs)) none

  pub plain_text : (node : List ℕ) → records_now kind (with_mark false (field_text node)) rs ≡ Some rs
  plain_text node = plain_now (field_text node) (no_mark_in node)

  pub marked_text : (node : List ℕ) → is_name node ≡ true
      → records_now kind (with_mark true (field_text node)) rs ≡ Some (records_to_node kind node None rs)
  marked_text node named = ap (λ r. records_named kind r rs) (name_of_text-shown_text node named)

-- what reads as a name is one
reads_name : (word node : List ℕ) → name_of_word word ≡ Ok node → is_name node ≡ true
reads_name word node = at_tests (is_empty word) refl (nat_lt 8 (length word)) refl (list_all is_name_byte word) refl
  where
    some : is_empty word ≡ false → 0 < length word
    some = at_word word
      where
        at_word : (w : List ℕ) → is_empty w ≡ false → 0 < length w
        at_word [] is = absurd (cc is)
        at_word (b ∷ bs) is = omega arith

    at_tests : (e : Bool) → is_empty word ≡ e → (l : Bool) → nat_lt 8 (length word) ≡ l → (n : Bool)
        → list_all is_name_byte word ≡ n
        → ◌≡◌ {A = Result (List ℕ) NameFault} (cond e (Err Empty) (cond l (Err TooLong)
        (cond n (Ok (padded_field word)) (Err BadCharacter)))) (Ok node) → is_name node ≡ true
    at_tests true empty l long n named is = absurd (cc is)
    at_tests false empty true long n named is = absurd (cc is)
    at_tests false empty false long false named is = absurd (cc is)
    at_tests false empty false long true named is =
        let same : padded_field word ≡ node = cc is in
        subst (λ w. is_name w ≡ true) same
        (is_name-padded word (some empty) (grind (arith, nat_tests, long)) named)

module _ (kind : Kind) (text : List ℕ) (before now : List Stored) (are : records_now kind text before ≡ Some now) where
  stand_so : is_sent text ≡ false → now ≡ before
  stand_so none = let same : ◌≡◌ {A = Option (List Stored)} (Some before) (Some now) =
      sym (plain_now kind before text none) ∙ are in sym (let inner : before ≡ now = cc same in inner)

  are_sent : is_sent text ≡ true → AreSentTo kind before now
  are_sent marked = at_name (name_of_text (drop 1 text)) refl
      (sym (ap (λ b. cond b (records_named kind (name_of_text (drop 1 text)) before) (Some before)) marked) ∙ are)
    where
      at_name : (r : Result (List ℕ) NameFault) → name_of_text (drop 1 text) ≡ r
          → records_named kind r before ≡ Some now → AreSentTo kind before now
      at_name (Err fault) reads is = absurd (cc is)
      at_name (Ok node) reads is = record {
        node = node;
        named = reads_name (bytes_or_blanks (chars (drop 1 text))) node reads;
        are = (let same : records_to_node kind node None before ≡ now = cc is in sym same);
      }

  pub are_rerouted : IsRerouted kind before now
  are_rerouted = at_mark (is_sent text) refl
    where
      at_mark : (b : Bool) → is_sent text ≡ b → IsRerouted kind before now
      at_mark true marked =
          let s = are_sent marked in
          subst (IsRerouted kind before) (sym s.are)
          (to_node s.node before (records_to_node kind s.node None before) s.named
          (as_before (records_to_node kind s.node None before)))
      at_mark false none = subst (IsRerouted kind before) (sym (stand_so none)) (as_before before)

-- ---- a front of a file's records, and the others as they are now

front_take : (n : ℕ) (xs ys : List Stored) → n ≤ length xs → take n (take n xs ++ ys) ≡ take n xs
front_take zero xs ys within = refl
front_take (suc n) [] ys within = absurd (omega (arith, within))
front_take (suc n) (x ∷ xs) ys within = ap (λ (rs : List Stored). x ∷ rs) (front_take n xs ys (omega (arith, within)))

front_drop : (n : ℕ) (xs ys : List Stored) → n ≤ length xs → drop n (take n xs ++ ys) ≡ ys
front_drop zero xs ys within = refl
front_drop (suc n) [] ys within = absurd (omega (arith, within))
front_drop (suc n) (x ∷ xs) ys within = front_drop n xs ys (omega (arith, within))

module _ (kind : Kind) (node : List ℕ) (named : is_name node ≡ true) where
  -- one that was sent there once is so twice
  mixed_sent : (n : ℕ) (before : Option ℕ) (rs : List Stored)
      → records_to_node kind node before (take n rs ++ drop n (records_to_node kind node before rs))
      ≡ records_to_node kind node before rs
  mixed_sent zero before rs = records_twice kind node node named named before rs
  mixed_sent (suc n) before [] = refl
  mixed_sent (suc n) before (r ∷ rs) =
      ap (λ (xs : List Stored). sent kind before r node ∷ xs) (mixed_sent n (Some r.srcb) rs)

  fit_before : (before : Option ℕ) (rs : List Stored) → AllByRecursion FitsHub (records_to_node kind node before rs)
      → AllByRecursion FitsHub rs
  fit_before before [] fit = tt
  fit_before before (r ∷ rs) fit = (
    (
      subst (λ n. n < 256) (sent_srcb kind before r node) fit.0.0,
      subst (λ n. n ≤ 256) (sent_long kind before r node named) fit.0.1,
    ),
    fit_before (Some r.srcb) rs fit.1,
  )

all_front : (n : ℕ) (xs ys : List Stored) → AllByRecursion FitsHub xs → AllByRecursion FitsHub ys
    → AllByRecursion FitsHub (take n xs ++ ys)
all_front zero xs ys one more = more
all_front (suc n) [] ys one more = more
all_front (suc n) (x ∷ xs) ys one more = (one.0, all_front n xs ys one.1 more)

all_behind : (n : ℕ) (xs : List Stored) → AllByRecursion FitsHub xs → AllByRecursion FitsHub (drop n xs)
all_behind zero xs all = all
all_behind (suc n) [] all = tt
all_behind (suc n) (x ∷ xs) all = all_behind n xs all.1

module _ (kind : Kind) (before now : List Stored) (rerouted : IsRerouted kind before now) where
  pub rerouted_long : length now ≡ length before
  rerouted_long = rerouted_count kind before now rerouted

  module _ (written : ℕ) (within : written ≤ length now) where
    there : written ≤ length before
    there = omega (arith, within, rerouted_long)

    pub begins_so : take written (front_then written before now) ≡ take written before
    begins_so = front_take written before (drop written now) there

    pub goes_on_so : drop written (front_then written before now) ≡ drop written now
    goes_on_so = front_drop written before (drop written now) there

  pub front_fits : (written : ℕ) → AllByRecursion FitsHub now → AllByRecursion FitsHub (front_then written before now)
  front_fits written fit =
      all_front written before (drop written now) (⊎_elim
      (λ (same : now ≡ before). subst (AllByRecursion FitsHub) same fit)
      (λ (s : AreSentTo kind before now). fit_before kind s.node s.named None before
      (subst (AllByRecursion FitsHub) s.are fit)) (last_decides kind before now rerouted))
      (all_behind written now fit)

  pub whole_front : front_then (length before) before now ≡ before
  whole_front =
      (λ i. take_all (length before) before (omega arith) i
      ++ drop_all (length before) now (omega (arith, rerouted_long)) i)
      ∙ append-nil before

  module _ (d : User) (reads : destination_of kind now ≡ Some d) (written : ℕ) where
    abbrev node : List ℕ
    node = (said_destination kind now).node

    abbrev file : List Stored
    file = front_then written before now

    as_now : now ≡ before → file ≡ now
    as_now same = subst (λ rs. front_then written rs now ≡ now) same (take-append-drop written now)

    node_is : (s : AreSentTo kind before now) → s.node ≡ node
    node_is s = sym (said_is kind now d reads ∙ goes_there kind before now d reads s)

    one_now : NameOneNode kind now → is_name node ≡ true → records_to_node kind node None file ≡ now
    one_now one named = ⊎_elim
        (λ (same : now ≡ before). ap (records_to_node kind node None) (as_now same) ∙ one)
        (λ (s : AreSentTo kind before now).
        let is : now ≡ records_to_node kind node None before =
        s.are ∙ ap (λ n. records_to_node kind n None before) (node_is s) in
        ap (λ rs. records_to_node kind node None (take written before ++ drop written rs)) is
        ∙ mixed_sent kind node named written None before ∙ sym is) (last_decides kind before now rerouted)

    plain_so : (written ≡ 0) ⊎ ((NameOneNode kind now → ⊥) ⊎ (is_name node ≡ false)) → file ≡ now
    plain_so why = ⊎_elim as_now (λ (s : AreSentTo kind before now). ⊎_elim
        (λ (none : written ≡ 0). ap (λ n. front_then n before now) none)
        (λ (other : (NameOneNode kind now → ⊥) ⊎ (is_name node ≡ false)). ⊎_elim
        (λ (several : NameOneNode kind now → ⊥). absurd (several (sent_names_one kind before now d reads s)))
        (λ (no_name : is_name node ≡ false). absurd
        (let never : true ≡ false = sym s.named ∙ ap is_name (node_is s) ∙ no_name in cc never)) other) why)
        (last_decides kind before now rerouted)

    -- what its row says is so
    pub becomes_stored : (key : ℕ) (spool : SpoolContents) (b : Bool)
        → (b ≡ true → NameOneNode kind now × (is_name node ≡ true))
        → (b ≡ false → (written ≡ 0) ⊎ ((NameOneNode kind now → ⊥) ⊎ (is_name node ≡ false)))
        → HasRecords key file spool → AllByRecursion FitsHub file
        → IsStored spool key kind (with_mark b (field_text node)) now
    becomes_stored key spool true marked plain stored fits = record {
      before = file;
      stored = stored;
      fits = fits;
      are = marked_text kind file node (marked refl).1 ∙ ap Some (one_now (marked refl).0 (marked refl).1);
    }
    becomes_stored key spool false marked plain stored fits = record {
      before = file;
      stored = stored;
      fits = fits;
      are = plain_text kind file node ∙ ap Some (plain_so (plain refl));
    }

-- ---- a file's row is written anew

module _ (spool : SpoolContents) (key : ℕ) (kind : Kind) (text : List ℕ) (now : List Stored)
    (stored : IsStored spool key kind text now) where
  -- and says of its node what it said
  pub still_stored : (d : User) → destination_of kind now ≡ Some d → (b : Bool) → is_sent text ≡ b
      → IsStored spool key kind (with_mark b (field_text (said_destination kind now).node)) now
  still_stored d reads true marked =
      let s = are_sent kind text stored.before now stored.are marked in
      let node = (said_destination kind now).node in
      let is : s.node ≡ node = sym (said_is kind now d reads ∙ goes_there kind stored.before now d reads s) in
      record {
        before = stored.before;
        stored = stored.stored;
        fits = stored.fits;
        are = marked_text kind stored.before node (ap is_name (sym is) ∙ s.named)
            ∙ ap Some (ap (λ n. records_to_node kind n None stored.before) (sym is) ∙ sym s.are);
      }
  still_stored d reads false none =
      record {
        before = stored.before;
        stored = stored.stored;
        fits = stored.fits;
        are = plain_text kind stored.before (said_destination kind now).node
            ∙ ap Some (sym (stand_so kind text stored.before now stored.are none));
      }

  -- and says that it was sent elsewhere
  pub sent_stored : (after : List Stored) → IsRerouted kind now after → (d : User)
      → destination_of kind after ≡ Some d → NameOneNode kind after
      → IsStored spool key kind
      (with_mark (is_name (said_destination kind after).node) (field_text (said_destination kind after).node)) after
  sent_stored after rerouted d reads one =
      let before = stored.before in
      let all = rerouted_then kind before now after (are_rerouted kind text before now stored.are) rerouted in
      let whole = whole_front kind before after all in
      becomes_stored kind before after all d reads (length before) key spool
      (is_name (said_destination kind after).node) (λ named. (one, named)) (λ no_name. inr (inr no_name))
      (subst (λ rs. HasRecords key rs spool) (sym whole) stored.stored)
      (subst (AllByRecursion FitsHub) (sym whole) stored.fits)

-- ---- a file that becomes whole

pub added_stored : (g : WholeFile) (d : User) → destination_of g.kind g.records ≡ Some d → (before : List Stored)
    → IsRerouted g.kind before g.records → (written key : ℕ) (b : Bool) → IsMarkedWell b written g
    → (spool : SpoolContents) → HasRecords key (front_then written before g.records) spool
    → AllByRecursion FitsHub (front_then written before g.records)
    → IsStored spool key g.kind (with_mark b (field_text (said_destination g.kind g.records).node)) g.records
added_stored g d reads before rerouted written key b well spool stored fits =
    becomes_stored g.kind before g.records rerouted d reads written key spool b
    (λ is. let may = well.marked is in (may.one, may.name)) well.plain stored fits

-- where its row is marked so
pub marked_well : (g : WholeFile) (written : ℕ) (mixed b : Bool)
    → b ≡ (nat_lt 0 written && (not mixed && is_name (said_destination g.kind g.records).node))
    → (mixed ≡ false → NameOneNode g.kind g.records) → (mixed ≡ true → ¬ NameOneNode g.kind g.records)
    → IsMarkedWell b written g
marked_well g written mixed b is one several =
    by (nat_lt 0 written) refl mixed refl (is_name (said_destination g.kind g.records).node) refl is
  where
    none : (n : ℕ) → nat_lt 0 n ≡ false → n ≡ 0
    none n is = grind (arith, nat_tests, is)

    by : (w : Bool) → nat_lt 0 written ≡ w → (m : Bool) → mixed ≡ m → (n : Bool)
        → is_name (said_destination g.kind g.records).node ≡ n → b ≡ (w && (not m && n)) → IsMarkedWell b written g
    by false begun m are n named is = record {
      marked = λ said. absurd (let never : true ≡ false = sym said ∙ is in cc never);
      plain = λ _. inl (none written begun);
    }
    by true begun true are n named is = record {
      marked = λ said. absurd (let never : true ≡ false = sym said ∙ is in cc never);
      plain = λ _. inr (inl (several are));
    }
    by true begun false are false named is = record {
      marked = λ said. absurd (let never : true ≡ false = sym said ∙ is in cc never);
      plain = λ _. inr (inr named);
    }
    by true begun false are true named is = record {
      marked = λ _. record { one = one are; name = named };
      plain = λ said. absurd (let never : true ≡ false = sym is ∙ said in cc never);
    }

-- ---- records that were read

module _ (kind : Kind) (node : List ℕ) (named : is_name node ≡ true) where
  fit_after : (before : Option ℕ) (rs : List Stored) → AllByRecursion FitsHub rs
      → AllByRecursion FitsHub (records_to_node kind node before rs)
  fit_after before [] fit = tt
  fit_after before (r ∷ rs) fit = (
    (
      subst (λ n. n < 256) (sym (sent_srcb kind before r node)) fit.0.0,
      subst (λ n. n ≤ 256) (sym (sent_long kind before r node named)) fit.0.1,
    ),
    fit_after (Some r.srcb) rs fit.1,
  )

fit_there : (rs : List StoredRecord) → AllByRecursion Fits-record rs
    → AllByRecursion FitsHub (map as_stored (map contents_of rs))
fit_there [] fit = tt
fit_there (r ∷ rs) fit = (fit.0, fit_there rs fit.1)

fit_back : (rs : List StoredRecord) → AllByRecursion FitsHub (map as_stored (map contents_of rs))
    → AllByRecursion Fits-record rs
fit_back [] fit = tt
fit_back (r ∷ rs) fit = (fit.0, fit_back rs fit.1)

-- they have room as they are now
pub has_room : (kind : Kind) (text : List ℕ) (before now : List StoredRecord)
    → are_records_from 0 (map contents_of before) ≡ true
    → records_now kind text (map as_stored (map contents_of before)) ≡ Some (map as_stored (map contents_of now))
    → HaveRoom now
has_room kind text before now all are =
    let first = map as_stored (map contents_of before) in
    let last = map as_stored (map contents_of now) in
    let fit : AllByRecursion FitsHub first = fit_there before (fits_each 0 before all) in
    All-from_recursion Fits-record now (fit_back now (⊎_elim
    (λ (same : last ≡ first). subst (AllByRecursion FitsHub) (sym same) fit)
    (λ (s : AreSentTo kind first last). subst (AllByRecursion FitsHub) (sym s.are)
    (fit_after kind s.node s.named None first fit))
    (last_decides kind first last (are_rerouted kind text first last are))))
