-- A reader of TTBs, one byte after another: what it has read is a splitting of the bytes, and what a rest gives is what
-- is heard of the items that it reads.
use Rattle.std.proofs.Common.{◌≡◌, ℕ, ◌+◌, ◌-◌, ◌<◌, ◌≤◌, ◌==◌, List, [], ◌∷◌, ◌++◌, length, Bool, true, false, refl, ap}
use Rattle.std.proofs.Common.{if◌then◌else◌, sym, ◌∙◌, arith, append_assoc, append-nil, length-append, lit<, subst}
use Rattle.std.specs.Prelude.{flat_map, nat_lt, Option, Some, None}
use Rattle.std.specs.List.{AllByRecursion, cons_option}
use Rattle.std.specs.Option.{option_to_list}
use Rattle.std.proofs.lemmas.Bool.{eqb-true, eqb-false, ltb-true, ltb-false}
use Rattle.std.proofs.lemmas.List.{map-append}
use Rattle.std.proofs.lemmas.List.Concat.{flat_map-append}
use Rattle.njh_tcp.specs.Limits.{ttb_head, ttr_head, shortest_ttb, longest_ttr}
use Rattle.njh_tcp.specs.Faults.{head_fault}
use Rattle.njh_tcp.specs.Blocks.{length_in, Ttr, bytes_of_ttr, IsTtr, Ttb, bytes_of_ttrs, bytes_of_ttb, IsTtb, Partial}
use Rattle.njh_tcp.specs.Blocks.{in_head, in_ttr_head, in_ttr, wrong_head, wrong_ttr_head, bytes_of_partial, IsPartial}
use Rattle.njh_tcp.specs.Blocks.{bytes_behind, HasBegun, Item, Whole, Wrong, items_of_ttrs, wrong_items}
use Rattle.njh_tcp.specs.Blocks.{items_of_partial, items_of}
use Rattle.njh_tcp.specs.declared.fault.TtbFault.{TtbFault}
use Rattle.njh_tcp.specs.declared.fault.TtbFault.TheVariants.{ShortTtb, EarlyEnd, LongTtr, PastEnd}

-- what a byte ends, a TTB or an item or neither, and what has come then
pub record Step : Type 0 where
  pub ttb : Option Ttb
  pub item : Option Item
  pub partial : Partial

abbrev pub goes_on : Partial → Step
goes_on partial = record { ttb = None; item = None; partial = partial }

abbrev pub tells : Item → Partial → Step
tells item partial = record { ttb = None; item = Some item; partial = partial }

abbrev pub closes : Ttb → Step
closes ttb = record { ttb = Some ttb; item = None; partial = in_head [] }

-- so much of a part of n bytes: it goes on, or it is whole
abbrev pub came : (List ℕ → Partial) → ℕ → (List ℕ → Step) → List ℕ → Step
came part n whole bytes = if nat_lt (length bytes) n then goes_on (part bytes) else whole bytes

abbrev pub whole_head : List ℕ → Step
whole_head head =
    if nat_lt (length_in head) shortest_ttb then tells (Wrong (ShortTtb (length_in head))) (wrong_head head [])
    else goes_on (in_ttr_head head [] [])

abbrev pub fitted : List ℕ → List Ttr → List ℕ → Option TtbFault → Step
fitted head ttrs next (Some fault) = tells (Wrong fault) (wrong_ttr_head head ttrs next [])
fitted head ttrs next None =
    if length_in next == 0 then closes (record { head = head; ttrs = ttrs; end = next })
    else goes_on (in_ttr head ttrs next [])

abbrev pub whole_next : List ℕ → List Ttr → List ℕ → Step
whole_next head ttrs next = fitted head ttrs next (head_fault (bytes_behind head ttrs) (length_in next))

abbrev pub whole_data : List ℕ → List Ttr → List ℕ → List ℕ → Step
whole_data head ttrs next held =
    tells (Whole held) (in_ttr_head head (ttrs ++ record { head = next; held = held } ∷ []) [])

abbrev pub step : Partial → ℕ → Step
step (in_head part) byte = came in_head ttb_head whole_head (part ++ byte ∷ [])
step (in_ttr_head head ttrs part) byte =
    came (in_ttr_head head ttrs) ttr_head (whole_next head ttrs) (part ++ byte ∷ [])
step (in_ttr head ttrs next part) byte =
    came (in_ttr head ttrs next) (length_in next) (whole_data head ttrs next) (part ++ byte ∷ [])
step (wrong_head head after) byte = goes_on (wrong_head head (after ++ byte ∷ []))
step (wrong_ttr_head head ttrs next after) byte = goes_on (wrong_ttr_head head ttrs next (after ++ byte ∷ []))

-- what bytes after a rest read as
pub record Run : Type 0 where
  pub ttbs : List Ttb
  pub items : List Item
  pub partial : Partial

abbrev pub after_step : Step → Run → Run
after_step s run =
    record { ttbs = cons_option s.ttb run.ttbs; items = cons_option s.item run.items; partial = run.partial }

abbrev pub run : Partial → List ℕ → Run
run partial [] = record { ttbs = []; items = []; partial = partial }
run partial (byte ∷ bytes) = after_step (step partial byte) (run (step partial byte).partial bytes)

-- A step keeps the bytes and reads what the grammar allows: `bytes` are those of the rest with one more.
pub record Keeps (bytes : List ℕ) (items : List Item) (s : Step) : Type 0 where
  pub whole : bytes ≡ flat_map bytes_of_ttb (option_to_list s.ttb) ++ bytes_of_partial s.partial
  pub each : AllByRecursion IsTtb (option_to_list s.ttb)
  pub last : IsPartial s.partial
  pub told : items ++ option_to_list s.item ≡ items_of (option_to_list s.ttb) s.partial

-- one byte of a part
came_at : (bytes part : List ℕ) (items : List Item) (of : List ℕ → Partial) (n : ℕ) (whole : List ℕ → Step)
    (test : Bool) → nat_lt (length part) n ≡ test
    → (length part < n → Keeps bytes items (goes_on (of part)))
    → (n ≤ length part → Keeps bytes items (whole part))
    → Keeps bytes items (if test then goes_on (of part) else whole part)
came_at bytes part items of n whole true is more ends = more (ltb-true (length part) n is)
came_at bytes part items of n whole false is more ends = ends (ltb-false (length part) n is)

keeps-came : (bytes part : List ℕ) (items : List Item) (of : List ℕ → Partial) (n : ℕ) (whole : List ℕ → Step)
    → (length part < n → Keeps bytes items (goes_on (of part)))
    → (n ≤ length part → Keeps bytes items (whole part)) → Keeps bytes items (came of n whole part)
keeps-came bytes part items of n whole more ends =
    came_at bytes part items of n whole (nat_lt (length part) n) refl more ends

keeps-test : (bytes : List ℕ) (items : List Item) (s s' : Step) (test : Bool)
    → (test ≡ true → Keeps bytes items s) → (test ≡ false → Keeps bytes items s')
    → Keeps bytes items (if test then s else s')
keeps-test bytes items s s' true same other = same refl
keeps-test bytes items s s' false same other = other refl

-- nothing ended
keeps-on : (bytes : List ℕ) (items : List Item) (partial : Partial) → bytes ≡ bytes_of_partial partial
    → IsPartial partial → items ≡ items_of_partial partial → Keeps bytes items (goes_on partial)
keeps-on bytes items partial whole last told =
    record { whole = whole; each = tt; last = last; told = append-nil items ∙ told }

-- the length of a part with one more byte, which was less than n
one_longer : (part : List ℕ) (byte n : ℕ) → length part < n → n ≤ length (part ++ byte ∷ [])
    → length (part ++ byte ∷ []) ≡ n
one_longer part byte n less full = omega (arith, length-append part (byte ∷ []))

keeps-head : (head : List ℕ) → length head ≡ ttb_head → Keeps head [] (whole_head head)
keeps-head head size =
    keeps-test head [] _ _ (nat_lt (length_in head) shortest_ttb)
    (λ short. record {
      whole = sym (append-nil head);
      each = tt;
      last = (size, ltb-true (length_in head) shortest_ttb short);
      told = refl;
    })
    (λ long. keeps-on head [] (in_ttr_head head [] []) (sym (append-nil (head ++ []) ∙ append-nil head)) (
      record { size = size; each = tt; room = ltb-false (length_in head) shortest_ttb long },
      lit< tt,
    ) refl)

-- what the head of a TTR may tell
abbrev no_fault : Option TtbFault
no_fault = None

end_at : (behind : ℕ) (none : Bool) → (behind == 0) ≡ none
    → (if none then no_fault else Some (EarlyEnd behind)) ≡ no_fault → behind ≡ 0
end_at behind true is fits = eqb-true behind 0 is
end_at behind false is fits = cc

pub end_fits : (behind size : ℕ) → size ≡ 0 → head_fault behind size ≡ None → behind ≡ 0
end_fits behind size none fits =
    end_at behind (behind == 0) refl (rw none at fits)

-- the data are not too long, and the end has room behind them
pub record DataFit (behind size : ℕ) : Type 0 where
  pub short : size ≤ longest_ttr
  pub room : size + ttr_head ≤ behind

data_at : (behind size : ℕ) (none long past : Bool) → 0 < size → (size == 0) ≡ none
    → nat_lt longest_ttr size ≡ long → nat_lt behind (size + 4) ≡ past
    → (if none then (if behind == 0 then no_fault else Some (EarlyEnd behind)) else
    if long then Some (LongTtr size) else if past then Some (PastEnd size (behind - 4)) else no_fault) ≡ no_fault
    → DataFit behind size
data_at behind size true long past some is_none is_long is_past fits =
    absurd (omega (arith, eqb-true size 0 is_none))
data_at behind size false true past some is_none is_long is_past fits = cc
data_at behind size false false true some is_none is_long is_past fits = cc
data_at behind size false false false some is_none is_long is_past fits =
    record { short = ltb-false longest_ttr size is_long; room = ltb-false behind (size + 4) is_past }

pub data_fit : (behind size : ℕ) → 0 < size → head_fault behind size ≡ None → DataFit behind size
data_fit behind size some fits =
    data_at behind size (size == 0) (nat_lt longest_ttr size) (nat_lt behind (size + 4)) some refl refl refl fits

-- the end of a TTB
ends-ttb : (head : List ℕ) (ttrs : List Ttr) (next : List ℕ) → HasBegun head ttrs → length next ≡ ttr_head
    → head_fault (bytes_behind head ttrs) (length_in next) ≡ None → length_in next ≡ 0
    → IsTtb (record { head = head; ttrs = ttrs; end = next })
ends-ttb head ttrs next begun size fits none =
    let behind = end_fits (bytes_behind head ttrs) (length_in next) none fits in
    record {
      size = begun.size;
      tells = omega (
        arith,
        begun.room,
        begun.size,
        size,
        behind,
        length-append (head ++ bytes_of_ttrs ttrs) next,
        length-append head (bytes_of_ttrs ttrs),
      );
      each = begun.each;
      end_size = size;
      end_tells = none;
    }

keeps-fitted : (head : List ℕ) (ttrs : List Ttr) (next : List ℕ) (fault : Option TtbFault) → HasBegun head ttrs
    → length next ≡ ttr_head → head_fault (bytes_behind head ttrs) (length_in next) ≡ fault
    → Keeps (head ++ bytes_of_ttrs ttrs ++ next) (items_of_ttrs ttrs) (fitted head ttrs next fault)
keeps-fitted head ttrs next (Some fault) begun size is = record {
  whole = sym (append-nil (head ++ bytes_of_ttrs ttrs ++ next));
  each = tt;
  last = (begun, size, rw is refl);
  told = ap (λ o. items_of_ttrs ttrs ++ wrong_items o) (sym is);
}
keeps-fitted head ttrs next None begun size is =
    let bytes = head ++ bytes_of_ttrs ttrs ++ next in
    let items = items_of_ttrs ttrs in
    keeps-test bytes items _ _ (length_in next == 0)
    (λ none. record {
      whole = sym (append-nil (bytes ++ []) ∙ append-nil bytes);
      each = (ends-ttb head ttrs next begun size is (eqb-true (length_in next) 0 none), tt);
      last = lit< tt;
      told = append-nil items ∙ sym (append-nil (items ++ []) ∙ append-nil items);
    })
    (λ some. keeps-on bytes items (in_ttr head ttrs next []) (sym (append-nil bytes)) (
      begun,
      size,
      is,
      omega (arith, eqb-false (length_in next) 0 some),
    ) refl)

each-push : (ttrs : List Ttr) (ttr : Ttr) → AllByRecursion IsTtr ttrs → IsTtr ttr
    → AllByRecursion IsTtr (ttrs ++ ttr ∷ [])
each-push [] ttr each is = (is, tt)
each-push (first ∷ ttrs) ttr each is = (each.0, each-push ttrs ttr each.1 is)

-- one TTR more
pub bytes-push : (ttrs : List Ttr) (ttr : Ttr)
    → bytes_of_ttrs (ttrs ++ ttr ∷ []) ≡ bytes_of_ttrs ttrs ++ bytes_of_ttr ttr
bytes-push ttrs ttr =
    flat_map-append bytes_of_ttr ttrs (ttr ∷ [])
    ∙ ap (λ bytes. bytes_of_ttrs ttrs ++ bytes) (append-nil (bytes_of_ttr ttr))

pub length-push : (ttrs : List Ttr) (ttr : Ttr) → length (bytes_of_ttrs (ttrs ++ ttr ∷ []))
    ≡ length (bytes_of_ttrs ttrs) + (length ttr.head + length ttr.held)
length-push ttrs ttr =
    ap (length {A = ℕ}) (bytes-push ttrs ttr)
    ∙ (length-append (bytes_of_ttrs ttrs) (bytes_of_ttr ttr)
    ∙ ap (λ n. length (bytes_of_ttrs ttrs) + n) (length-append ttr.head ttr.held))

pub begun-push : (head : List ℕ) (ttrs : List Ttr) (ttr : Ttr) → HasBegun head ttrs → length ttr.head ≡ ttr_head
    → length_in ttr.head ≡ length ttr.held → 0 < length ttr.held
    → head_fault (bytes_behind head ttrs) (length_in ttr.head) ≡ None → HasBegun head (ttrs ++ ttr ∷ [])
begun-push head ttrs ttr begun size says some fits =
    let fit = data_fit (bytes_behind head ttrs) (length_in ttr.head) (omega (arith, some, says)) fits in
    record {
      size = begun.size;
      each = each-push ttrs ttr begun.each (record {
        size = size;
        tells = says;
        some = some;
        short = omega (arith, fit.short, says);
      });
      room = omega (arith, fit.room, begun.room, size, says, length-push ttrs ttr);
    }

keeps-data : (head : List ℕ) (ttrs : List Ttr) (next held : List ℕ) → HasBegun head ttrs → length next ≡ ttr_head
    → head_fault (bytes_behind head ttrs) (length_in next) ≡ None → length held ≡ length_in next → 0 < length held
    → Keeps (head ++ bytes_of_ttrs ttrs ++ next ++ held) (items_of_ttrs ttrs) (whole_data head ttrs next held)
keeps-data head ttrs next held begun size fits full some =
    let ttr : Ttr = record { head = next; held = held } in
    record {
      whole = rw bytes-push (simp (append_assoc, append-nil));
      each = tt;
      last = (begun-push head ttrs ttr begun size (sym full) some fits, lit< tt);
      told = sym (map-append (λ ttr'. Whole ttr'.held) ttrs (ttr ∷ []));
    }

-- the same, of the same bytes
moved : (bytes others : List ℕ) (items : List Item) (s : Step) → bytes ≡ others → Keeps others items s
    → Keeps bytes items s
moved bytes others items s same keeps = subst (λ (l : List ℕ). Keeps l items s) (sym same) keeps

pub keeps : (partial : Partial) (byte : ℕ) → IsPartial partial
    → Keeps (bytes_of_partial partial ++ byte ∷ []) (items_of_partial partial) (step partial byte)
keeps (in_head part) byte is =
    let head = part ++ byte ∷ [] in
    keeps-came head head [] in_head ttb_head whole_head (λ less. keeps-on head [] (in_head head) refl less refl)
    (λ full. keeps-head head (one_longer part byte ttb_head is full))
keeps (in_ttr_head head ttrs part) byte is =
    let next = part ++ byte ∷ [] in
    let bytes = head ++ bytes_of_ttrs ttrs ++ next in
    moved _ bytes _ _ (append_assoc (head ++ bytes_of_ttrs ttrs) part (byte ∷ []))
    (keeps-came bytes next (items_of_ttrs ttrs) (in_ttr_head head ttrs) ttr_head (whole_next head ttrs)
    (λ less. keeps-on bytes (items_of_ttrs ttrs) (in_ttr_head head ttrs next) refl (is.0, less) refl)
    (λ full. keeps-fitted head ttrs next (head_fault (bytes_behind head ttrs) (length_in next)) is.0
    (one_longer part byte ttr_head is.1 full) refl))
keeps (in_ttr head ttrs next part) byte is =
    let held = part ++ byte ∷ [] in
    let bytes = head ++ bytes_of_ttrs ttrs ++ next ++ held in
    moved _ bytes _ _ (append_assoc (head ++ bytes_of_ttrs ttrs ++ next) part (byte ∷ []))
    (keeps-came bytes held (items_of_ttrs ttrs) (in_ttr head ttrs next) (length_in next) (whole_data head ttrs next)
    (λ less. keeps-on bytes (items_of_ttrs ttrs) (in_ttr head ttrs next held) refl (is.0, is.1, is.2, less) refl)
    (λ full. keeps-data head ttrs next held is.0 is.1 is.2 (one_longer part byte (length_in next) is.3 full)
    (omega (arith, length-append part (byte ∷ [])))))
keeps (wrong_head head after) byte is =
    keeps-on _ (items_of_partial (wrong_head head after)) (wrong_head head (after ++ byte ∷ []))
    (append_assoc head after (byte ∷ [])) is refl
keeps (wrong_ttr_head head ttrs next after) byte is =
    keeps-on _ (items_of_partial (wrong_ttr_head head ttrs next after))
    (wrong_ttr_head head ttrs next (after ++ byte ∷ []))
    (append_assoc (head ++ bytes_of_ttrs ttrs ++ next) after (byte ∷ [])) is refl

-- A run keeps the bytes and reads what the grammar allows.
pub record RunsAs (partial : Partial) (bytes : List ℕ) (r : Run) : Type 0 where
  pub whole : bytes_of_partial partial ++ bytes ≡ flat_map bytes_of_ttb r.ttbs ++ bytes_of_partial r.partial
  pub each : AllByRecursion IsTtb r.ttbs
  pub last : IsPartial r.partial
  pub told : items_of_partial partial ++ r.items ≡ items_of r.ttbs r.partial

-- what a byte makes of a front, and what the bytes after it make of that
joined : {A : Type 0} (front next read read_later last one_more later : List A) → front ++ one_more ≡ read ++ next
    → next ++ later ≡ read_later ++ last → front ++ (one_more ++ later) ≡ (read ++ read_later) ++ last
joined front next read read_later last one_more later one more =
    sym (append_assoc front one_more later)
    ∙ (ap (λ l. l ++ later) one ∙ (append_assoc read next later
    ∙ (ap (λ l. read ++ l) more ∙ sym (append_assoc read read_later last))))

flat-cons : {A : Type 0} (bytes : Ttb → List A) (ttb : Option Ttb) (ttbs : List Ttb)
    → flat_map bytes (option_to_list ttb) ++ flat_map bytes ttbs ≡ flat_map bytes (cons_option ttb ttbs)
flat-cons bytes None ttbs = refl
flat-cons bytes (Some ttb) ttbs = ap (λ l. l ++ flat_map bytes ttbs) (append-nil (bytes ttb))

list-cons : (item : Option Item) (items : List Item) → option_to_list item ++ items ≡ cons_option item items
list-cons None items = refl
list-cons (Some item) items = refl

each-cons : (ttb : Option Ttb) (ttbs : List Ttb) → AllByRecursion IsTtb (option_to_list ttb)
    → AllByRecursion IsTtb ttbs → AllByRecursion IsTtb (cons_option ttb ttbs)
each-cons None ttbs one more = more
each-cons (Some ttb) ttbs one more = (one.0, more)

pub runs_as : (partial : Partial) (bytes : List ℕ) → IsPartial partial → RunsAs partial bytes (run partial bytes)
runs_as partial [] is = record {
  whole = append-nil (bytes_of_partial partial);
  each = tt;
  last = is;
  told = append-nil (items_of_partial partial);
}
runs_as partial (byte ∷ bytes) is =
    let s = step partial byte in
    let one = keeps partial byte is in
    let later = run s.partial bytes in
    let more = runs_as s.partial bytes one.last in
    record {
      whole = joined (bytes_of_partial partial) (bytes_of_partial s.partial)
          (flat_map bytes_of_ttb (option_to_list s.ttb)) (flat_map bytes_of_ttb later.ttbs)
          (bytes_of_partial later.partial) (byte ∷ []) bytes one.whole more.whole
          ∙ ap (λ l. l ++ bytes_of_partial later.partial) (flat-cons bytes_of_ttb s.ttb later.ttbs);
      each = each-cons s.ttb later.ttbs one.each more.each;
      last = more.last;
      told = ap (λ l. items_of_partial partial ++ l) (sym (list-cons s.item later.items))
          ∙ (joined (items_of_partial partial) (items_of_partial s.partial)
          (flat_map (λ ttb. items_of_ttrs ttb.ttrs) (option_to_list s.ttb))
          (flat_map (λ ttb. items_of_ttrs ttb.ttrs) later.ttbs) (items_of_partial later.partial)
          (option_to_list s.item) later.items one.told more.told
          ∙ ap (λ l. l ++ items_of_partial later.partial)
          (flat-cons (λ ttb. items_of_ttrs ttb.ttrs) s.ttb later.ttbs));
    }
