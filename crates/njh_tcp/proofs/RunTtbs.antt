-- TTBs and a rest read as themselves, so that bytes are split in one way.
use Rattle.std.proofs.Common.{◌≡◌, ℕ, ◌+◌, ◌<◌, ◌≤◌, ◌==◌, List, [], ◌∷◌, ◌++◌, length, refl, ap, sym, ◌∙◌}
use Rattle.std.proofs.Common.{arith, append_assoc, append-nil, length-append, true, false, if◌then◌else◌}
use Rattle.std.specs.Prelude.{flat_map, nat_lt, Option, Some, None, IsSome}
use Rattle.std.specs.List.{AllByRecursion}
use Rattle.std.proofs.lemmas.Bool.{eq-eqb, false≢true, ne_eqb, lt-ltb, le-ltb}
use Rattle.njh_tcp.specs.Limits.{ttb_head, ttr_head, shortest_ttb, longest_ttr}
use Rattle.njh_tcp.specs.Faults.{head_fault}
use Rattle.njh_tcp.specs.Blocks.{length_in, Ttr, bytes_of_ttr, IsTtr, Ttb, bytes_of_ttrs, bytes_of_ttb, IsTtb, Partial}
use Rattle.njh_tcp.specs.Blocks.{in_head, in_ttr_head, in_ttr, wrong_head, wrong_ttr_head, bytes_of_partial, IsPartial}
use Rattle.njh_tcp.specs.Blocks.{bytes_behind, HasBegun, Item, Whole, Wrong, items_of_ttrs, wrong_items}
use Rattle.njh_tcp.specs.Blocks.{items_of_partial, items_of}
use Rattle.njh_tcp.specs.declared.fault.TtbFault.{TtbFault}
use Rattle.njh_tcp.specs.declared.fault.TtbFault.TheVariants.{ShortTtb}
use Rattle.njh_tcp.proofs.TtbRun.{Step, goes_on, tells, closes, came, whole_head, fitted, whole_next, whole_data, step}
use Rattle.njh_tcp.proofs.TtbRun.{Run, after_step, run, length-push}

-- a run, and then one from where it ended
abbrev pub and_then : Run → Run → Run
and_then first second = record {
  ttbs = first.ttbs ++ second.ttbs;
  items = first.items ++ second.items;
  partial = second.partial;
}

after-then : (ttb : Option Ttb) (item : Option Item) (partial : Partial) (first second : Run)
    → let s : Step = record { ttb = ttb; item = item; partial = partial } in
    after_step s (and_then first second) ≡ and_then (after_step s first) second
after-then None None partial first second = refl
after-then None (Some item) partial first second = refl
after-then (Some ttb) None partial first second = refl
after-then (Some ttb) (Some item) partial first second = refl

pub run-append : (partial : Partial) (front back : List ℕ)
    → run partial (front ++ back) ≡ and_then (run partial front) (run (run partial front).partial back)
run-append partial [] back = refl
run-append partial (byte ∷ front) back =
    let s = step partial byte in
    ap (after_step s) (run-append s.partial front back)
    ∙ after-then s.ttb s.item s.partial (run s.partial front) (run (run s.partial front).partial back)

-- the same, where it is known what the first part reads as
run-on : (partial : Partial) (front back : List ℕ) (first : Run) → run partial front ≡ first
    → run partial (front ++ back) ≡ and_then first (run first.partial back)
run-on partial front back first is =
    run-append partial front back ∙ ap (λ (r : Run). and_then r (run r.partial back)) is

-- what has ended nothing, and what is at a rest so
abbrev pub at : Partial → Run
at partial = record { ttbs = []; items = []; partial = partial }

abbrev pub ended : Step → Run
ended s = after_step s (at s.partial)

-- a part that isn't whole
pub fill : (of : List ℕ → Partial) (n : ℕ) (whole : List ℕ → Step)
    → ((part : List ℕ) (byte : ℕ) → step (of part) byte ≡ came of n whole (part ++ byte ∷ []))
    → (part bytes : List ℕ) → length part + length bytes < n → run (of part) bytes ≡ at (of (part ++ bytes))
fill of n whole steps part [] less = ap (λ l. at (of l)) (sym (append-nil part))
fill of n whole steps part (byte ∷ bytes) less =
    let longer = part ++ byte ∷ [] in
    let more : nat_lt (length longer) n ≡ true = lt-ltb (length longer) n
    (omega (arith, length-append part (byte ∷ []))) in
    let one : step (of part) byte ≡ goes_on (of longer) =
    steps part byte ∙ ap (λ b. if b then goes_on (of longer) else whole longer) more in
    ap (λ (s : Step). after_step s (run s.partial bytes)) one
    ∙ (fill of n whole steps longer bytes (omega (arith, length-append part (byte ∷ [])))
    ∙ ap (λ l. at (of l)) (append_assoc part (byte ∷ []) bytes))

-- one that is
pub filled : (of : List ℕ → Partial) (n : ℕ) (whole : List ℕ → Step)
    → ((part : List ℕ) (byte : ℕ) → step (of part) byte ≡ came of n whole (part ++ byte ∷ []))
    → (part bytes : List ℕ) → length part + length bytes ≡ n → 0 < length bytes
    → run (of part) bytes ≡ ended (whole (part ++ bytes))
filled of n whole steps part [] full some = absurd (omega (arith, some))
filled of n whole steps part (byte ∷ []) full some =
    let longer = part ++ byte ∷ [] in
    let last : nat_lt (length longer) n ≡ false = le-ltb (length longer) n
    (omega (arith, length-append part (byte ∷ []))) in
    let one : step (of part) byte ≡ whole longer =
    steps part byte ∙ ap (λ b. if b then goes_on (of longer) else whole longer) last in
    ap ended one
filled of n whole steps part (byte ∷ next ∷ bytes) full some =
    let longer = part ++ byte ∷ [] in
    let more : nat_lt (length longer) n ≡ true = lt-ltb (length longer) n
    (omega (arith, length-append part (byte ∷ []))) in
    let one : step (of part) byte ≡ goes_on (of longer) =
    steps part byte ∙ ap (λ b. if b then goes_on (of longer) else whole longer) more in
    ap (λ (s : Step). after_step s (run s.partial (next ∷ bytes))) one
    ∙ (filled of n whole steps longer (next ∷ bytes) (omega (arith, length-append part (byte ∷ []))) (omega arith)
    ∙ ap (λ l. ended (whole l)) (append_assoc part (byte ∷ []) (next ∷ bytes)))

-- the head of a TTB
run-head : (head : List ℕ) → length head ≡ ttb_head → run (in_head []) head ≡ ended (whole_head head)
run-head head size =
    filled in_head ttb_head whole_head (λ part byte. refl) [] head (omega (arith, size)) (omega (arith, size))

run-begun : (head : List ℕ) → length head ≡ ttb_head → shortest_ttb ≤ length_in head
    → run (in_head []) head ≡ at (in_ttr_head head [] [])
run-begun head size long =
    run-head head size ∙ ap (λ b. ended (if b then tells (Wrong (ShortTtb (length_in head))) (wrong_head head [])
    else goes_on (in_ttr_head head [] []))) (le-ltb (length_in head) shortest_ttb long)

-- the head of a TTR
run-next : (head : List ℕ) (ttrs : List Ttr) (next : List ℕ) → length next ≡ ttr_head
    → run (in_ttr_head head ttrs []) next ≡ ended (whole_next head ttrs next)
run-next head ttrs next size =
    filled (in_ttr_head head ttrs) ttr_head (whole_next head ttrs) (λ part byte. refl) [] next (omega (arith, size))
    (omega (arith, size))

fits-some : (head : List ℕ) (ttrs : List Ttr) (next : List ℕ) (fault : Option TtbFault) → fault ≡ None
    → 0 < length_in next → fitted head ttrs next fault ≡ goes_on (in_ttr head ttrs next [])
fits-some head ttrs next fault none some =
    ap (fitted head ttrs next) none
    ∙ ap (λ b. if b then closes (record { head = head; ttrs = ttrs; end = next })
    else goes_on (in_ttr head ttrs next [])) (ne_eqb (length_in next) 0 (λ e. omega (arith, e, some)))

fits-end : (head : List ℕ) (ttrs : List Ttr) (next : List ℕ) (fault : Option TtbFault) → fault ≡ None
    → length_in next ≡ 0
    → fitted head ttrs next fault ≡ closes (record { head = head; ttrs = ttrs; end = next })
fits-end head ttrs next fault none empty =
    ap (fitted head ttrs next) none
    ∙ ap (λ b. if b then closes (record { head = head; ttrs = ttrs; end = next })
    else goes_on (in_ttr head ttrs next [])) (eq-eqb (length_in next) 0 empty)

-- a head that fits
no-fault : (behind size : ℕ) → 0 < size → size ≤ longest_ttr → size + 4 ≤ behind → head_fault behind size ≡ None
no-fault behind size some short room =
    let is_none : (size == 0) ≡ false = ne_eqb size 0 (λ e. omega (arith, e, some)) in
    let is_long : nat_lt longest_ttr size ≡ false = le-ltb longest_ttr size short in
    let is_past : nat_lt behind (size + 4) ≡ false = le-ltb behind (size + 4) room in
    rw (is_none, is_long, is_past)

-- one TTR
run-ttr : (head : List ℕ) (done : List Ttr) (ttr : Ttr) → IsTtr ttr
    → shortest_ttb + (length (bytes_of_ttrs done) + length (bytes_of_ttr ttr)) ≤ length_in head
    → run (in_ttr_head head done []) (bytes_of_ttr ttr)
    ≡ record { ttbs = []; items = Whole ttr.held ∷ []; partial = in_ttr_head head (done ++ ttr ∷ []) [] }
run-ttr head done ttr is room =
    let long = length-append ttr.head ttr.held in
    let fit : head_fault (bytes_behind head done) (length_in ttr.head) ≡ None =
    no-fault (bytes_behind head done) (length_in ttr.head) (omega (arith, is.some, is.tells))
    (omega (arith, is.short, is.tells)) (omega (arith, is.size, is.tells, long, room)) in
    let first : run (in_ttr_head head done []) ttr.head ≡ at (in_ttr head done ttr.head []) =
    run-next head done ttr.head is.size
    ∙ ap ended (fits-some head done ttr.head (head_fault (bytes_behind head done) (length_in ttr.head)) fit
    (omega (arith, is.some, is.tells))) in
    run-on (in_ttr_head head done []) ttr.head ttr.held (at (in_ttr head done ttr.head [])) first
    ∙ filled (in_ttr head done ttr.head) (length_in ttr.head) (whole_data head done ttr.head) (λ part byte. refl) []
    ttr.held (omega (arith, is.tells)) is.some

-- some TTRs
run-ttrs : (head : List ℕ) (done ttrs : List Ttr) → AllByRecursion IsTtr ttrs
    → shortest_ttb + (length (bytes_of_ttrs done) + length (bytes_of_ttrs ttrs)) ≤ length_in head
    → run (in_ttr_head head done []) (bytes_of_ttrs ttrs)
    ≡ record { ttbs = []; items = items_of_ttrs ttrs; partial = in_ttr_head head (done ++ ttrs) [] }
run-ttrs head done [] each room = ap (λ l. at (in_ttr_head head l [])) (sym (append-nil done))
run-ttrs head done (ttr ∷ ttrs) each room =
    let both = length-append (bytes_of_ttr ttr) (bytes_of_ttrs ttrs) in
    let longer : length (bytes_of_ttrs (done ++ ttr ∷ [])) ≡ length (bytes_of_ttrs done) + length (bytes_of_ttr ttr) =
    length-push done ttr ∙ ap (λ n. length (bytes_of_ttrs done) + n) (sym (length-append ttr.head ttr.held)) in
    run-on (in_ttr_head head done []) (bytes_of_ttr ttr) (bytes_of_ttrs ttrs) _
    (run-ttr head done ttr each.0 (omega (arith, both, room)))
    ∙ (ap (and_then (record {
      ttbs = [];
      items = Whole ttr.held ∷ [];
      partial = in_ttr_head head (done ++ ttr ∷ []) [];
    })) (run-ttrs head (done ++ ttr ∷ []) ttrs each.1 (omega (arith, both, room, longer)))
    ∙ ap (λ l. record {
      ttbs = [];
      items = items_of_ttrs (ttr ∷ ttrs);
      partial = in_ttr_head head l [];
    }) (append_assoc done (ttr ∷ []) ttrs))

-- what has come of a TTB up to the head of a TTR
abbrev begun_with : List ℕ → List Ttr → Run
begun_with head ttrs = record { ttbs = []; items = items_of_ttrs ttrs; partial = in_ttr_head head ttrs [] }

run-front : (head : List ℕ) (ttrs : List Ttr) → HasBegun head ttrs
    → run (in_head []) (head ++ bytes_of_ttrs ttrs) ≡ begun_with head ttrs
run-front head ttrs begun =
    run-on (in_head []) head (bytes_of_ttrs ttrs) (at (in_ttr_head head [] []))
    (run-begun head begun.size (omega (arith, begun.room)))
    ∙ run-ttrs head [] ttrs begun.each (omega (arith, begun.room))

-- a whole TTB
begun-ttb : (ttb : Ttb) → IsTtb ttb → HasBegun ttb.head ttb.ttrs
begun-ttb ttb is = record {
  size = is.size;
  each = is.each;
  room = omega (
    arith,
    is.size,
    is.tells,
    is.end_size,
    length-append (ttb.head ++ bytes_of_ttrs ttb.ttrs) ttb.end,
    length-append ttb.head (bytes_of_ttrs ttb.ttrs),
  );
}

end-fits : (ttb : Ttb) → IsTtb ttb → head_fault (bytes_behind ttb.head ttb.ttrs) (length_in ttb.end) ≡ None
end-fits ttb is =
    let none : bytes_behind ttb.head ttb.ttrs ≡ 0 =
    omega (
      arith,
      is.size,
      is.tells,
      is.end_size,
      length-append (ttb.head ++ bytes_of_ttrs ttb.ttrs) ttb.end,
      length-append ttb.head (bytes_of_ttrs ttb.ttrs),
    ) in
    ap (λ n. head_fault n (length_in ttb.end)) none ∙ ap (head_fault 0) is.end_tells

pub run-ttb : (ttb : Ttb) → IsTtb ttb → run (in_head []) (bytes_of_ttb ttb)
    ≡ record { ttbs = ttb ∷ []; items = items_of_ttrs ttb.ttrs; partial = in_head [] }
run-ttb ttb is =
    run-on (in_head []) (ttb.head ++ bytes_of_ttrs ttb.ttrs) ttb.end (begun_with ttb.head ttb.ttrs)
    (run-front ttb.head ttb.ttrs (begun-ttb ttb is))
    ∙ (ap (and_then (begun_with ttb.head ttb.ttrs)) (run-next ttb.head ttb.ttrs ttb.end is.end_size
    ∙ ap ended (fits-end ttb.head ttb.ttrs ttb.end _ (end-fits ttb is) is.end_tells))
    ∙ ap (λ l. record { ttbs = ttb ∷ []; items = l; partial = in_head [] }) (append-nil (items_of_ttrs ttb.ttrs)))

run-ttbs : (ttbs : List Ttb) → AllByRecursion IsTtb ttbs → run (in_head []) (flat_map bytes_of_ttb ttbs)
    ≡ record { ttbs = ttbs; items = flat_map (λ ttb. items_of_ttrs ttb.ttrs) ttbs; partial = in_head [] }
run-ttbs [] each = refl
run-ttbs (ttb ∷ ttbs) each =
    run-on (in_head []) (bytes_of_ttb ttb) (flat_map bytes_of_ttb ttbs) _ (run-ttb ttb each.0)
    ∙ ap (and_then (record { ttbs = ttb ∷ []; items = items_of_ttrs ttb.ttrs; partial = in_head [] }))
    (run-ttbs ttbs each.1)

-- what is no TTB
run-wrong_head : (head done after : List ℕ) → run (wrong_head head done) after ≡ at (wrong_head head (done ++ after))
run-wrong_head head done [] = ap (λ l. at (wrong_head head l)) (sym (append-nil done))
run-wrong_head head done (byte ∷ after) =
    run-wrong_head head (done ++ byte ∷ []) after
    ∙ ap (λ l. at (wrong_head head l)) (append_assoc done (byte ∷ []) after)

run-wrong_ttr_head : (head : List ℕ) (ttrs : List Ttr) (next done after : List ℕ)
    → run (wrong_ttr_head head ttrs next done) after ≡ at (wrong_ttr_head head ttrs next (done ++ after))
run-wrong_ttr_head head ttrs next done [] =
    ap (λ l. at (wrong_ttr_head head ttrs next l)) (sym (append-nil done))
run-wrong_ttr_head head ttrs next done (byte ∷ after) =
    run-wrong_ttr_head head ttrs next (done ++ byte ∷ []) after
    ∙ ap (λ l. at (wrong_ttr_head head ttrs next l)) (append_assoc done (byte ∷ []) after)

-- the head of a TTR that doesn't fit
abbrev wrong_with : List ℕ → List Ttr → List ℕ → Option TtbFault → Run
wrong_with head ttrs next fault =
    record { ttbs = []; items = wrong_items fault; partial = wrong_ttr_head head ttrs next [] }

fits-wrong : (head : List ℕ) (ttrs : List Ttr) (next : List ℕ) (fault : Option TtbFault) → IsSome fault
    → ended (fitted head ttrs next fault) ≡ wrong_with head ttrs next fault
fits-wrong head ttrs next (Some fault) some = refl
fits-wrong head ttrs next None some = absurd (false≢true some)

abbrev reading : List Item → Partial → Run
reading items partial = record { ttbs = []; items = items; partial = partial }

no-items : (items : List Item) (partial : Partial) → reading (items ++ []) partial ≡ reading items partial
no-items items partial = ap (λ l. reading l partial) (append-nil items)

run-partial : (partial : Partial) → IsPartial partial
    → run (in_head []) (bytes_of_partial partial)
    ≡ record { ttbs = []; items = items_of_partial partial; partial = partial }
run-partial (in_head part) is = fill in_head ttb_head whole_head (λ p byte. refl) [] part (omega (arith, is))
run-partial (in_ttr_head head ttrs part) is =
    run-on (in_head []) (head ++ bytes_of_ttrs ttrs) part (begun_with head ttrs) (run-front head ttrs is.0)
    ∙ (ap (and_then (begun_with head ttrs)) (fill (in_ttr_head head ttrs) ttr_head (whole_next head ttrs)
    (λ p byte. refl) [] part (omega (arith, is.1)))
    ∙ no-items (items_of_ttrs ttrs) (in_ttr_head head ttrs part))
run-partial (in_ttr head ttrs next part) is =
    let some : 0 < length_in next = omega (arith, is.3) in
    let begun = begun_with head ttrs in
    let headed : Run = record { ttbs = []; items = items_of_ttrs ttrs; partial = in_ttr head ttrs next [] } in
    run-on (in_head []) (head ++ bytes_of_ttrs ttrs ++ next) part headed
    (run-on (in_head []) (head ++ bytes_of_ttrs ttrs) next begun (run-front head ttrs is.0)
    ∙ (ap (and_then begun) (run-next head ttrs next is.1 ∙ ap ended (fits-some head ttrs next _ is.2 some))
    ∙ no-items (items_of_ttrs ttrs) (in_ttr head ttrs next [])))
    ∙ (ap (and_then headed) (fill (in_ttr head ttrs next) (length_in next) (whole_data head ttrs next)
    (λ p byte. refl) [] part (omega (arith, is.3)))
    ∙ no-items (items_of_ttrs ttrs) (in_ttr head ttrs next part))
run-partial (wrong_head head after) is =
    run-on (in_head []) head after (ended (tells (Wrong (ShortTtb (length_in head))) (wrong_head head [])))
    (run-head head is.0 ∙ ap (λ b. ended (if b then tells (Wrong (ShortTtb (length_in head))) (wrong_head head [])
    else goes_on (in_ttr_head head [] []))) (lt-ltb (length_in head) shortest_ttb is.1))
    ∙ ap (and_then (ended (tells (Wrong (ShortTtb (length_in head))) (wrong_head head []))))
    (run-wrong_head head [] after)
run-partial (wrong_ttr_head head ttrs next after) is =
    let fault = head_fault (bytes_behind head ttrs) (length_in next) in
    let begun = begun_with head ttrs in
    run-on (in_head []) (head ++ bytes_of_ttrs ttrs ++ next) after (and_then begun (wrong_with head ttrs next fault))
    (run-on (in_head []) (head ++ bytes_of_ttrs ttrs) next begun (run-front head ttrs is.0)
    ∙ ap (and_then begun) (run-next head ttrs next is.1 ∙ fits-wrong head ttrs next fault is.2))
    ∙ (ap (and_then (and_then begun (wrong_with head ttrs next fault))) (run-wrong_ttr_head head ttrs next [] after)
    ∙ no-items (items_of_ttrs ttrs ++ wrong_items fault) (wrong_ttr_head head ttrs next after))

pub run-split : (ttbs : List Ttb) (partial : Partial) → AllByRecursion IsTtb ttbs → IsPartial partial
    → run (in_head []) (flat_map bytes_of_ttb ttbs ++ bytes_of_partial partial)
    ≡ record { ttbs = ttbs; items = items_of ttbs partial; partial = partial }
run-split ttbs partial each is =
    let whole : Run =
    record { ttbs = ttbs; items = flat_map (λ ttb. items_of_ttrs ttb.ttrs) ttbs; partial = in_head [] } in
    run-on (in_head []) (flat_map bytes_of_ttb ttbs) (bytes_of_partial partial) whole (run-ttbs ttbs each)
    ∙ (ap (and_then whole) (run-partial partial is)
    ∙ ap (λ l. record { ttbs = l; items = items_of ttbs partial; partial = partial }) (append-nil ttbs))
