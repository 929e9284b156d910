-- What is told of files whose arrival was noted.
use Rattle.std.proofs.Common.{◌≡◌, ◌≢◌, ◌∙◌, ◌+◌, ◌<◌, ◌≤◌, ℕ, Bool, true, false, cond, List, [], ◌∷◌, ◌++◌, length, ap}
use Rattle.std.proofs.Common.{refl, not, arith, drop, Some, None}
use Rattle.std.proofs.lemmas.Bool.{eq-eqb, eqb-true, lt-ltb, ne_eqb}
use Rattle.std.proofs.lemmas.List.{get_or-set_same, get_or-set_other, set_past}
use Rattle.std.proofs.lemmas.List.Folds.{find-append}
use Rattle.std.specs.List.{find}
use Rattle.std.specs.Option.{option_map, option_or}
use Rattle.std.specs.Prelude.{Option, nat_lt}
use Rattle.njh_table.specs.Limits.{max_files}
use Rattle.njh_arrivals.specs.Arrivals.{is_of, moment_in, seen_of, with_arrival, with_room, without}
use Rattle.njh_arrivals.specs.Laws.{NotedIsTold}
use Rattle.njh_arrivals.specs.declared.arrivals.FileArrival.{FileArrival}

abbrev arrival : ℕ → ℕ → FileArrival
arrival file moment = record { file = file; moment = moment }

-- ---- a file's own arrivals are let go

gone-case : (file : ℕ) (a : FileArrival) (rest : List FileArrival) (b : Bool) → is_of file a ≡ b
    → find (is_of file) rest ≡ None → find (is_of file) (cond (not b) (a ∷ rest) rest) ≡ None
gone-case file a rest true is none = none
gone-case file a rest false is none = rw is none

gone : (file : ℕ) (seen : List FileArrival) → find (is_of file) (without file seen) ≡ None
gone file [] = refl
gone file (a ∷ seen) = gone-case file a (without file seen) (is_of file a) refl (gone file seen)

first-gone-case : (file : ℕ) (a : FileArrival) (seen : List FileArrival) (b : Bool)
    → cond b (Some a) (find (is_of file) seen) ≡ None → find (is_of file) seen ≡ None
first-gone-case file a seen true none = cc
first-gone-case file a seen false none = none

first-gone : (file : ℕ) (seen : List FileArrival) → find (is_of file) seen ≡ None → find (is_of file) (drop 1 seen) ≡ None
first-gone file [] none = none
first-gone file (a ∷ seen) none = first-gone-case file a seen (is_of file a) none

room-case : (file : ℕ) (seen : List FileArrival) (b : Bool) → find (is_of file) seen ≡ None
    → find (is_of file) (cond b seen (drop 1 seen)) ≡ None
room-case file seen true none = none
room-case file seen false none = first-gone file seen none

found-last : (file moment : ℕ) (kept : List FileArrival) → find (is_of file) kept ≡ None
    → find (is_of file) (kept ++ arrival file moment ∷ []) ≡ Some (arrival file moment)
found-last file moment kept none =
    rw (find-append (is_of file) kept (arrival file moment ∷ []), none, eq-eqb file file refl) refl

told-of-it : (file moment : ℕ) (seen : List FileArrival) → moment_in file (with_arrival file moment seen) ≡ Some moment
told-of-it file moment seen =
    let kept = without file seen in
    ap (option_map (λ (a : FileArrival). a.moment)) (found-last file moment (with_room kept)
    (room-case file kept (nat_lt (length kept) max_files) (gone file seen)))

-- ---- those of other files stay

stays-case : (other : ℕ) (a : FileArrival) (seen kept : List FileArrival) (b : Bool) → (b ≡ true → is_of other a ≡ false)
    → find (is_of other) kept ≡ find (is_of other) seen
    → find (is_of other) (cond (not b) (a ∷ kept) kept) ≡ find (is_of other) (a ∷ seen)
stays-case other a seen kept true differs same = rw (differs refl) same
stays-case other a seen kept false differs same = ap (cond (is_of other a) (Some a)) same

stays : (file other : ℕ) (seen : List FileArrival) → other ≢ file
    → find (is_of other) (without file seen) ≡ find (is_of other) seen
stays file other [] differs = refl
stays file other (a ∷ seen) differs = stays-case other a seen (without file seen) (is_of file a)
    (λ is. ne_eqb a.file other (let same = eqb-true a.file file is in omega arith)) (stays file other seen differs)

shorter-case : (a : FileArrival) (kept : List FileArrival) (n : ℕ) (b : Bool) → length kept ≤ n
    → length (cond b (a ∷ kept) kept) ≤ n + 1
shorter-case a kept n true few = omega arith
shorter-case a kept n false few = omega arith

shorter : (file : ℕ) (seen : List FileArrival) → length (without file seen) ≤ length seen
shorter file [] = omega arith
shorter file (a ∷ seen) =
    let one = shorter-case a (without file seen) (length seen) (not (is_of file a)) (shorter file seen) in omega arith

none-behind : (found : Option FileArrival) → option_or found None ≡ found
none-behind None = refl
none-behind (Some a) = refl

told-of-others : (file moment other : ℕ) (seen : List FileArrival) → other ≢ file → length seen < max_files
    → moment_in other (with_arrival file moment seen) ≡ moment_in other seen
told-of-others file moment other seen differs few =
    let kept = without file seen in
    let room : nat_lt (length kept) max_files ≡ true =
    lt-ltb (length kept) max_files (omega (arith, shorter file seen)) in
    let is : find (is_of other) (with_arrival file moment seen) ≡ find (is_of other) seen =
    rw (
      room,
      find-append (is_of other) kept (arrival file moment ∷ []),
      ne_eqb file other (omega arith),
      none-behind (find (is_of other) kept),
    )
    (stays file other seen differs) in
    ap (option_map (λ (a : FileArrival). a.moment)) is

-- ---- of all customers

pub noted_is_told : NotedIsTold
noted_is_told c file moment seen = record {
  of_it = λ there. ap (moment_in file) (get_or-set_same seen c (with_arrival file moment (seen_of c seen)) [] there)
      ∙ told-of-it file moment (seen_of c seen);
  of_others = λ other any differs. ap (moment_in any)
      (get_or-set_other seen c other (with_arrival file moment (seen_of c seen)) [] differs);
  of_its_others = λ other differs few there.
      ap (moment_in other) (get_or-set_same seen c (with_arrival file moment (seen_of c seen)) [] there)
      ∙ told-of-others file moment other (seen_of c seen) differs few;
  of_nobody = λ beyond. set_past seen c (with_arrival file moment (seen_of c seen)) beyond;
}
