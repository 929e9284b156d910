-- A new partial file takes all records of a file, or is dropped.
use Rattle.std.proofs.Common.{◌≡◌, ℕ, ◌+◌, ◌<◌, ◌≤◌, Bool, true, false, cond, List, [], length, take, slice_set, Option}
use Rattle.std.proofs.Common.{Some, None, Result, Ok, Err, IsOk, IsSome, MatchOption, refl, sym, ap, subst, ◌∙◌, arith}
use Rattle.std.specs.Prelude.{is_some}
use Rattle.std.specs.Option.{option_or}
use Rattle.std.proofs.lemmas.Bool.{ltb-false, le-leb, lt-leb}
use Rattle.std.proofs.lemmas.List.{get_or-set_same, set-set, set-get_or}
use Rattle.njh_record.specs.Stored.{Stored}
use Rattle.njh_record.specs.declared.Kind.{Kind}
use Rattle.njh_spool.specs.CustomerSpool.{CustomerSpool, cost, has_block, has_file_room, is_number, next_number}
use Rattle.njh_spool.specs.CustomerSpool.{partial_numbered, used_blocks, with_finished, with_new_partial, with_state}
use Rattle.njh_spool.specs.CustomerSpool.{without_partial}
use Rattle.njh_spool.specs.declared.State.TheVariants.{Held}
use Rattle.njh_spool.specs.Spools.{spool_at, no_spool, begin_fault, fault_unless}
use Rattle.njh_spool.specs.declared.SpoolFault.{SpoolFault}
use Rattle.njh_spool.specs.declared.SpoolFault.TheVariants.{QuotaFull, TooManyFiles}
use Rattle.njh_spool.specs.declared.restoring.fault.RestoreFault.{RestoreFault}
use Rattle.njh_spool.specs.declared.restoring.fault.RestoreFault.TheVariants.{QuotaOver, FilesOver}
use Rattle.njh_spool.specs.Restoring.{has_blocks_for, kept, limits_fault, with_restored}
use Rattle.njh_spool.specs.code.Growing.{limit_of, with_begun, with_more, IsGrownInPart}
use Rattle.njh_spool.proofs.GrowingLaws.{begun-blocks, begun-dropped, begun-finished, begun-more, begun-there}
use Rattle.njh_spool.proofs.GrowingLaws.{finished-held, some-blocks}
use Rattle.njh_spool.proofs.NumberLaws.{next_number-fresh}

-- ---- the limits

abbrev Begin : (room block : Bool) → Option SpoolFault
Begin room block = option_or (fault_unless room TooManyFiles) (fault_unless block QuotaFull)

abbrev Limits : (room fits : Bool) → Option RestoreFault
Limits room fits = cond room (cond fits None (Some QuotaOver)) (Some FilesOver)

refused_by : (room block fits : Bool) (f : SpoolFault) → (block ≡ false → fits ≡ false) → Begin room block ≡ Some f
    → Limits room fits ≡ Some (limit_of f)
refused_by false block fits f less e = let same : TooManyFiles ≡ f = cc e in
    ap (λ (g : SpoolFault). Some (limit_of g)) same
refused_by true true fits f less e = absurd (cc e)
refused_by true false fits f less e =
    let same : QuotaFull ≡ f = cc e in
    ap (λ (b : Bool). cond b None (Some QuotaOver)) (less refl) ∙ ap (λ (g : SpoolFault). Some (limit_of g)) same

told_by : {A : Type 0} (o : Option SpoolFault) (r : Result A SpoolFault) (f : SpoolFault)
    → MatchOption o (IsOk r) (λ g. r ≡ Err g) → r ≡ Err f → o ≡ Some f
told_by None r f ok e =
    absurd (cc (sym (ap (λ (x : Result _ SpoolFault). elim x as (λ _. Bool) [ Ok y ↦ true | Err g ↦ false ]) e) ∙ ok))
told_by (Some g) r f told e = let same : g ≡ f = cc (sym told ∙ e) in ap (λ (h : SpoolFault). Some h) same

-- the quota that leaves no block leaves none for some records
none_left : (rs : List Stored) (s : CustomerSpool) → 0 < length rs → has_block s ≡ false → has_blocks_for rs s ≡ false
none_left rs s some none =
    lt-leb (used_blocks s + cost rs) s.quota (omega (
      arith,
      ltb-false (used_blocks s) s.quota none,
      some-blocks rs some,
    ))

pub begin_refused : {A : Type 0} (rs : List Stored) (s : CustomerSpool) (r : Result A SpoolFault) (f : SpoolFault)
    → 0 < length rs
    → MatchOption (begin_fault s) (IsOk r) (λ g. r ≡ Err g) → r ≡ Err f → limits_fault rs s ≡ Some (limit_of f)
begin_refused rs s r f some told is =
    refused_by (has_file_room s) (has_block s) (has_blocks_for rs s) f (none_left rs s some)
    (told_by (begin_fault s) r f told is)

room_by : {A : Type 0} (room block : Bool) (r : Result A SpoolFault) (x : A)
    → MatchOption (Begin room block) (IsOk r) (λ g. r ≡ Err g)
    → r ≡ Ok x → room ≡ true
room_by true block r x told is = refl
room_by false block r x told is = absurd (cc (sym is ∙ told))

pub has_room : {A : Type 0} (s : CustomerSpool) (r : Result A SpoolFault) (x : A)
    → MatchOption (begin_fault s) (IsOk r) (λ g. r ≡ Err g)
    → r ≡ Ok x → has_file_room s ≡ true
has_room s r x told is = room_by (has_file_room s) (has_block s) r x told is

-- ---- the file

module _ (c : ℕ) (kind : Kind) (rs : List Stored) (old : List CustomerSpool) (range : c < length old) where
  abbrev pub own : CustomerSpool
  own = spool_at c old

  abbrev pub HasBegun : List CustomerSpool → Type 0
  HasBegun x = x ≡ slice_set old c (with_new_partial kind own)

  module _ (room : has_file_room own ≡ true) (id : ℕ) (number : id ≡ next_number own) (x : List CustomerSpool)
      (begun : HasBegun x) where
    fresh : is_number (next_number own) own ≡ false
    fresh = next_number-fresh own room

    now : spool_at c x ≡ with_new_partial kind own
    now = ap (spool_at c) begun ∙ get_or-set_same old c (with_new_partial kind own) no_spool range

    pub there : IsSome (partial_numbered id (spool_at c x))
    there =
        ap (λ (s : CustomerSpool). is_some (partial_numbered id s)) now
        ∙ ap (λ (n : ℕ). is_some (partial_numbered n (with_new_partial kind own))) number
        ∙ ap is_some (begun-there kind own fresh [])

    grown_so : (xs : List Stored) → with_more id xs (spool_at c x) ≡ with_begun kind xs own
    grown_so xs = ap (with_more id xs) now ∙ ap (λ (n : ℕ). with_more n xs (with_new_partial kind own)) number
        ∙ begun-more kind own fresh xs

    stands : (xs : List Stored) (y : List CustomerSpool) → y ≡ slice_set x c (with_more id xs (spool_at c x))
        → y ≡ slice_set old c (with_begun kind xs own)
    stands xs y e =
        e ∙ ap (slice_set x c) (grown_so xs)
        ∙ ap (λ (ss : List CustomerSpool). slice_set ss c (with_begun kind xs own)) begun
        ∙ set-set old c (with_new_partial kind own) (with_begun kind xs own)

    pub is_whole : (y : List CustomerSpool) → y ≡ slice_set x c (with_more id rs (spool_at c x))
        → y ≡ slice_set old c (with_begun kind rs own)
    is_whole y e = stands rs y e

    blocks : used_blocks (with_more id rs (spool_at c x)) ≡ used_blocks own + cost rs
    blocks = ap used_blocks (grown_so rs) ∙ begun-blocks kind rs own

    quota : (spool_at c x).quota ≡ own.quota
    quota = ap (λ (s : CustomerSpool). s.quota) now

    pub fits : used_blocks (with_more id rs (spool_at c x)) ≤ (spool_at c x).quota → limits_fault rs own ≡ None
    fits within =
        ap (λ (b : Bool). Limits b (has_blocks_for rs own)) room
        ∙ ap (λ (b : Bool). cond b None (Some QuotaOver))
        (le-leb (used_blocks own + cost rs) own.quota (omega (arith, within, blocks, quota)))

    pub over : (y : List CustomerSpool) → IsGrownInPart c id rs x y → limits_fault rs own ≡ Some QuotaOver
    over y grown =
        ap (λ (b : Bool). Limits b (has_blocks_for rs own)) room
        ∙ ap (λ (b : Bool). cond b None (Some QuotaOver))
        (lt-leb (used_blocks own + cost rs) own.quota (omega (arith, grown.2, blocks, quota)))

    pub dropped : (y z : List CustomerSpool) → IsGrownInPart c id rs x y
        → z ≡ slice_set y c (without_partial id (spool_at c y)) → z ≡ old
    dropped y z grown e =
        let some = take grown.0 rs in
        let in_part = stands some y grown.1 in
        let here : spool_at c y ≡ with_begun kind some own =
        ap (spool_at c) in_part ∙ get_or-set_same old c (with_begun kind some own) no_spool range in
        let gone : without_partial id (spool_at c y) ≡ own =
        ap (without_partial id) here ∙ ap (λ (n : ℕ). without_partial n (with_begun kind some own)) number
        ∙ begun-dropped kind own fresh some in
        e ∙ ap (slice_set y c) gone ∙ ap (λ (ss : List CustomerSpool). slice_set ss c own) in_part
        ∙ set-set old c (with_begun kind some own) own ∙ set-get_or old c no_spool

-- a fault, or none, as a clause says it
pub match_some : {A : Type 0} (P : Type 0) (Q : A → Type 0) (o : Option A) (x : A) → o ≡ Some x → Q x
    → MatchOption o P Q
match_some P Q o x e q = subst (λ y. MatchOption y P Q) (sym e) q

pub match_none : {A : Type 0} (P : Type 0) (Q : A → Type 0) (o : Option A) → o ≡ None → P → MatchOption o P Q
match_none P Q o e p = subst (λ y. MatchOption y P Q) (sym e) p

-- where a file has begun with all its records, there was room
limits_none : {A : Type 0} (room fits : Bool) (r : Result A RestoreFault) (x : A)
    → MatchOption (Limits room fits) (IsOk r) (λ f. r ≡ Err f)
    → r ≡ Ok x → room ≡ true
limits_none true fits r x told is = refl
limits_none false fits r x told is = absurd (cc (sym is ∙ told))

pub had_room : {A : Type 0} (rs : List Stored) (s : CustomerSpool) (r : Result A RestoreFault) (x : A)
    → MatchOption (limits_fault rs s) (IsOk r) (λ f. r ≡ Err f) → r ≡ Ok x → has_file_room s ≡ true
had_room rs s r x told is = limits_none (has_file_room s) (has_blocks_for rs s) r x told is

module _ (c : ℕ) (kind : Kind) (rs : List Stored) (old : List CustomerSpool) (range : c < length old)
    (room : has_file_room (spool_at c old) ≡ true) (id : ℕ) (number : id ≡ next_number (spool_at c old)) where
  new_number : is_number (next_number (spool_at c old)) (spool_at c old) ≡ false
  new_number = next_number-fresh (spool_at c old) room

  pub finished : (y z : List CustomerSpool) → y ≡ slice_set old c (with_begun kind rs (spool_at c old))
      → z ≡ slice_set y c (with_finished id (spool_at c y))
      → z ≡ slice_set old c (with_restored (kept kind false rs) (spool_at c old))
  finished y z begun e =
      let own = spool_at c old in
      let whole = with_restored (kept kind false rs) own in
      let here : spool_at c y ≡ with_begun kind rs own =
      ap (spool_at c) begun ∙ get_or-set_same old c (with_begun kind rs own) no_spool range in
      let done : with_finished id (spool_at c y) ≡ whole =
      ap (with_finished id) here ∙ ap (λ (n : ℕ). with_finished n (with_begun kind rs own)) number
      ∙ begun-finished kind own new_number rs in
      e ∙ ap (slice_set y c) done ∙ ap (λ (ss : List CustomerSpool). slice_set ss c whole) begun
      ∙ set-set old c (with_begun kind rs own) whole

  pub held_back : (z w : List CustomerSpool) → z ≡ slice_set old c (with_restored (kept kind false rs) (spool_at c old))
      → w ≡ slice_set z c (with_state id Held (spool_at c z))
      → w ≡ slice_set old c (with_restored (kept kind true rs) (spool_at c old))
  held_back z w whole_now e =
      let own = spool_at c old in
      let whole = with_restored (kept kind false rs) own in
      let held = with_restored (kept kind true rs) own in
      let here : spool_at c z ≡ whole = ap (spool_at c) whole_now ∙ get_or-set_same old c whole no_spool range in
      let done : with_state id Held (spool_at c z) ≡ held =
      ap (with_state id Held) here ∙ ap (λ (n : ℕ). with_state n Held whole) number
      ∙ finished-held kind own new_number rs in
      e ∙ ap (slice_set z c) done ∙ ap (λ (ss : List CustomerSpool). slice_set ss c held) whole_now
      ∙ set-set old c whole held
