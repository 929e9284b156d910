-- Record after record is put in a partial file.
use Rattle.std.proofs.Common.{◌≡◌, ℕ, ◌+◌, ◌<◌, ◌≤◌, Bool, true, false, List, [], ◌∷◌, ◌++◌, length, take, slice_set}
use Rattle.std.proofs.Common.{Some, Result, Ok, Err, IsOk, IsSome, MatchOption, OnOk, OnErr, is_err, refl, sym, ap}
use Rattle.std.proofs.Common.{subst, ◌∙◌, arith}
use Rattle.std.specs.Prelude.{slice_get, is_some}
use Rattle.std.specs.Option.{option_or}
use Rattle.std.proofs.Math.Seq.{take-length}
use Rattle.std.proofs.lemmas.Bool.{leb-false}
use Rattle.std.proofs.lemmas.List.{get_or-set_same, length-set, set-set, set-get_or, take_more}
use Rattle.std.proofs.lemmas.Option.{slice_get_within, get_or_from_slice_get}
use Rattle.njh_record.specs.Stored.{Stored}
use Rattle.njh_spool.specs.CustomerSpool.{CustomerSpool, has_room_for, partial_numbered, used_blocks, with_appended}
use Rattle.njh_spool.specs.Spools.{spool_at, no_spool, append_fault, fault_unless}
use Rattle.njh_spool.specs.declared.SpoolFault.{SpoolFault}
use Rattle.njh_spool.specs.declared.SpoolFault.TheVariants.{QuotaFull, NoSuchFile}
use Rattle.njh_spool.specs.code.Growing.{with_more}
use Rattle.njh_spool.proofs.GrowingLaws.{more-none, more-appended, more-there, more-blocks}

-- a refusal by a result
pub on_err : {A E : Type 0} {P : Type 0} (r : Result A E) → is_err r ≡ true → OnErr r P → P
on_err (Ok x) e p = absurd (cc e)
on_err (Err f) e p = p

pub on_ok : {A E : Type 0} {P : Type 0} (r : Result A E) → is_err r ≡ false → OnOk r P → P
on_ok (Ok x) e p = p
on_ok (Err f) e p = absurd (cc e)

no_room : {A : Type 0} (r : Result A SpoolFault) (there room : Bool) → there ≡ true
    → MatchOption (option_or (fault_unless there NoSuchFile) (fault_unless room QuotaFull)) (IsOk r) (λ f. r ≡ Err f)
    → is_err r ≡ true → room ≡ false
no_room r false room e told refused = absurd (cc e)
no_room r true false e told refused = refl
no_room (Ok x) true true e told refused = absurd (cc refused)
no_room (Err f) true true e told refused = absurd (cc told)

module _ (c n : ℕ) (rs : List Stored) (old : List CustomerSpool) where
  -- so many of the records are in the file
  abbrev pub Holds : ℕ → List CustomerSpool → Type 0
  Holds k x = x ≡ slice_set old c (with_more n (take k rs) (spool_at c old))

  pub at_start : Holds 0 old
  at_start = sym (ap (slice_set old c) (more-none n (spool_at c old)) ∙ set-get_or old c no_spool)

  module _ (k : ℕ) (x : List CustomerSpool) (range : c < length old) (so_far : Holds k x) where
    pub still_range : c < length x
    still_range =
        omega (
          arith,
          range,
          ap (λ (ss : List CustomerSpool). length ss) so_far,
          length-set old c (with_more n (take k rs) (spool_at c old)),
        )

    pub there_now : spool_at c x ≡ with_more n (take k rs) (spool_at c old)
    there_now = ap (spool_at c) so_far ∙ get_or-set_same old c (with_more n (take k rs) (spool_at c old)) no_spool range

    module _ (r : Stored) (at : slice_get rs k ≡ Some r) where
      longer : take (k + 1) rs ≡ take k rs ++ r ∷ []
      longer =
          take_more rs k r (slice_get_within rs k r at)
          ∙ ap (λ (y : Stored). take k rs ++ y ∷ []) (get_or_from_slice_get rs k r r at)

      with_it : with_appended n r (spool_at c x) ≡ with_more n (take (k + 1) rs) (spool_at c old)
      with_it =
          ap (with_appended n r) there_now ∙ more-appended n (take k rs) r (spool_at c old)
          ∙ ap (λ (xs : List Stored). with_more n xs (spool_at c old)) (sym longer)

      pub one_more : (y : List CustomerSpool) → y ≡ slice_set x c (with_appended n r (spool_at c x)) → Holds (k + 1) y
      one_more y e =
          e ∙ ap (slice_set x c) with_it
          ∙ ap (λ (ss : List CustomerSpool). slice_set ss c (with_more n (take (k + 1) rs) (spool_at c old))) so_far
          ∙ set-set old c (with_more n (take k rs) (spool_at c old)) (with_more n (take (k + 1) rs) (spool_at c old))

      pub refused : {A : Type 0} (result : Result A SpoolFault) → IsSome (partial_numbered n (spool_at c old))
          → MatchOption (append_fault n r (spool_at c x)) (IsOk result) (λ f. result ≡ Err f) → is_err result ≡ true
          → (spool_at c old).quota < used_blocks (with_more n rs (spool_at c old))
      refused result there told failed =
          let some : is_some (partial_numbered n (spool_at c x)) ≡ true =
          ap (λ (s : CustomerSpool). is_some (partial_numbered n s)) there_now
          ∙ more-there n (take k rs) (spool_at c old) there in
          let full =
          no_room result (is_some (partial_numbered n (spool_at c x))) (has_room_for n r (spool_at c x)) some told
          failed in
          let over = leb-false (used_blocks (with_appended n r (spool_at c x))) (spool_at c x).quota full in
          let quota : (spool_at c x).quota ≡ (spool_at c old).quota = ap (λ (s : CustomerSpool). s.quota) there_now in
          omega (arith, over, quota, ap used_blocks with_it, more-blocks n (k + 1) rs (spool_at c old))

  pub at_end : (k : ℕ) (x : List CustomerSpool) → k ≡ length rs → Holds k x
      → x ≡ slice_set old c (with_more n rs (spool_at c old))
  at_end k x all so_far =
      so_far ∙ ap (λ (xs : List Stored). slice_set old c (with_more n xs (spool_at c old)))
      (ap (λ i. take i rs) all ∙ take-length rs)

  pub within_at_end : (k : ℕ) (x : List CustomerSpool) → c < length old → k ≡ length rs → Holds k x
      → used_blocks (spool_at c x) ≤ (spool_at c x).quota
      → used_blocks (with_more n rs (spool_at c old)) ≤ (spool_at c old).quota
  within_at_end k x range all so_far within =
      subst (λ (s : CustomerSpool). used_blocks s ≤ s.quota)
      (there_now k x range so_far
      ∙ ap (λ (xs : List Stored). with_more n xs (spool_at c old)) (ap (λ i. take i rs) all ∙ take-length rs))
      within
