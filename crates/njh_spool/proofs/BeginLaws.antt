-- What a new file makes of its customer's spool.
use Rattle.std.proofs.Common.{◌≡◌, ℕ, ◌+◌, ◌<◌, ◌≤◌, Bool, true, false, not, ◌||◌, List, [], ◌∷◌, ◌++◌, cond}
use Rattle.std.proofs.Common.{length, map, Some, None, refl, sym, ap, subst, ◌∙◌, inl, inr, arith}
use Rattle.std.specs.List.{list_any}
use Rattle.std.specs.Option.{option_or}
use Rattle.std.proofs.lemmas.Bool.{cases_order, both_ways, lt-ltb, le-ltb}
use Rattle.std.proofs.lemmas.List.{map-append, length-map}
use Rattle.njh_record.specs.declared.Kind.{Kind}
use Rattle.njh_spool.specs.declared.SpoolFault.TheVariants.{QuotaFull, TooManyFiles}
use Rattle.njh_spool.specs.declared.file_slot.Stage.{Stage}
use Rattle.njh_spool.specs.declared.file_slot.Stage.TheVariants.{Free, Partial}
use Rattle.njh_spool.specs.declared.customer_files.CustomerFiles.{CustomerFiles}
use Rattle.njh_spool.specs.CustomerSpool.{CustomerSpool, WholeFile, PartialFile, cost, used_blocks, has_file_room}
use Rattle.njh_spool.specs.CustomerSpool.{has_block, is_number, next_number, with_new_partial}
use Rattle.njh_spool.specs.Spools.{begin_fault, fault_unless}
use Rattle.njh_spool.specs.code.Slots.{Content, is_partial, is_whole_stage, is_free, whole_file, partial_file, spool_of}
use Rattle.njh_spool.specs.code.Slots.{IsOwn}
use Rattle.njh_spool.proofs.NumberLaws.{least_from_is, next_number-below, next_number-free}
use Rattle.njh_spool.proofs.IndexLaws.{put, put_same}
use Rattle.njh_spool.proofs.CountLaws.{map_off, stays, pushed, lengths, any_at}
use Rattle.njh_spool.proofs.OwnLaws.{is_whole_at, is_partial_at, whole_from, partial_from, spool_with, put_off, either}
use Rattle.njh_spool.proofs.OwnLaws.{free_is}
use Rattle.njh_spool.proofs.OwnLaws as laws

-- the least number that no file has is the next one
least_is_next : (s : CustomerSpool) (n : ℕ) → length s.whole + length s.partial < s.limit → is_number n s ≡ false →
    ((m : ℕ) → m < n → is_number m s ≡ true) → n ≡ next_number s
least_is_next s n room free taken =
    let next = least_from_is s.limit 0 s in
    elim (cases_order n (next_number s)) [
      | inl same ↦ same
      | inr (inl below) ↦ absurd (both_ways (is_number n s) free (next.taken n (omega arith) below))
      | inr (inr above) ↦
          absurd (both_ways (is_number (next_number s) s) (next_number-free s room) (taken (next_number s) above))
    ]

module _ (own : CustomerFiles) (files : ℕ → Content) (is : IsOwn own files) where
  number_is-free : (n : ℕ) → is_number n (spool_of own files) ≡ not (is_free (files n).stage)
  number_is-free n =
      ap (λ (b : Bool). b || list_any (is_partial_at n) (map (partial_file files) own.partial))
      (any_at n (is_whole_at n) (whole_file files) (λ m. refl) own.whole (is_whole_stage (files n).stage)
      (is.whole_once n))
      ∙ ap (λ (b : Bool). is_whole_stage (files n).stage || b)
      (any_at n (is_partial_at n) (partial_file files) (λ m. refl) own.partial (is_partial (files n).stage)
      (is.partial_once n))
      ∙ either (files n).stage

  sizes : length (map (whole_file files) own.whole) + length (map (partial_file files) own.partial) ≡ length own.whole +
      length own.partial
  sizes = omega (arith, length-map own.whole (whole_file files), length-map own.partial (partial_file files))

  fault_is : (files_fit blocks_fit : Bool) → has_file_room (spool_of own files) ≡ files_fit
      → has_block (spool_of own files) ≡
      blocks_fit
      → begin_fault (spool_of own files) ≡ option_or (fault_unless files_fit TooManyFiles)
      (fault_unless blocks_fit QuotaFull)
  fault_is files_fit blocks_fit more block =
      ap (λ b. option_or (fault_unless b TooManyFiles) (fault_unless (has_block (spool_of own files)) QuotaFull)) more
      ∙ ap (λ b. option_or (fault_unless files_fit TooManyFiles) (fault_unless b QuotaFull)) block

  pub begin_fault-many : own.limit ≤ length own.whole + length own.partial
      → begin_fault (spool_of own files) ≡ Some TooManyFiles
  begin_fault-many many =
      fault_is false (has_block (spool_of own files))
      (le-ltb (length (map (whole_file files) own.whole) + length (map (partial_file files) own.partial)) own.limit
      (omega (arith, sizes))) refl

  pub begin_fault-full : length own.whole + length own.partial < own.limit → own.quota ≤ own.used →
      begin_fault (spool_of own files) ≡ Some QuotaFull
  begin_fault-full room full =
      fault_is true false (lt-ltb (length (map (whole_file files) own.whole) + length
      (map (partial_file files) own.partial))
      own.limit (omega (arith, sizes))) (le-ltb (used_blocks (spool_of own files)) own.quota
      (omega (arith, is.counted)))

  pub begin_fault-none : length own.whole + length own.partial < own.limit → own.used < own.quota
      → begin_fault (spool_of own files) ≡ None
  begin_fault-none room block =
      fault_is true true (lt-ltb (length (map (whole_file files) own.whole) + length
      (map (partial_file files) own.partial))
      own.limit (omega (arith, sizes))) (lt-ltb (used_blocks (spool_of own files)) own.quota
      (omega (arith, is.counted)))

  not_not : (b : Bool) → not b ≡ false → b ≡ true
  not_not true e = refl
  not_not false e = sym e

  -- where there is room, a number below the limit is free
  pub some_free : length own.whole + length own.partial < own.limit → (next_number (spool_of own files) < own.limit) ×
      (is_free (files (next_number (spool_of own files))).stage ≡ true)
  some_free room =
      let next = next_number (spool_of own files) in
      let fits : length (map (whole_file files) own.whole) + length (map (partial_file files) own.partial) < own.limit =
      omega (arith, sizes) in (
        next_number-below (spool_of own files) fits,
        not_not (is_free (files next).stage) (sym (number_is-free next)
            ∙ next_number-free (spool_of own files) fits),
      )

  pub number_is-next : (n : ℕ) → length own.whole + length own.partial < own.limit → is_free (files n).stage ≡ true →
      ((m : ℕ) → m < n → is_free (files m).stage ≡ false) → n ≡ next_number (spool_of own files)
  number_is-next n room free taken =
      least_is_next (spool_of own files) n (omega (arith, sizes)) (number_is-free n ∙ ap not free)
      (λ m below. number_is-free m ∙ ap not (taken m below))

  pub begins : (n : ℕ) (kind : Kind) (x : Content) (own' : CustomerFiles)
      → length own.whole + length own.partial < own.limit →
      n ≡ next_number (spool_of own files) → is_free (files n).stage ≡ true →
      x ≡ record { stage = Partial; kind = kind; records = [] } → own' ≡ record own { partial = own.partial ++ n ∷ [] }
      →
      IsOwn own' (put files n x) × (spool_of own' (put files n x) ≡ with_new_partial kind (spool_of own files))
  begins n kind x own' room next free same owns =
      let then : CustomerFiles = record own { partial = own.partial ++ n ∷ [] } in
      let was : (files n).stage ≡ Free = free_is (files n).stage free in
      let come = pushed n own.partial in
      let no_whole = is.whole_once n ∙ ap (λ (t : Stage). cond {A = ℕ} (is_whole_stage t) 1 0) was in
      let no_partial = is.partial_once n ∙ ap (λ (t : Stage). cond {A = ℕ} (is_partial t) 1 0) was in
      let first : Content = record { stage = Partial; kind = kind; records = [] } in
      let last : partial_file (put files n x) n ≡ partial_from (next_number (spool_of own files)) first =
      ap (partial_from n) (put_same files n x ∙ same) ∙ ap (λ (m : ℕ). partial_from m first) next in
      let partial_now : map (partial_file (put files n x)) (own.partial ++ n ∷ []) ≡ map (partial_file files)
      own.partial
      ++ partial_from (next_number (spool_of own files)) first ∷ [] =
      map-append (partial_file (put files n x)) own.partial (n ∷ [])
      ∙ ap (λ (fs : List PartialFile). fs ++ partial_file (put files n x) n ∷ [])
      (map_off n (partial_file (put files n x)) (partial_file files) own.partial
      (λ m other. ap (partial_from m) (put_off files n x m other)) no_partial)
      ∙ ap (λ (f : PartialFile). map (partial_file files) own.partial ++ f ∷ []) last in
      subst (λ (o : CustomerFiles). IsOwn o (put files n x) × (spool_of o (put files n x) ≡
      with_new_partial kind (spool_of own files))) (sym owns) (
        laws.changed own files is then n x Free Partial was (ap (λ (y : Content). y.stage) same)
            (stays n false own.whole) come
            refl refl (omega (arith, ap (λ (y : Content). cost y.records) same)) (laws.fits own files is)
            (omega (arith, lengths come)) (omega (arith, next, (some_free room).0)),
        ap (λ (fs : List WholeFile). spool_with own fs (map (partial_file (put files n x)) (own.partial ++ n ∷ [])))
            (map_off n (whole_file (put files n x)) (whole_file files) own.whole
            (λ m other. ap (whole_from m) (put_off files n x m other)) no_whole)
            ∙ ap (spool_with own (map (whole_file files) own.whole)) partial_now,
      )
