-- What the calls on a partial file make of its customer's spool.
use Rattle.std.proofs.Common.{◌≡◌, ◌≢◌, ℕ, ◌+◌, ◌-◌, ◌<◌, ◌≤◌, Bool, true, false, cond, not, eqb, List, [], ◌∷◌, ◌++◌}
use Rattle.std.proofs.Common.{map, length, filter, count_by, Some, None, refl, sym, ap, subst, ◌∙◌, inl, inr, arith}
use Rattle.std.proofs.Common.{eq-eqb, ne_eqb}
use Rattle.std.specs.Option.{option_or, is_some}
use Rattle.std.proofs.lemmas.Bool.{cases_eq, lt-leb, le-leb}
use Rattle.std.proofs.lemmas.List.{map-append}
use Rattle.std.proofs.lemmas.List.Sums.{count_by-le-length}
use Rattle.njh_record.specs.Stored.{Stored}
use Rattle.njh_spool.specs.declared.State.TheVariants.{Ready}
use Rattle.njh_spool.specs.declared.SpoolFault.TheVariants.{QuotaFull, NoSuchFile}
use Rattle.njh_spool.specs.declared.file_slot.Stage.{Stage}
use Rattle.njh_spool.specs.declared.file_slot.Stage.TheVariants.{Free, Partial, Whole}
use Rattle.njh_spool.specs.declared.customer_files.CustomerFiles.{CustomerFiles}
use Rattle.njh_spool.specs.CustomerSpool.{WholeFile, PartialFile, cost, used_blocks, partial_numbered}
use Rattle.njh_spool.specs.CustomerSpool.{whole_numbered, without_partial, with_appended, with_finished, as_whole}
use Rattle.njh_spool.specs.CustomerSpool.{has_room_for, one_more}
use Rattle.njh_spool.specs.Spools.{append_fault, fault_unless}
use Rattle.njh_spool.specs.code.Slots.{Content, is_partial, is_whole_stage, is_free, whole_file, partial_file, spool_of}
use Rattle.njh_spool.specs.code.Slots.{IsOwn}
use Rattle.njh_spool.proofs.OnlyOne.{filter_none, find_none}
use Rattle.njh_spool.proofs.IndexLaws.{put, put_same}
use Rattle.njh_spool.proofs.CountLaws.{is_at, map_off, sum_off, stays, pushed, taken, taken-none, lengths, any_at}
use Rattle.njh_spool.proofs.CountLaws.{find_at, filter_at, map_both}
use Rattle.njh_spool.proofs.OwnLaws.{is_whole_at, is_partial_at, whole_from, partial_from, costs, spool_with, put_off}
use Rattle.njh_spool.proofs.OwnLaws.{used_is}
use Rattle.njh_spool.proofs.OwnLaws as laws

module _ (own : CustomerFiles) (files : ℕ → Content) (n : ℕ) (is : IsOwn own files)
    (stage : (files n).stage ≡ Partial) where
  once : count_by (is_at n) own.partial ≡ 1
  once = is.partial_once n ∙ ap (λ (t : Stage). cond {A = ℕ} (is_partial t) 1 0) stage

  none : count_by (is_at n) own.whole ≡ 0
  none = is.whole_once n ∙ ap (λ (t : Stage). cond {A = ℕ} (is_whole_stage t) 1 0) stage

  below : n < own.limit
  below = laws.numbered own files is n (ap is_free stage)

  abbrev file : PartialFile
  file = partial_file files n

  abbrev whole : List WholeFile
  whole = map (whole_file files) own.whole

  abbrev rest : List ℕ
  rest = filter (λ m. not (eqb m n)) own.partial

  pub partial_is : partial_numbered n (spool_of own files) ≡ Some file
  partial_is = find_at n (is_partial_at n) (partial_file files) (λ m. refl) own.partial once

  pub no_whole : whole_numbered n (spool_of own files) ≡ None
  no_whole =
      find_none (is_whole_at n) whole (any_at n (is_whole_at n) (whole_file files) (λ m. refl) own.whole false none)

  pub covered : cost (files n).records ≤ own.used
  covered = omega (arith, used_is own files, is.counted, (taken n own.partial once).sums (costs files))

  pub few_whole : length own.whole < own.limit
  few_whole = omega (arith, once, count_by-le-length (is_at n) own.partial, laws.few own files is)

  whole_kept : (x : Content) → map (whole_file (put files n x)) own.whole ≡ whole
  whole_kept x = map_off n (whole_file (put files n x)) (whole_file files) own.whole
      (λ m other. ap (whole_from m) (put_off files n x m other)) none

  rest_kept : (x : Content) → map (partial_file (put files n x)) rest ≡ (without_partial n (spool_of own files)).partial
  rest_kept x =
      map_off n (partial_file (put files n x)) (partial_file files) rest
      (λ m other. ap (partial_from m) (put_off files n x m other)) (taken-none n own.partial once)
      ∙ sym (filter_at n (is_partial_at n) (partial_file files) (λ m. refl) own.partial)

  -- the file goes
  pub abandons : (x : Content) (own' : CustomerFiles) → x.stage ≡ Free →
      own' ≡ record own { used = own.used - cost (files n).records; partial = filter (λ m. not (eqb m n)) own.partial }
      →
      IsOwn own' (put files n x) × (spool_of own' (put files n x) ≡ without_partial n (spool_of own files))
  abandons x own' free owns =
      let then : CustomerFiles = record own { used = own.used - cost (files n).records; partial = rest } in
      let gone = taken n own.partial once in
      subst (λ (o : CustomerFiles). IsOwn o (put files n x) × (spool_of o (put files n x) ≡
      without_partial n (spool_of own files))) (sym owns) (
        laws.changed own files is then n x Partial Free stage free (stays n false own.whole) gone refl refl
            (omega (arith, covered)) (omega (arith, laws.fits own files is))
            (omega (arith, lengths gone, laws.few own files is)) below,
        ap (λ (fs : List WholeFile). spool_with own fs (map (partial_file (put files n x)) rest)) (whole_kept x)
            ∙ ap (spool_with own whole) (rest_kept x),
      )

  -- the file is the last whole one
  pub finishes : (x : Content) (own' : CustomerFiles) → x ≡ record (files n) { stage = Whole Ready } →
      own' ≡ record own {
        whole = own.whole ++ n ∷ [];
        partial = filter (λ m. not (eqb m n)) own.partial;
        arrived = one_more own.arrived;
      } →
      IsOwn own' (put files n x) × (spool_of own' (put files n x) ≡ with_finished n (spool_of own files))
  finishes x own' same owns =
      let then : CustomerFiles =
      record own { whole = own.whole ++ n ∷ []; partial = rest; arrived = one_more own.arrived } in
      let gone = taken n own.partial once in
      let come = pushed n own.whole in
      let last : whole_file (put files n x) n ≡ as_whole file = ap (whole_from n) (put_same files n x ∙ same) in
      let whole_now : map (whole_file (put files n x)) (own.whole ++ n ∷ []) ≡ whole ++ as_whole file ∷ [] =
      map-append (whole_file (put files n x)) own.whole (n ∷ [])
      ∙ ap (λ (fs : List WholeFile). fs ++ whole_file (put files n x)
      n ∷ []) (whole_kept x) ∙ ap (λ (f : WholeFile). whole ++ f ∷ []) last in
      let says : with_finished n (spool_of own files) ≡ spool_with then (whole ++ as_whole file ∷ [])
      (without_partial n (spool_of own files)).partial = rw (partial_is, with_finished) refl in
      subst (λ (o : CustomerFiles). IsOwn o (put files n x) × (spool_of o (put files n x) ≡
      with_finished n (spool_of own files))) (sym owns) (
        laws.changed own files is then n x Partial (Whole Ready) stage (ap (λ (y : Content). y.stage) same) come gone
            refl refl
            (omega (arith, ap (λ (y : Content). cost y.records) same)) (laws.fits own files is)
            (omega (arith, lengths gone, lengths come, laws.few own files is)) below,
        ap (λ (fs : List WholeFile). spool_with then fs (map (partial_file (put files n x)) rest)) whole_now
            ∙ ap (spool_with then (whole ++ as_whole file ∷ [])) (rest_kept x) ∙ sym says,
      )

  -- the file with one record more
  abbrev longer : Stored → Content
  longer r = record (files n) { records = (files n).records ++ r ∷ [] }

  appended_is : (r : Stored) (x : Content) → x ≡ longer r
      → spool_of own (put files n x) ≡ with_appended n r (spool_of own files)
  appended_is r x same =
      let with_record = λ (f : PartialFile). cond (eqb f.number n) (record f { records = f.records ++ r ∷ [] }) f in
      let partial_now : map with_record (map (partial_file files) own.partial) ≡ map (partial_file (put files n x))
      own.partial =
      map_both with_record (partial_file files) (partial_file (put files n x)) own.partial (λ m.
      elim (cases_eq m n) [
        | inl here ↦ rw (here, eq-eqb n n refl) (sym (ap (partial_from n) same))
        | inr other ↦ rw (ne_eqb m n other) refl
      ]) in
      ap (λ (fs : List WholeFile). spool_with own fs (map (partial_file (put files n x)) own.partial)) (whole_kept x)
      ∙ ap (spool_with own whole) (sym partial_now)

  -- the blocks that are used with the record, counted from those without it
  used-appended : (r : Stored)
      → used_blocks (with_appended n r (spool_of own files)) ≡ own.used - cost (files n).records + cost
      ((files n).records ++ r ∷ [])
  used-appended r =
      let new = put files n (longer r) in
      let off : (m : ℕ) → m ≢ n → costs new m ≡ costs files m = λ m other. ap (λ (y : Content). cost y.records)
      (put_off files n (longer r) m other) in
      omega (
        arith,
        ap used_blocks (appended_is r (longer r) refl),
        used_is own new,
        used_is own files,
        is.counted,
        sum_off n (costs new) (costs files) own.whole false off none,
        sum_off n (costs new) (costs files) own.partial true off once,
        ap (λ (y : Content). cost y.records) (put_same files n (longer r)),
        covered,
      )

  append_fault-room : (r : Stored) (room : Bool) → has_room_for n r (spool_of own files) ≡ room →
      append_fault n r (spool_of own files) ≡ fault_unless room QuotaFull
  append_fault-room r room fits =
      ap (λ found. option_or (fault_unless found NoSuchFile)
      (fault_unless (has_room_for n r (spool_of own files)) QuotaFull))
      (ap is_some partial_is) ∙ ap (λ b. fault_unless b QuotaFull) fits

  pub append_fault-full : (r : Stored)
      → own.quota < own.used - cost (files n).records + cost ((files n).records ++ r ∷ []) →
      append_fault n r (spool_of own files) ≡ Some QuotaFull
  append_fault-full r over =
      append_fault-room r false (lt-leb (used_blocks (with_appended n r (spool_of own files))) own.quota
      (omega (arith, used-appended r)))

  pub append_fault-none : (r : Stored)
      → own.used - cost (files n).records + cost ((files n).records ++ r ∷ []) ≤ own.quota →
      append_fault n r (spool_of own files) ≡ None
  append_fault-none r fits =
      append_fault-room r true (le-leb (used_blocks (with_appended n r (spool_of own files))) own.quota
      (omega (arith, used-appended r)))

  pub appends : (r : Stored) (x : Content) (own' : CustomerFiles) (blocks : ℕ) →
      x ≡ record (files n) { records = (files n).records ++ r ∷ [] } → own' ≡ record own { used = blocks } →
      blocks ≡ own.used - cost (files n).records + cost ((files n).records ++ r ∷ []) → blocks ≤ own.quota →
      IsOwn own' (put files n x) × (spool_of own' (put files n x) ≡ with_appended n r (spool_of own files))
  appends r x own' blocks same owns counts fits =
      subst (λ (o : CustomerFiles). IsOwn o (put files n x) × (spool_of o (put files n x) ≡
      with_appended n r (spool_of own files))) (sym owns) (
        laws.changed own files is (record own { used = blocks }) n x Partial Partial stage
            (ap (λ (y : Content). y.stage) same ∙ stage) (stays n false own.whole) (stays n true own.partial) refl refl
            (omega (arith, ap (λ (y : Content). cost y.records) same, covered)) fits (laws.few own files is) below,
        appended_is r x same,
      )

-- where a customer has no partial file of a number
pub record HasNoPartial (own : CustomerFiles) (files : ℕ → Content) (n : ℕ) : Type 0 where
  pub none : partial_numbered n (spool_of own files) ≡ None
  pub appends : (r : Stored) → append_fault n r (spool_of own files) ≡ Some NoSuchFile
  pub abandons : without_partial n (spool_of own files) ≡ spool_of own files
  pub finishes : with_finished n (spool_of own files) ≡ spool_of own files

pub has_no_partial : (own : CustomerFiles) (files : ℕ → Content) (n : ℕ) → IsOwn own files
    → is_partial (files n).stage ≡ false
    → HasNoPartial own files n
has_no_partial own files n is other =
    let s = spool_of own files in
    let empty = any_at n (is_partial_at n) (partial_file files) (λ m. refl) own.partial false
    (is.partial_once n ∙ ap (λ (b : Bool). cond {A = ℕ} b 1 0) other) in
    let none : partial_numbered n s ≡ None = find_none (is_partial_at n) s.partial empty in
    record {
      none = none;
      appends =
          λ r. ap (λ found. option_or (fault_unless found NoSuchFile) (fault_unless (has_room_for n r s) QuotaFull))
          (ap is_some none);
      abandons =
          ap (λ (partial : List PartialFile). record s { partial = partial })
          (filter_none (is_partial_at n) s.partial empty);
      finishes = rw (none, with_finished) refl;
    }
