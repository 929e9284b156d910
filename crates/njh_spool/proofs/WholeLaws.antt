-- What the calls on a whole file make of its customer's spool.
use Rattle.std.proofs.Common.{◌≡◌, ℕ, ◌-◌, ◌<◌, ◌≤◌, Bool, true, false, cond, not, eqb, List, map, filter, count_by}
use Rattle.std.proofs.Common.{Some, None, refl, sym, ap, subst, ◌∙◌, inl, inr, arith, eq-eqb, ne_eqb}
use Rattle.std.proofs.lemmas.Bool.{cases_eq}
use Rattle.njh_spool.specs.declared.file_slot.Stage.{Stage}
use Rattle.njh_spool.specs.declared.file_slot.Stage.TheVariants.{Free, Partial, Whole}
use Rattle.njh_spool.specs.declared.customer_files.CustomerFiles.{CustomerFiles}
use Rattle.njh_spool.specs.CustomerSpool.{WholeFile, PartialFile, cost, whole_numbered, without_whole, on_file}
use Rattle.njh_spool.specs.code.Slots.{Content, is_partial, is_whole_stage, is_free, state_of, whole_file, partial_file}
use Rattle.njh_spool.specs.code.Slots.{spool_of, IsOwn}
use Rattle.njh_spool.proofs.OnlyOne.{filter_none, map_none, find_none}
use Rattle.njh_spool.proofs.IndexLaws.{put}
use Rattle.njh_spool.proofs.CountLaws.{is_at, map_off, stays, taken, taken-none, lengths, any_at, find_at, filter_at}
use Rattle.njh_spool.proofs.CountLaws.{map_both}
use Rattle.njh_spool.proofs.OwnLaws.{is_whole_at, whole_from, partial_from, costs, spool_with, put_off, used_is}
use Rattle.njh_spool.proofs.OwnLaws as laws

whole_stage : (stage : Stage) → is_whole_stage stage ≡ true → stage ≡ Whole (state_of stage)
whole_stage Free e = cc
whole_stage Partial e = cc
whole_stage (Whole state) e = refl

module _ (own : CustomerFiles) (files : ℕ → Content) (n : ℕ) (is : IsOwn own files)
    (stage : is_whole_stage (files n).stage ≡ true)
    (other : is_partial (files n).stage ≡ false) where
  once : count_by (is_at n) own.whole ≡ 1
  once = is.whole_once n ∙ ap (λ (b : Bool). cond {A = ℕ} b 1 0) stage

  none : count_by (is_at n) own.partial ≡ 0
  none = is.partial_once n ∙ ap (λ (b : Bool). cond {A = ℕ} b 1 0) other

  was : (files n).stage ≡ Whole (state_of (files n).stage)
  was = whole_stage (files n).stage stage

  below : n < own.limit
  below = laws.numbered own files is n (ap is_free was)

  abbrev rest : List ℕ
  rest = filter (λ m. not (eqb m n)) own.whole

  abbrev partial : List PartialFile
  partial = map (partial_file files) own.partial

  pub whole_is : whole_numbered n (spool_of own files) ≡ Some (whole_file files n)
  whole_is = find_at n (is_whole_at n) (whole_file files) (λ m. refl) own.whole once

  pub covered : cost (files n).records ≤ own.used
  covered = omega (arith, used_is own files, is.counted, (taken n own.whole once).sums (costs files))

  partial_kept : (x : Content) → map (partial_file (put files n x)) own.partial ≡ partial
  partial_kept x = map_off n (partial_file (put files n x)) (partial_file files) own.partial
      (λ m apart. ap (partial_from m) (put_off files n x m apart)) none

  -- the file goes
  pub removes : (x : Content) (own' : CustomerFiles) → x.stage ≡ Free →
      own' ≡ record own { used = own.used - cost (files n).records; whole = filter (λ m. not (eqb m n)) own.whole } →
      IsOwn own' (put files n x) × (spool_of own' (put files n x) ≡ without_whole n (spool_of own files))
  removes x own' free owns =
      let then : CustomerFiles = record own { used = own.used - cost (files n).records; whole = rest } in
      let gone = taken n own.whole once in
      let rest_kept = map_off n (whole_file (put files n x)) (whole_file files) rest
      (λ m apart. ap (whole_from m) (put_off files n x m apart)) (taken-none n own.whole once)
      ∙ sym (filter_at n (is_whole_at n) (whole_file files) (λ m. refl) own.whole) in
      subst (λ (o : CustomerFiles). IsOwn o (put files n x) × (spool_of o (put files n x) ≡
      without_whole n (spool_of own files))) (sym owns) (
        laws.changed own files is then n x (Whole (state_of (files n).stage)) Free was free gone
            (stays n false own.partial)
            refl refl (omega (arith, covered)) (omega (arith, laws.fits own files is))
            (omega (arith, lengths gone, laws.few own files is)) below,
        ap (λ (fs : List WholeFile). spool_with own fs (map (partial_file (put files n x)) own.partial)) rest_kept
            ∙ ap (spool_with own (without_whole n (spool_of own files)).whole) (partial_kept x),
      )

  -- the file is another, of as many blocks
  pub changes : (change : WholeFile → WholeFile) (x : Content) → is_whole_stage x.stage ≡ true
      → is_partial x.stage ≡ false →
      whole_from n x ≡ change (whole_file files n) → cost x.records ≡ cost (files n).records → IsOwn own (put files n x)
      ×
      (spool_of own (put files n x) ≡ on_file n change (spool_of own files))
  changes change x now not_yet same blocks =
      let at_file = λ (f : WholeFile). cond (eqb f.number n) (change f) f in
      let whole_now : map at_file (map (whole_file files) own.whole) ≡ map (whole_file (put files n x)) own.whole =
      map_both at_file (whole_file files) (whole_file (put files n x)) own.whole (λ m.
      elim (cases_eq m n) [
        | inl here ↦ rw (here, eq-eqb n n refl) (sym same)
        | inr apart ↦ rw (ne_eqb m n apart) refl
      ]) in (
        laws.changed own files is own n x (Whole (state_of (files n).stage)) (Whole (state_of x.stage)) was
            (whole_stage x.stage now) (stays n true own.whole) (stays n false own.partial) refl refl
            (omega (arith, blocks))
            (laws.fits own files is) (laws.few own files is) below,
        ap (λ (fs : List WholeFile). spool_with own fs (map (partial_file (put files n x)) own.partial)) (sym whole_now)
            ∙ ap (spool_with own (on_file n change (spool_of own files)).whole) (partial_kept x),
      )

-- where a customer has no whole file of a number
pub record HasNoWhole (own : CustomerFiles) (files : ℕ → Content) (n : ℕ) : Type 0 where
  pub none : whole_numbered n (spool_of own files) ≡ None
  pub removes : without_whole n (spool_of own files) ≡ spool_of own files
  pub changes : (change : WholeFile → WholeFile) → on_file n change (spool_of own files) ≡ spool_of own files

pub has_no_whole : (own : CustomerFiles) (files : ℕ → Content) (n : ℕ) → IsOwn own files
    → is_whole_stage (files n).stage ≡ false →
    HasNoWhole own files n
has_no_whole own files n is missing =
    let s = spool_of own files in
    let empty = any_at n (is_whole_at n) (whole_file files) (λ m. refl) own.whole false
    (is.whole_once n ∙ ap (λ (b : Bool). cond {A = ℕ} b 1 0) missing) in
    record {
      none = find_none (is_whole_at n) s.whole empty;
      removes = ap (λ (whole : List WholeFile). record s { whole = whole }) (filter_none (is_whole_at n) s.whole empty);
      changes =
          λ change. ap (λ (whole : List WholeFile). record s { whole = whole })
          (map_none (is_whole_at n) change s.whole empty);
    }
