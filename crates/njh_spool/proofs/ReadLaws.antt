-- What is read of a customer's file.
use Rattle.std.proofs.Common.{◌≡◌, ℕ, true, false, Option, Some, None, List, [], ◌∷◌, map, All, refl, ap, ◌∙◌}
use Rattle.std.proofs.lemmas.List.Elements.{All-nil, All-cons}
use Rattle.std.specs.Option.{option_map, option_or}
use Rattle.njh_record.specs.Stored.{Stored}
use Rattle.njh_record.specs.declared.Kind.{Kind}
use Rattle.njh_spool.specs.declared.file_slot.Stage.{Stage}
use Rattle.njh_spool.specs.declared.file_slot.Stage.TheVariants.{Free, Partial, Whole}
use Rattle.njh_spool.specs.declared.customer_files.CustomerFiles.{CustomerFiles}
use Rattle.njh_spool.specs.CustomerSpool.{WholeFile, PartialFile, partial_numbered}
use Rattle.njh_spool.specs.Spools.{HasShortRecords, kind_numbered, records_numbered}
use Rattle.njh_spool.specs.code.Packing.{IsShort}
use Rattle.njh_spool.specs.code.Slots.{Content, is_free, is_partial, is_whole_stage, whole_file, spool_of, IsOwn}
use Rattle.njh_spool.proofs.PartialLaws as partial
use Rattle.njh_spool.proofs.WholeLaws as whole

-- the file of a number
pub record HasFile (own : CustomerFiles) (files : ℕ → Content) (n : ℕ) : Type 0 where
  pub kind : kind_numbered n (spool_of own files) ≡ Some (files n).kind
  pub records : records_numbered n (spool_of own files) ≡ Some (files n).records

-- where a customer has no file of a number
pub record HasNoFile (own : CustomerFiles) (files : ℕ → Content) (n : ℕ) : Type 0 where
  pub kind : kind_numbered n (spool_of own files) ≡ None
  pub records : records_numbered n (spool_of own files) ≡ None

-- of a whole and a partial file, or none, what is read
kind_of : Option WholeFile → Option PartialFile → Option Kind
kind_of w p = option_or (option_map (λ f. f.kind) w) (option_map (λ f. f.kind) p)

records_of : Option WholeFile → Option PartialFile → Option (List Stored)
records_of w p = option_or (option_map (λ f. f.records) w) (option_map (λ f. f.records) p)

file_by_stage : (own : CustomerFiles) (files : ℕ → Content) (n : ℕ) (stage : Stage) → IsOwn own files
    → (files n).stage ≡ stage
    → is_free stage ≡ false → HasFile own files n
unfolding kind_of records_of
file_by_stage own files n Free is same there = absurd (let clash : true ≡ false = there in cc)
file_by_stage own files n Partial is same there =
    let s = spool_of own files in
    let no_whole = partial.no_whole own files n is same in
    let found = partial.partial_is own files n is same in
    record {
      kind = ap (λ w. kind_of w (partial_numbered n s)) no_whole ∙ ap (kind_of None) found;
      records = ap (λ w. records_of w (partial_numbered n s)) no_whole ∙ ap (records_of None) found;
    }
file_by_stage own files n (Whole state) is same there =
    let s = spool_of own files in
    let found = whole.whole_is own files n is (ap is_whole_stage same) (ap is_partial same) in
    record {
      kind = ap (λ w. kind_of w (partial_numbered n s)) found;
      records = ap (λ w. records_of w (partial_numbered n s)) found;
    }

pub has_file : (own : CustomerFiles) (files : ℕ → Content) (n : ℕ) → IsOwn own files → is_free (files n).stage ≡ false
    → HasFile own files n
has_file own files n is there = file_by_stage own files n (files n).stage is refl there

pub not_partial_free : (stage : Stage) → is_free stage ≡ true → is_partial stage ≡ false
not_partial_free Free e = refl
not_partial_free Partial e = cc
not_partial_free (Whole state) e = refl

pub not_whole_free : (stage : Stage) → is_free stage ≡ true → is_whole_stage stage ≡ false
not_whole_free Free e = refl
not_whole_free Partial e = refl
not_whole_free (Whole state) e = cc

pub partial_stage : (stage : Stage) → is_partial stage ≡ true → stage ≡ Partial
partial_stage Free e = cc
partial_stage Partial e = refl
partial_stage (Whole state) e = cc

pub whole_not_partial : (stage : Stage) → is_whole_stage stage ≡ true → is_partial stage ≡ false
whole_not_partial Free e = refl
whole_not_partial Partial e = cc
whole_not_partial (Whole state) e = refl

pub has_no_file : (own : CustomerFiles) (files : ℕ → Content) (n : ℕ) → IsOwn own files → is_free (files n).stage ≡ true
    →
    HasNoFile own files n
unfolding kind_of records_of
has_no_file own files n is free =
    let s = spool_of own files in
    let no_whole = (whole.has_no_whole own files n is (not_whole_free (files n).stage free)).none in
    let no_partial = (partial.has_no_partial own files n is (not_partial_free (files n).stage free)).none in
    record {
      kind = ap (λ w. kind_of w (partial_numbered n s)) no_whole ∙ ap (kind_of None) no_partial;
      records = ap (λ w. records_of w (partial_numbered n s)) no_whole ∙ ap (records_of None) no_partial;
    }

-- each of a customer's whole files has short records, where each file has
pub whole_short : (files : ℕ → Content) (numbers : List ℕ) → ((n : ℕ) → All IsShort (files n).records)
    → All HasShortRecords (map (whole_file files) numbers)
whole_short files [] short = All-nil HasShortRecords
whole_short files (n ∷ numbers) short =
    All-cons HasShortRecords (whole_file files n) (map (whole_file files) numbers) (short n)
    (whole_short files numbers short)
