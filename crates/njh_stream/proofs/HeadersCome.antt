-- A transmission that becomes a file has headers that read.
use Rattle.std.proofs.Common.{◌≡◌, ℕ, Bool, true, false, List, [], ◌∷◌, ◌++◌, Option, Some, None, Result, Ok, Err, ◌==◌}
use Rattle.std.proofs.Common.{◌&&◌, not, cond, refl, sym, ap, subst, ◌∙◌, inl, inr, true≢false, eqb-true}
use Rattle.std.specs.Option.{option_map}
use Rattle.std.specs.Result.{result_ok}
use Rattle.std.proofs.lemmas.List.{append-nil, append_assoc}
use Rattle.std.proofs.lemmas.List.Folds.{list_all-append}
use Rattle.njh_record.specs.Stored.{Stored, has_srcb}
use Rattle.njh_record.specs.declared.Kind.{Kind}
use Rattle.njh_record.specs.declared.Kind.TheVariants.{In, Out}
use Rattle.njh_header.specs.Headers.{JobHeader, job_header, DataSetHeader, data_set_header, job_name}
use Rattle.njh_header.specs.FileHeaders.{name_of}
use Rattle.njh_header.specs.declared.fault.HeaderFault.{HeaderFault}
use Rattle.njh_table.specs.Entries.{CustomerEntry}
use Rattle.njh_stream.specs.Transmissions.{RecordVerdict, Taken, Cancelled, ComingRecord, Fitting, TooLong, is_whole}
use Rattle.njh_stream.specs.Transmissions.{judged_node, judged_job, judged_later, is_continuation, with_room}
use Rattle.njh_stream.specs.Transmissions.{verdict_of}
use Rattle.njh_stream.specs.Outcomes.{AreTaken, Becomes, records_of, Ending, EndOfFile, GivenUp, CutOff, AFile}
use Rattle.njh_header.specs.WholeFiles.{HasHeaders}
use Rattle.njh_stream.specs.code.HeadersSoFar.{DataSetReads, DestinationReads, ReadsSoFar}
use Rattle.njh_stream.proofs.ProgressLaws.{all_job_headers, header_stays, header_comes, first_header}

module _ (entry : CustomerEntry) (l : ℕ) where
  -- ---- the first record

  job_reads :
      (kind : Kind) (r : Stored) (b : Bool) (header : Result JobHeader HeaderFault)
      → elim b as (λ _. RecordVerdict) [
        | false ↦ Cancelled None
        | true ↦ elim header as (λ _. RecordVerdict) [
          | Err fault ↦ Cancelled None
          | Ok h ↦ elim kind as (λ _. RecordVerdict) [ In ↦ judged_job entry l h | Out ↦ Taken ]
        ]
      ] ≡ Taken
      → (b ≡ true) × ((h : JobHeader) × (cond b (result_ok header) None ≡ Some h))
  job_reads kind r false header v = absurd (cc v)
  job_reads kind r true (Err fault) v = absurd (cc v)
  job_reads kind r true (Ok h) v = (refl, (h, refl))

  destination_so : (kind : Kind) (r : Stored) → has_srcb 0xc0 r ≡ true → DestinationReads kind (r ∷ [])
  destination_so In r e = tt
  destination_so Out r e = inl (ap (λ b. b && true) e)

  first_so : (kind : Kind) (r : Stored) → verdict_of entry l kind [] r ≡ Taken → ReadsSoFar kind (r ∷ [])
  first_so kind r v =
      let reads = job_reads kind r (has_srcb 0xc0 r) (job_header r.bytes) v in
      (reads.1, destination_so kind r reads.0)

  -- ---- a record of an output file behind its first

  data_set_reads :
      (r : Stored) (name : Option Rattle.njh_header.specs.FileNames.FileName) (b : Bool)
      (header : Result DataSetHeader HeaderFault)
      → elim b as (λ _. RecordVerdict) [
        | false ↦ Cancelled None
        | true ↦ elim header as (λ _. RecordVerdict) [
          | Err fault ↦ Cancelled None
          | Ok h ↦ judged_node entry l h.destination.node name
        ]
      ] ≡ Taken
      → (b ≡ true) × ((h : DataSetHeader) × (header ≡ Ok h))
  data_set_reads r name false header v = absurd (cc v)
  data_set_reads r name true (Err fault) v = absurd (cc v)
  data_set_reads r name true (Ok h) v = (refl, (h, refl))

  module _ (x : Stored) (xs : List Stored) (r : Stored) where
    begins : all_job_headers (x ∷ xs) ≡ true → has_srcb 0xe0 r ≡ true
        → (h : DataSetHeader) → data_set_header r.bytes ≡ Ok h → DataSetReads ((x ∷ xs) ++ r ∷ [])
    begins all is_header h reads = (
      h,
      header_comes (x ∷ xs) r all
          ∙ ap (λ n. first_header (n == 0xc0) (record r { srcb = n }) None) (eqb-true r.srcb 0xe0 is_header)
          ∙ ap result_ok reads,
    )

    continued : (b : Bool) → has_srcb 0xc0 r ≡ b → all_job_headers (x ∷ xs) ≡ true
        → elim b as (λ _. RecordVerdict) [
          | true ↦ Taken
          | false ↦ elim (has_srcb 0xe0 r) as (λ _. RecordVerdict) [
            | false ↦ Cancelled None
            | true ↦ elim (data_set_header r.bytes) as (λ _. RecordVerdict) [
              | Err fault ↦ Cancelled None
              | Ok h ↦ judged_node entry l h.destination.node (name_of (x ∷ xs))
            ]
          ]
        ] ≡ Taken
        → DestinationReads Out ((x ∷ xs) ++ r ∷ [])
    continued true e all v =
        inl (list_all-append (has_srcb 0xc0) (x ∷ xs) (r ∷ []) ∙ ap (λ a. a && (has_srcb 0xc0 r && true)) all
        ∙ ap (λ a. a && true) e)
    continued false e all v =
        let reads = data_set_reads r (name_of (x ∷ xs)) (has_srcb 0xe0 r) (data_set_header r.bytes) v in
        inr (begins all reads.0 reads.1.0 reads.1.1)

    has_come : all_job_headers (x ∷ xs) ≡ false → DestinationReads Out (x ∷ xs)
        → DestinationReads Out ((x ∷ xs) ++ r ∷ [])
    has_come e (inl all) = absurd (true≢false (sym all ∙ e))
    has_come e (inr reads) = inr (reads.0, header_stays (x ∷ xs) r e ∙ reads.1)

    output_so : (b : Bool) → all_job_headers (x ∷ xs) ≡ b → DestinationReads Out (x ∷ xs)
        → elim b as (λ _. RecordVerdict) [
          | true ↦ elim (has_srcb 0xc0 r) as (λ _. RecordVerdict) [
            | true ↦ Taken
            | false ↦ elim (has_srcb 0xe0 r) as (λ _. RecordVerdict) [
              | false ↦ Cancelled None
              | true ↦ elim (data_set_header r.bytes) as (λ _. RecordVerdict) [
                | Err fault ↦ Cancelled None
                | Ok h ↦ judged_node entry l h.destination.node (name_of (x ∷ xs))
              ]
            ]
          ]
          | false ↦ elim (has_srcb 0xe0 r && not (is_continuation (x ∷ xs))) as (λ _. RecordVerdict)
              [ true ↦ judged_later (x ∷ xs) r | false ↦ Taken ]
        ] ≡ Taken
        → DestinationReads Out ((x ∷ xs) ++ r ∷ [])
    output_so true e so_far v = continued (has_srcb 0xc0 r) refl e v
    output_so false e so_far v = has_come e so_far

  -- ---- all records

  pub one_more :
      (kind : Kind) (earlier : List Stored) (r : Stored) → ReadsSoFar kind earlier
      → verdict_of entry l kind earlier r ≡ Taken
      → ReadsSoFar kind (earlier ++ r ∷ [])
  one_more kind [] r so_far v = first_so kind r v
  one_more In (x ∷ xs) r so_far v = (so_far.0, tt)
  one_more Out (x ∷ xs) r so_far v = (so_far.0, output_so x xs r (all_job_headers (x ∷ xs)) refl so_far.1 v)

  pub was_taken : (room : Bool) (more : List Stored) (v : RecordVerdict) → with_room room more v ≡ Taken → v ≡ Taken
  was_taken room more (Cancelled text) e = absurd (cc e)
  was_taken true more Taken e = refl
  was_taken false more Taken e = refl

  all_so :
      (kind : Kind) (earlier : List Stored) (cs : List ComingRecord) → ReadsSoFar kind earlier
      → AreTaken entry l kind earlier cs → ReadsSoFar kind (earlier ++ records_of cs)
  all_so kind earlier [] so_far taken = subst (λ rs. ReadsSoFar kind rs) (sym (append-nil earlier)) so_far
  all_so kind earlier (TooLong ∷ cs) so_far taken = absurd (cc taken.0)
  all_so kind earlier (Fitting r room ∷ cs) so_far taken =
      let judged = was_taken room (earlier ++ r ∷ []) (verdict_of entry l kind earlier r) taken.0 in
      subst (λ rs. ReadsSoFar kind rs) (append_assoc earlier (r ∷ []) (records_of cs))
      (all_so kind (earlier ++ r ∷ []) cs (one_more kind earlier r so_far judged) taken.1)

-- ---- a whole file

no_trailer : (records : List Stored) → all_job_headers records ≡ true → is_whole records ≡ false
no_trailer [] all = refl
no_trailer (r ∷ []) all = at_srcb (has_srcb 0xc0 r) refl all
  where
    at_srcb : (b : Bool) → has_srcb 0xc0 r ≡ b → (b && true) ≡ true → has_srcb 0xd0 r ≡ false
    at_srcb true e h = ap (λ n. n == 0xd0) (eqb-true r.srcb 0xc0 e)
    at_srcb false e h = absurd (cc h)
no_trailer (r ∷ s ∷ rs) all = at_first (has_srcb 0xc0 r) (no_trailer (s ∷ rs)) all
  where
    at_first :
        (b : Bool) → (all_job_headers (s ∷ rs) ≡ true → is_whole (s ∷ rs) ≡ false)
        → (b && all_job_headers (s ∷ rs)) ≡ true
        → is_whole (s ∷ rs) ≡ false
    at_first true more h = more h
    at_first false more h = absurd (cc h)

pub whole_headers : (kind : Kind) (records : List Stored) → ReadsSoFar kind records → is_whole records ≡ true
    → HasHeaders kind records
whole_headers kind [] so_far whole = absurd (cc whole)
whole_headers In (r ∷ rs) (job, place) whole =
    record {
      name = job_name job.0;
      owner = job.0.origin;
      destination = job.0.execution;
      named = ap (option_map job_name) job.1;
      owned = ap (option_map (λ (h : JobHeader). h.origin)) job.1;
      goes = ap (option_map (λ (h : JobHeader). h.execution)) job.1;
    }
whole_headers Out (r ∷ rs) (job, inl all) whole = absurd (true≢false (sym whole ∙ no_trailer (r ∷ rs) all))
whole_headers Out (r ∷ rs) (job, inr reads) whole =
    record {
      name = job_name job.0;
      owner = job.0.origin;
      destination = reads.0.destination;
      named = ap (option_map job_name) job.1;
      owned = ap (option_map (λ (h : JobHeader). h.origin)) job.1;
      goes = ap (option_map (λ (h : DataSetHeader). h.destination)) reads.1;
    }

pub headers_come :
    (entry : CustomerEntry) (l : ℕ) (kind : Kind) (cs : List ComingRecord) (ending : Ending) (records : List Stored)
    → Becomes entry l kind cs ending (AFile records) → HasHeaders kind records
headers_come entry l kind cs GivenUp records b = absurd b
headers_come entry l kind cs CutOff records b = absurd b
headers_come entry l kind cs EndOfFile records b =
    subst (λ rs. HasHeaders kind rs) (sym b.1)
    (whole_headers kind (records_of cs) (all_so entry l kind [] cs tt b.0) (subst (λ rs. is_whole rs ≡ true) b.1 b.2))
