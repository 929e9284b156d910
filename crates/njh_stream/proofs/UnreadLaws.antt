-- Which records are stored without a look at their bytes, and what the verdict on the others is.
use Rattle.std.proofs.Common.{◌≡◌, ℕ, Bool, true, false, List, [], ◌∷◌, ◌++◌, Option, Some, None, ◌==◌, not, ◌&&◌, refl}
use Rattle.std.proofs.Common.{sym}
use Rattle.std.proofs.Common.{ap, ap₂, ◌∙◌}
use Rattle.std.proofs.lemmas.List.Folds.{list_all-append}
use Rattle.njh_record.specs.Stored.{Stored, has_srcb}
use Rattle.njh_record.specs.declared.Kind.{Kind}
use Rattle.njh_record.specs.declared.Kind.TheVariants.{In, Out}
use Rattle.njh_table.specs.Entries.{CustomerEntry}
use Rattle.njh_stream.specs.declared.receiver.Progress.{Progress}
use Rattle.njh_stream.specs.declared.receiver.Progress.TheVariants.{Beginning, JobHeader, Placed}
use Rattle.njh_stream.specs.code.Classes.{begins_data_set, unread_progress}
use Rattle.njh_stream.specs.Transmissions.{Taken, ends_in, verdict_of, judged_against, judged_data_set, judged_later}
use Rattle.njh_stream.specs.Receiving.{progress_of, placement}
use Rattle.njh_stream.proofs.ProgressLaws.{all_job_headers, placed_judged, placed_stays, where_all}

-- ---- which records are stored as they are

-- a job header that continues the first
pub job_continued :
    (entry : CustomerEntry) (l : ℕ) (kind : Kind) (file : List Stored) (r : Stored) → JobHeader ≡ progress_of kind file
    → (r.srcb == 0xc0) ≡ true → (Taken ≡ verdict_of entry l kind file r)
    × (JobHeader ≡ progress_of kind (file ++ r ∷ []))
job_continued entry l In [] r h is = absurd (cc h)
job_continued entry l Out [] r h is = absurd (cc h)
job_continued entry l In (x ∷ xs) r h is = absurd (cc h)
job_continued entry l Out (x ∷ xs) r h is = at_all (all_job_headers (x ∷ xs)) refl h
  where
    at_all :
        (b : Bool) → all_job_headers (x ∷ xs) ≡ b
        → JobHeader ≡ elim b [ true ↦ JobHeader | false ↦ placement Out (x ∷ xs) ]
        → (Taken
        ≡ where_all b (elim (has_srcb 0xc0 r) [ true ↦ Taken | false ↦ judged_data_set entry l (x ∷ xs) r ])
        (elim (has_srcb 0xe0 r && not (ends_in 0xe0 (x ∷ xs))) [ true ↦ judged_later (x ∷ xs) r | false ↦ Taken ]))
        × (JobHeader ≡ progress_of Out (x ∷ (xs ++ r ∷ [])))
    at_all false e h = absurd (cc h)
    at_all true e h = (
      ap (λ v. elim v [ true ↦ Taken | false ↦ judged_data_set entry l (x ∷ xs) r ]) (sym is),
      ap (λ v. elim v [ true ↦ JobHeader | false ↦ placement Out (x ∷ (xs ++ r ∷ [])) ])
          (sym (list_all-append (has_srcb 0xc0) (x ∷ xs) (r ∷ []) ∙ ap₂ (λ a n. a && (n && true)) e is)),
    )

-- a record that is stored as it is is taken, and moves the file so far
pub unread_taken :
    (entry : CustomerEntry) (l : ℕ) (kind : Kind) (file : List Stored) (r : Stored) (progress more : Progress)
    → progress ≡ progress_of kind file → unread_progress kind progress r.srcb ≡ Some more
    → (Taken ≡ verdict_of entry l kind file r) × (more ≡ progress_of kind (file ++ r ∷ []))
unread_taken entry l kind file r Beginning more kept e = absurd (cc e)
unread_taken entry l kind file r JobHeader more kept e = at_header (r.srcb == 0xc0) refl e
  where
    at_header :
        (b : Bool) → (r.srcb == 0xc0) ≡ b → elim b [ true ↦ Some JobHeader | false ↦ None ] ≡ Some more
        → (Taken ≡ verdict_of entry l kind file r) × (more ≡ progress_of kind (file ++ r ∷ []))
    at_header false is e = absurd (cc e)
    at_header true is e =
        let same : more ≡ JobHeader = cc e in
        let moved = job_continued entry l kind file r kept is in
        (moved.0, same ∙ moved.1)
unread_taken entry l kind file r (Placed node last) more kept e = at_begins (begins_data_set kind last r.srcb) refl e
  where
    at_begins :
        (b : Bool) → begins_data_set kind last r.srcb ≡ b
        → elim b [ true ↦ None | false ↦ Some (Placed node r.srcb) ] ≡ Some more
        → (Taken ≡ verdict_of entry l kind file r) × (more ≡ progress_of kind (file ++ r ∷ []))
    at_begins true is e = absurd (cc e)
    at_begins false is e =
        let same : more ≡ Placed node r.srcb = cc e in (
          sym (placed_judged entry l kind file r node last kept
              ∙ ap (λ v. elim v [ true ↦ judged_against node r.bytes | false ↦ Taken ]) is),
          same ∙ placed_stays kind file r node last kept,
        )

-- ---- the verdict on the others

no_header : (b : Bool) → ◌≡◌ {A = Option Progress} (elim b [ true ↦ Some JobHeader | false ↦ None ]) None → b ≡ false
no_header true e = absurd (cc e)
no_header false e = refl

-- behind a job header
pub job_judged :
    (entry : CustomerEntry) (l : ℕ) (kind : Kind) (file : List Stored) (r : Stored) → JobHeader ≡ progress_of kind file
    → unread_progress kind JobHeader r.srcb ≡ None → verdict_of entry l kind file r ≡ judged_data_set entry l file r
job_judged entry l In [] r h e = absurd (cc h)
job_judged entry l Out [] r h e = absurd (cc h)
job_judged entry l In (x ∷ xs) r h e = absurd (cc h)
job_judged entry l Out (x ∷ xs) r h e = at_all (all_job_headers (x ∷ xs)) h
  where
    at_all :
        (b : Bool) → JobHeader ≡ elim b [ true ↦ JobHeader | false ↦ placement Out (x ∷ xs) ]
        → where_all b (elim (has_srcb 0xc0 r) [ true ↦ Taken | false ↦ judged_data_set entry l (x ∷ xs) r ])
        (elim (has_srcb 0xe0 r && not (ends_in 0xe0 (x ∷ xs))) [ true ↦ judged_later (x ∷ xs) r | false ↦ Taken ])
        ≡ judged_data_set entry l (x ∷ xs) r
    at_all false h = absurd (cc h)
    at_all true h = ap (λ v. elim v [ true ↦ Taken | false ↦ judged_data_set entry l (x ∷ xs) r ])
        (no_header (r.srcb == 0xc0) e)

-- a later data set header
pub later_judged :
    (entry : CustomerEntry) (l : ℕ) (kind : Kind) (file : List Stored) (r : Stored) (node : List ℕ) (last : ℕ)
    → Placed node last ≡ progress_of kind file → unread_progress kind (Placed node last) r.srcb ≡ None
    → verdict_of entry l kind file r ≡ judged_against node r.bytes
later_judged entry l kind file r node last kept e =
    placed_judged entry l kind file r node last kept
    ∙ ap (λ v. elim v [ true ↦ judged_against node r.bytes | false ↦ Taken ])
    (begins (begins_data_set kind last r.srcb) e)
  where
    begins : (b : Bool) → ◌≡◌ {A = Option Progress} (elim b [ true ↦ None | false ↦ Some (Placed node r.srcb) ]) None
        → b ≡ true
    begins true e = refl
    begins false e = absurd (cc e)
