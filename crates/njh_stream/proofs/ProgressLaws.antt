-- What a stream keeps of a file that comes in says what the records so far say, and one record more moves it.
use Rattle.std.proofs.Common.{◌≡◌, ℕ, Bool, true, false, List, [], ◌∷◌, ◌++◌, Option, Some, None, Result, Ok, Err, ◌==◌}
use Rattle.std.proofs.Common.{not, ◌&&◌, cond, refl, sym, ap, ap₂, subst, ◌∙◌, ◌⊎◌, true≢false}
use Rattle.std.specs.List.{list_all}
use Rattle.std.specs.Option.{option_map}
use Rattle.std.specs.Result.{result_ok}
use Rattle.std.proofs.lemmas.List.Folds.{list_all-append}
use Rattle.njh_record.specs.Stored.{Stored, has_srcb}
use Rattle.njh_record.specs.declared.Kind.{Kind}
use Rattle.njh_record.specs.declared.Kind.TheVariants.{In, Out}
use Rattle.njh_header.specs.Headers.{data_set_header, DataSetHeader}
use Rattle.njh_header.specs.FileHeaders.{data_set_header_of}
use Rattle.njh_table.specs.Entries.{CustomerEntry}
use Rattle.njh_stream.specs.declared.receiver.Progress.{Progress}
use Rattle.njh_stream.specs.declared.receiver.Progress.TheVariants.{Beginning, JobHeader, Placed}
use Rattle.njh_header.specs.declared.fault.HeaderFault.{HeaderFault}
use Rattle.njh_stream.specs.declared.judging as declared_judging
use Rattle.njh_stream.specs.declared.judging.RecordVerdict.TheVariants as declared
use Rattle.njh_stream.specs.code.Verdicts.{judged_placed, IsTakenAt, IsProgress, IsHeaderPlaced}
use Rattle.njh_stream.specs.Transmissions.{RecordVerdict, Taken, ends_in, verdict_of, judged_against, judged_later}
use Rattle.njh_stream.specs.Transmissions.{judged_data_set}
use Rattle.njh_stream.specs.Receiving.{progress_of, placement, last_srcb}

-- ---- the last record

pub last_of_more : (rs : List Stored) (r : Stored) → last_srcb (rs ++ r ∷ []) ≡ r.srcb
last_of_more [] r = refl
last_of_more (x ∷ []) r = refl
last_of_more (x ∷ y ∷ ys) r = last_of_more (y ∷ ys) r

pub ends_by_last : (srcb : ℕ) (x : Stored) (xs : List Stored) → ends_in srcb (x ∷ xs) ≡ (last_srcb (x ∷ xs) == srcb)
ends_by_last srcb x [] = refl
ends_by_last srcb x (y ∷ ys) = ends_by_last srcb y ys

-- ---- the first data set header

abbrev pub all_job_headers : List Stored → Bool
all_job_headers records = list_all (has_srcb 0xc0) records

-- what the first record says, where it is a job header or not
abbrev pub first_header : Bool → Stored → Option DataSetHeader → Option DataSetHeader
first_header b x others = elim b [
  | true ↦ others
  | false ↦ cond (x.srcb == 0xe0) (result_ok (data_set_header x.bytes)) None
]

pub header_stays : (xs : List Stored) (r : Stored) → all_job_headers xs ≡ false
    → data_set_header_of (xs ++ r ∷ []) ≡ data_set_header_of xs
header_stays [] r h = absurd (true≢false h)
header_stays (x ∷ xs) r h = at_first (x.srcb == 0xc0) (header_stays xs r) h
  where
    at_first :
        (b : Bool) → (all_job_headers xs ≡ false → data_set_header_of (xs ++ r ∷ []) ≡ data_set_header_of xs)
        → (b && all_job_headers xs) ≡ false
        → first_header b x (data_set_header_of (xs ++ r ∷ [])) ≡ first_header b x (data_set_header_of xs)
    at_first true more h = more h
    at_first false more h = refl

pub header_comes : (xs : List Stored) (r : Stored) → all_job_headers xs ≡ true
    → data_set_header_of (xs ++ r ∷ []) ≡ data_set_header_of (r ∷ [])
header_comes [] r h = refl
header_comes (x ∷ xs) r h = at_first (x.srcb == 0xc0) (header_comes xs r) h
  where
    at_first :
        (b : Bool) → (all_job_headers xs ≡ true → data_set_header_of (xs ++ r ∷ []) ≡ data_set_header_of (r ∷ []))
        → (b && all_job_headers xs) ≡ true
        → first_header b x (data_set_header_of (xs ++ r ∷ [])) ≡ data_set_header_of (r ∷ [])
    at_first true more h = more h
    at_first false more h = absurd (true≢false (sym h))

-- ---- how far a file has come

abbrev pub node_in : Progress → List ℕ
node_in (Placed node last) = node
node_in JobHeader = []
node_in Beginning = []

abbrev pub last_in : Progress → ℕ
last_in (Placed node last) = last
last_in JobHeader = 0
last_in Beginning = 0

pub output_placed : (x : Stored) (xs : List Stored) → all_job_headers (x ∷ xs) ≡ false
    → progress_of Out (x ∷ xs) ≡ placement Out (x ∷ xs)
output_placed x xs h = ap (λ b. elim b [ true ↦ JobHeader | false ↦ placement Out (x ∷ xs) ]) h

-- a job header and continuations of it alone
pub record IsJobFile (kind : Kind) (file : List Stored) : Type 0 where
  pub kind_is : kind ≡ Out
  pub first : Stored
  pub rest : List Stored
  pub file_is : file ≡ first ∷ rest
  pub all_is : all_job_headers file ≡ true

pub where_job : (kind : Kind) (file : List Stored) → JobHeader ≡ progress_of kind file → IsJobFile kind file
where_job In [] h = absurd (cc h)
where_job Out [] h = absurd (cc h)
where_job In (x ∷ xs) h = absurd (cc h)
where_job Out (x ∷ xs) h = at_all (all_job_headers (x ∷ xs)) refl h
  where
    at_all :
        (b : Bool) → all_job_headers (x ∷ xs) ≡ b
        → JobHeader ≡ elim b [ true ↦ JobHeader | false ↦ placement Out (x ∷ xs) ]
        → IsJobFile Out (x ∷ xs)
    at_all true e h = record { kind_is = refl; first = x; rest = xs; file_is = refl; all_is = e }
    at_all false e h = absurd (cc h)

-- the header has come that says where the file goes
pub record IsPlacedFile (kind : Kind) (file : List Stored) (node : List ℕ) (last : ℕ) : Type 0 where
  pub first : Stored
  pub rest : List Stored
  pub file_is : file ≡ first ∷ rest
  pub node_is : node ≡ node_in (placement kind file)
  pub last_is : last ≡ last_srcb file
  pub stage : (kind ≡ In) ⊎ ((kind ≡ Out) × (all_job_headers file ≡ false))

-- ---- one record more

-- after the job header of an output file comes its data set header
pub header_placed :
    (kind : Kind) (file : List Stored) (r : Stored) (h : DataSetHeader) → IsJobFile kind file
    → r.srcb ≡ 0xe0 → data_set_header r.bytes ≡ Ok h
    → progress_of kind (file ++ r ∷ []) ≡ Placed h.destination.node r.srcb
header_placed kind file r h job srcb_is header_is =
    subst (λ k. progress_of k (file ++ r ∷ []) ≡ Placed h.destination.node r.srcb) (sym job.kind_is)
    (subst (λ f. progress_of Out (f ++ r ∷ []) ≡ Placed h.destination.node r.srcb) (sym job.file_is) placed_more)
  where
    -- the record is no job header
    not_all : all_job_headers ((job.first ∷ job.rest) ++ r ∷ []) ≡ false
    not_all =
        list_all-append (has_srcb 0xc0) (job.first ∷ job.rest) (r ∷ [])
        ∙ ap₂ (λ a n. a && ((n == 0xc0) && true)) (ap all_job_headers (sym job.file_is) ∙ job.all_is) srcb_is

    -- so it is the first data set header
    found : data_set_header_of ((job.first ∷ job.rest) ++ r ∷ []) ≡ Some h
    found =
        header_comes (job.first ∷ job.rest) r (ap all_job_headers (sym job.file_is) ∙ job.all_is)
        ∙ ap (λ n. first_header (n == 0xc0) (record r { srcb = n }) None) srcb_is
        ∙ ap result_ok header_is

    node_found : node_in (placement Out ((job.first ∷ job.rest) ++ r ∷ [])) ≡ h.destination.node
    node_found = ap (λ o. elim (option_map (λ x. x.destination) o) [ Some d ↦ d.node | None ↦ [] ]) found

    placed_more : progress_of Out ((job.first ∷ job.rest) ++ r ∷ []) ≡ Placed h.destination.node r.srcb
    placed_more =
        output_placed job.first (job.rest ++ r ∷ []) not_all
        ∙ ap₂ Placed node_found (last_of_more (job.first ∷ job.rest) r)

-- a placed file stays placed
pub placed_stays :
    (kind : Kind) (file : List Stored) (r : Stored) (node : List ℕ) (last : ℕ)
    → Placed node last ≡ progress_of kind file
    → Placed node r.srcb ≡ progress_of kind (file ++ r ∷ [])
placed_stays In [] r node last h = absurd (cc h)
placed_stays Out [] r node last h = absurd (cc h)
placed_stays In (x ∷ xs) r node last h = ap₂ Placed (ap node_in h) (sym (last_of_more (x ∷ xs) r))
placed_stays Out (x ∷ xs) r node last h = at_all (all_job_headers (x ∷ xs)) refl h
  where
    at_all :
        (b : Bool) → all_job_headers (x ∷ xs) ≡ b
        → Placed node last ≡ elim b [ true ↦ JobHeader | false ↦ placement Out (x ∷ xs) ]
        → Placed node r.srcb ≡ progress_of Out (x ∷ (xs ++ r ∷ []))
    at_all true e h = absurd (cc h)
    at_all false e h =
        ap₂ Placed
        (ap node_in h ∙ ap (λ o. elim (option_map (λ d. d.destination) o) [ Some d ↦ d.node | None ↦ [] ])
        (sym (header_stays (x ∷ xs) r e)))
        (sym (last_of_more (x ∷ xs) r))
        ∙ sym (output_placed x (xs ++ r ∷ [])
        (list_all-append (has_srcb 0xc0) (x ∷ xs) (r ∷ []) ∙ ap (λ a. a && (has_srcb 0xc0 r && true)) e))

-- ---- the verdict on a record of a placed file

abbrev pub node_of_header : Option DataSetHeader → List ℕ
node_of_header o = elim o [ Some d ↦ d.destination.node | None ↦ [] ]

abbrev pub node_of_destination : Option DataSetHeader → List ℕ
node_of_destination o = elim (option_map (λ d. d.destination) o) [ Some d ↦ d.node | None ↦ [] ]

pub node_found : (o : Option DataSetHeader) → node_of_header o ≡ node_of_destination o
node_found None = refl
node_found (Some d) = refl

abbrev pub where_all : Bool → RecordVerdict → RecordVerdict → RecordVerdict
where_all b job later = elim b [ true ↦ job | false ↦ later ]

pub placed_judged :
    (entry : CustomerEntry) (l : ℕ) (kind : Kind) (file : List Stored) (r : Stored) (node : List ℕ) (last : ℕ)
    → Placed node last ≡ progress_of kind file
    → verdict_of entry l kind file r ≡ judged_placed kind node last r.srcb r.bytes
placed_judged entry l In [] r node last h = absurd (cc h)
placed_judged entry l Out [] r node last h = absurd (cc h)
placed_judged entry l In (x ∷ xs) r node last h = refl
placed_judged entry l Out (x ∷ xs) r node last h = at_all (all_job_headers (x ∷ xs)) h
  where
    at_all :
        (b : Bool) → Placed node last ≡ elim b [ true ↦ JobHeader | false ↦ placement Out (x ∷ xs) ]
        → where_all b (elim (has_srcb 0xc0 r) [ true ↦ Taken | false ↦ judged_data_set entry l (x ∷ xs) r ])
        (elim (has_srcb 0xe0 r && not (ends_in 0xe0 (x ∷ xs))) [ true ↦ judged_later (x ∷ xs) r | false ↦ Taken ])
        ≡ judged_placed Out node last r.srcb r.bytes
    at_all true h = absurd (cc h)
    at_all false h =
        ap₂ (λ n m. elim ((r.srcb == 0xe0) && not n) [ true ↦ judged_against m r.bytes | false ↦ Taken ])
        (ends_by_last 0xe0 x xs ∙ ap (λ n. n == 0xe0) (sym (ap last_in h)))
        (node_found (data_set_header_of (x ∷ xs)) ∙ sym (ap node_in h))

-- ---- what the verdict says of how far the file has come

pub placed_progress :
    (kind : Kind) (file : List Stored) (r : Stored) (node : List ℕ) (last : ℕ)
    (v : declared_judging.RecordVerdict.RecordVerdict) → Placed node last ≡ progress_of kind file
    → IsTakenAt v (Placed node r.srcb) → IsProgress v kind (file ++ r ∷ [])
placed_progress kind file r node last (declared.Taken progress) h is = is ∙ placed_stays kind file r node last h
placed_progress kind file r node last (declared.Cancelled text) h is = tt

pub header_progress :
    (kind : Kind) (file : List Stored) (r : Stored) (v : declared_judging.RecordVerdict.RecordVerdict)
    → JobHeader ≡ progress_of kind file
    → IsHeaderPlaced v (data_set_header r.bytes) r.srcb → IsProgress v kind (file ++ r ∷ [])
header_progress kind file r (declared.Cancelled text) h is = tt
header_progress kind file r (declared.Taken progress) h is = at_header (data_set_header r.bytes) refl is
  where
    at_header :
        (x : Result DataSetHeader HeaderFault) → data_set_header r.bytes ≡ x
        → IsHeaderPlaced (declared.Taken progress) x r.srcb
        → progress ≡ progress_of kind (file ++ r ∷ [])
    at_header (Err fault) e is = absurd is
    at_header (Ok header) e is = is.0 ∙ sym (header_placed kind file r header (where_job kind file h) is.1 e)
