-- What a stream that is open keeps agrees with its file.
use Rattle.std.proofs.Common.{◌≡◌, ◌≢◌, length, ℕ, Bool, true, false, List, [], ◌∷◌, Option, Some, None, ◌==◌, ◌&&◌}
use Rattle.std.proofs.Common.{◌≤◌, ◌<◌, slice_set, ap₂, cond, find, count_by, refl, sym, ap, ◌∙◌, true≢false, eqb-true}
use Rattle.std.proofs.Common.{arith}
use Rattle.std.specs.Option.{option_map, option_or}
use Rattle.std.proofs.lemmas.List.Sums.{sum_by-cons}
use Rattle.njh_record.specs.Stored.{Stored}
use Rattle.njh_record.specs.declared.Kind.{Kind}
use Rattle.njh_record.specs.declared.Kind.TheVariants.{In, Out}
use Rattle.njh_table.specs.Entries.{CustomerEntry}
use Rattle.njh_spool.specs.CustomerSpool.{CustomerSpool, WholeFile, PartialFile, whole_numbered, partial_numbered}
use Rattle.njh_spool.specs.CustomerSpool.{partial_records}
use Rattle.njh_stream.specs.declared.receiver.Progress.{Progress}
use Rattle.njh_stream.specs.declared.receiver.Progress.TheVariants.{JobHeader}
use Rattle.njh_spool.specs.Spools.{IsSound, spool_at, no_spool}
use Rattle.std.proofs.lemmas.List.{set-set, get_or-set_same}
use Rattle.njh_stream.specs.declared.receiver.After.{After}
use Rattle.njh_stream.specs.code.Verdicts.{IsAfter}
use Rattle.njh_stream.specs.SpoolFiles.{records_in}
use Rattle.njh_stream.specs.Transmissions.{is_whole}
use Rattle.njh_stream.specs.Receiving.{progress_of, placement, last_srcb, received_end, closed_by}
use Rattle.njh_stream.specs.Receiving.{received_arrival, received_request}
use Rattle.njh_stream.specs.Receiving.{without_open}
use Rattle.njh_stream.specs.Receiving.{Request}
use Rattle.njh_stream.specs.declared.receiver.Receiver.{Receiver}
use Rattle.njh_stream.specs.declared.receiver.Receiver.TheVariants.{Idle, Open, Draining}
use Rattle.njh_stream.specs.code.Agreement.{AgreesWith, ends_whole}
use Rattle.njh_stream.proofs.ProgressLaws.{ends_by_last, all_job_headers}

-- ---- the end of file

-- no job header is a trailer
pub job_headers_end : (x : Stored) (xs : List Stored) → all_job_headers (x ∷ xs) ≡ true
    → (last_srcb (x ∷ xs) == 0xd0) ≡ false
job_headers_end x [] h = at_srcb (x.srcb == 0xc0) refl h
  where
    at_srcb : (b : Bool) → (x.srcb == 0xc0) ≡ b → (b && true) ≡ true → (x.srcb == 0xd0) ≡ false
    at_srcb true e h = ap (λ n. n == 0xd0) (eqb-true x.srcb 0xc0 e)
    at_srcb false e h = absurd (true≢false (sym h))
job_headers_end x (y ∷ ys) h = job_headers_end y ys (and_right (x.srcb == 0xc0) h)
  where
    and_right : (b : Bool) → (b && all_job_headers (y ∷ ys)) ≡ true → all_job_headers (y ∷ ys) ≡ true
    and_right true h = h
    and_right false h = absurd (true≢false (sym h))

pub whole_by_progress : (kind : Kind) (records : List Stored) → is_whole records ≡ ends_whole (progress_of kind records)
whole_by_progress In [] = refl
whole_by_progress Out [] = refl
whole_by_progress In (x ∷ xs) = ends_by_last 0xd0 x xs
whole_by_progress Out (x ∷ xs) = ends_by_last 0xd0 x xs ∙ at_all (all_job_headers (x ∷ xs)) refl
  where
    at_all :
        (b : Bool) → all_job_headers (x ∷ xs) ≡ b
        → (last_srcb (x ∷ xs) == 0xd0) ≡ ends_whole (elim b [ true ↦ JobHeader | false ↦ placement Out (x ∷ xs) ])
    at_all true e = job_headers_end x xs e
    at_all false e = refl

pub whole_in : (kind : Kind) (progress : Progress) (file : Option PartialFile) → AgreesWith kind progress file
    → is_whole (elim file [ Some f ↦ f.records | None ↦ [] ]) ≡ ends_whole progress
whole_in kind progress None agrees = absurd agrees
whole_in kind progress (Some f) agrees = whole_by_progress kind f.records ∙ ap ends_whole (sym agrees.1)

pub closed_as : (kind : Kind) (progress : Progress) (n : ℕ) (s : CustomerSpool)
    → AgreesWith kind progress (partial_numbered n s)
    → received_end n s ≡ closed_by (ends_whole progress) n s
closed_as kind progress n s agrees = ap (λ b. closed_by b n s) (whole_in kind progress (partial_numbered n s) agrees)

-- ---- the records of a partial file

pub find_counts : {X : Type 0} (p : X → Bool) (xs : List X) (x : X) → find p xs ≡ Some x → 1 ≤ count_by p xs
find_counts p [] x h = absurd (cc h)
find_counts p (y ∷ ys) x h = at_test (p y) refl (find_counts p ys x) h
  where
    at_test :
        (b : Bool) → p y ≡ b → (find p ys ≡ Some x → 1 ≤ count_by p ys) → cond b (Some y) (find p ys) ≡ Some x
        → 1 ≤ count_by p (y ∷ ys)
    at_test true e more h = omega (arith, sum_by-cons (λ z. cond (p z) 1 0) y ys, ap (λ b. cond {A = ℕ} b 1 0) e)
    at_test false e more h = omega (arith, sum_by-cons (λ z. cond (p z) 1 0) y ys, more h)

-- no whole file has a partial file's number
pub no_whole : (n : ℕ) (s : CustomerSpool) (f : PartialFile) → IsSound s → partial_numbered n s ≡ Some f
    → whole_numbered n s ≡ None
no_whole n s f sound h = at_whole (whole_numbered n s) refl
  where
    at_whole : (o : Option WholeFile) → whole_numbered n s ≡ o → o ≡ None
    at_whole None e = refl
    at_whole (Some w) e =
        absurd (omega (
          arith,
          sound.apart n,
          find_counts (λ g. g.number == n) s.whole w e,
          find_counts
              (λ g. g.number == n) s.partial f h,
        ))

pub partial_records_in :
    (kind : Kind) (progress : Progress) (n : ℕ) (s : CustomerSpool) → IsSound s
    → AgreesWith kind progress (partial_numbered n s)
    → records_in n s ≡ partial_records n s
partial_records_in kind progress n s sound agrees = at_partial (partial_numbered n s) refl agrees
  where
    at_partial : (o : Option PartialFile) → partial_numbered n s ≡ o → AgreesWith kind progress o
        → records_in n s ≡ partial_records n s
    at_partial None e agrees = absurd agrees
    at_partial (Some f) e agrees =
        ap (λ w. elim (option_or (option_map (λ g. g.records) w) (option_map (λ g. g.records) (partial_numbered n s)))
        [ Some records ↦ records | None ↦ [] ])
        (no_whole n s f sound e)
        ∙ ap (λ o. elim (option_map (λ g. g.records) o) [ Some records ↦ records | None ↦ [] ]) e
        ∙ ap (λ o. elim o [ Some g ↦ g.records | None ↦ [] ]) (sym e)

pub progress_in : (kind : Kind) (progress : Progress) (n : ℕ) (s : CustomerSpool)
    → AgreesWith kind progress (partial_numbered n s)
    → progress ≡ progress_of kind (partial_records n s)
progress_in kind progress n s agrees = at_partial (partial_numbered n s) agrees
  where
    at_partial : (o : Option PartialFile) → AgreesWith kind progress o
        → progress ≡ progress_of kind (elim o [ Some f ↦ f.records | None ↦ [] ])
    at_partial None agrees = absurd agrees
    at_partial (Some f) agrees = agrees.1

-- ---- a request while a file is open

-- what comes of the file before
pub request_cuts :
    (entry : CustomerEntry) (l : ℕ) (kind : Kind) (receiver : Receiver) (s : CustomerSpool)
    → received_request kind (without_open receiver s) ≡ received_arrival entry l kind receiver Request s
request_cuts entry l kind Idle s = refl
request_cuts entry l kind (Open n progress) s = refl
request_cuts entry l kind Draining s = refl

-- a file that begins after another was given up
pub begun_after :
    (a : After) (new mid old : List CustomerSpool) (c : ℕ) (x : CustomerSpool) (kind : Kind) → c < length old
    → mid ≡ slice_set old c x
    → IsAfter a new mid c (received_request kind (spool_at c mid)) → IsAfter a new old c (received_request kind x)
begun_after a new mid old c x kind range mid_is done =
    record {
      receiver = done.receiver ∙ ap (λ s. (received_request kind s).receiver) part_is;
      answer = done.answer ∙ ap (λ s. (received_request kind s).answer) part_is;
      notice = done.notice ∙ ap (λ s. (received_request kind s).notice) part_is;
      spool =
          done.spool
          ∙ ap₂ (λ m s. slice_set m c (received_request kind s).spool) mid_is part_is
          ∙ set-set old c x (received_request kind x).spool;
    }
  where
    part_is : spool_at c mid ≡ x
    part_is = ap (spool_at c) mid_is ∙ get_or-set_same old c x no_spool range
