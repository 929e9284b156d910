-- A stream that is followed through all its moments ends as the list of its records becomes.
use Rattle.std.proofs.Common.{◌≡◌, ℕ, true, false, ◌&&◌, List, [], ◌∷◌, ◌++◌, map, Option, Some, None, refl, sym, ap}
use Rattle.std.proofs.Common.{subst, ◌∙◌, ◌⊎◌, inl, inr, ◌==◌, eq-eqb}
use Rattle.std.specs.List.{list_any}
use Rattle.njh_ebcdic.specs.Users.{User}
use Rattle.njh_record.specs.Stored.{Stored}
use Rattle.njh_record.specs.declared.Kind.{Kind}
use Rattle.njh_block.specs.declared.rcb.ControlRcb.TheVariants.{Refusal, Completion}
use Rattle.njh_header.specs.FileHeaders.{file_owner}
use Rattle.njh_table.specs.Entries.{CustomerEntry}
use Rattle.njh_spool.specs.CustomerSpool.{CustomerSpool, PartialFile, partial_numbered, partial_records, with_appended}
use Rattle.njh_spool.specs.CustomerSpool.{with_new_partial, without_partial, next_number, has_file_room, has_block}
use Rattle.njh_spool.specs.CustomerSpool.{has_room_for, as_whole, with_arrived}
use Rattle.njh_stream.specs.declared.receiver.Progress.{Progress}
use Rattle.njh_stream.specs.declared.receiver.Progress.TheVariants.{Beginning}
use Rattle.njh_stream.specs.declared.receiver.Receiver.{Receiver}
use Rattle.njh_stream.specs.declared.receiver.Receiver.TheVariants.{Idle, Open, Draining}
use Rattle.njh_stream.specs.Transmissions.{RecordVerdict, Taken, Cancelled, Fitting, judged_coming, is_whole}
use Rattle.njh_stream.specs.Outcomes.{AreTaken, IsCancelled, Becomes, records_of, Ending, EndOfFile, GivenUp, CutOff}
use Rattle.njh_stream.specs.Outcomes.{TransmissionOutcome, AFile, NotWhole, CancelledBy, Dropped}
use Rattle.njh_stream.specs.Receiving.{Notice, ReceiverStep, received_request, requested_where, stored_by, closed_by}
use Rattle.njh_stream.specs.Receiving.{received_cancelling, notice_of, progress_of}
use Rattle.njh_stream.specs.Following.{Moment, Came, CameLong, coming_at, ended_by, Followed, some_list, alone_outcome}
use Rattle.njh_stream.specs.Following.{before, outcome_of_moments, IsUntouched, following_from}
use Rattle.njh_stream.proofs.AgreesLaws.{IsFree, found_with_record, found_last, or_right, and_left, records_or_none}

-- a file of a number, with these records
abbrev pub file_of : ℕ → Kind → List Stored → PartialFile
file_of n kind records = record { number = n; kind = kind; records = records }

pub appended_snoc : (earlier : List Stored) (r : Stored) (rest : List Stored)
    → (earlier ++ r ∷ []) ++ rest ≡ earlier ++ r ∷ rest
appended_snoc [] r rest = refl
appended_snoc (x ∷ xs) r rest = ap (λ more. x ∷ more) (appended_snoc xs r rest)

-- the owner is of the first record
pub owner_stays : (earlier : List Stored) (r : Stored) (rest : List Stored)
    → file_owner (earlier ++ r ∷ []) ≡ file_owner (earlier ++ r ∷ rest)
owner_stays [] r rest = refl
owner_stays (x ∷ xs) r rest = refl

pub nothing_said : (whom : Option User) → None ≡ notice_of whom None
nothing_said None = refl
nothing_said (Some whom) = refl

pub listed_alone : (o : Option Notice) → some_list o ++ [] ≡ some_list o
listed_alone None = refl
listed_alone (Some notice) = refl

module _ (entry : CustomerEntry) (l n : ℕ) (kind : Kind) (ending : Ending) (srcb : ℕ) (last : CustomerSpool) where
  abbrev pub from : Receiver → List Moment → Followed
  from receiver ms = outcome_of_moments entry l kind ending srcb last receiver ms

  -- what is given up goes by
  pub drained : (ms : List Moment) → from Draining ms
      ≡ record { receiver = Idle; spool = last; answers = []; notices = [] }
  drained [] = at_end ending
    where
      at_end : (e : Ending) → alone_outcome (ended_by entry l kind e srcb Draining last)
          ≡ record { receiver = Idle; spool = last; answers = []; notices = [] }
      at_end EndOfFile = refl
      at_end GivenUp = refl
      at_end CutOff = refl
  drained (Came b c bytes found ∷ ms) = drained ms
  drained (CameLong found ∷ ms) = drained ms

  -- all moments passed, and the file has all records
  pub record HasAll (done : Followed) (records : List Stored) : Type 0 where
    pub ends : done ≡ from (Open n Beginning) []
    pub file : partial_numbered n last ≡ Some (file_of n kind records)

  pub at_the_end : (e : Ending) (progress : Progress)
      → alone_outcome (ended_by entry l kind e srcb (Open n progress) last) ≡ alone_outcome
      (ended_by entry l kind e srcb (Open n Beginning) last)
  at_the_end EndOfFile progress = refl
  at_the_end GivenUp progress = refl
  at_the_end CutOff progress = refl

  -- what a record does that finds the file with the earlier ones
  pub found_records :
      (left found : CustomerSpool) (earlier : List Stored) → partial_numbered n left ≡ Some (file_of n kind earlier)
      → partial_numbered n found ≡ partial_numbered n left → partial_records n found ≡ earlier
  found_records left found earlier file same = ap records_or_none (same ∙ file)

  pub stored_so :
      (found : CustomerSpool) (earlier : List Stored) (r : Stored) (v : RecordVerdict)
      → partial_records n found ≡ earlier
      → judged_coming entry l kind earlier (Fitting r (has_room_for n r found)) ≡ v
      → stored_by (judged_coming entry l kind (partial_records n found) (Fitting r (has_room_for n r found))) kind n r
      (partial_records n found ++ r ∷ []) found
      ≡ stored_by v kind n r (earlier ++ r ∷ []) found
  stored_so found earlier r v same e =
      ap (λ x. stored_by (judged_coming entry l kind x (Fitting r (has_room_for n r found))) kind n r (x ++ r ∷ [])
      found) same
      ∙ ap (λ x. stored_by x kind n r (earlier ++ r ∷ []) found) e

  pub all_taken :
      (ms : List Moment) (left : CustomerSpool) (earlier : List Stored) (progress : Progress)
      → partial_numbered n left ≡ Some (file_of n kind earlier)
      → IsUntouched entry l kind last (Open n progress) left ms
      → AreTaken entry l kind earlier (map (coming_at n) ms)
      → HasAll (from (Open n progress) ms) (earlier ++ records_of (map (coming_at n) ms))
  all_taken [] left earlier progress file same taken =
      record {
        ends = at_the_end ending progress;
        file = same ∙ file
            ∙ ap (λ rs. Some (file_of n kind rs)) (sym (append_nil earlier));
      }
    where
      append_nil : (rs : List Stored) → rs ++ [] ≡ rs
      append_nil [] = refl
      append_nil (x ∷ xs) = ap (λ more. x ∷ more) (append_nil xs)
  all_taken (CameLong found ∷ ms) left earlier progress file same taken = absurd (cc taken.0)
  all_taken (Came s b bytes found ∷ ms) left earlier progress file same taken =
      at_done
      (stored_by (judged_coming entry l kind (partial_records n found) (Fitting r (has_room_for n r found))) kind n r
      (partial_records n found ++ r ∷ []) found)
      (stored_so found earlier r Taken (found_records left found earlier file same.0) taken.0) same.1
      (λ rest. all_taken ms (with_appended n r found) (earlier ++ r ∷ []) (progress_of kind (earlier ++ r ∷ []))
      (found_with_record n r found.partial (file_of n kind earlier) (same.0 ∙ file)) rest taken.1)
    where
      r : Stored
      r = record { srcb = s; bytes = b ∷ bytes }

      at_done :
          (done : ReceiverStep) → done ≡ stored_by Taken kind n r (earlier ++ r ∷ []) found
          → IsUntouched entry l kind last done.receiver done.spool ms
          → (IsUntouched entry l kind last (Open n (progress_of kind (earlier ++ r ∷ []))) (with_appended n r found) ms
          → HasAll (from (Open n (progress_of kind (earlier ++ r ∷ []))) ms)
          ((earlier ++ r ∷ []) ++ records_of (map (coming_at n) ms)))
          → HasAll (before done (from done.receiver ms)) (earlier ++ r ∷ records_of (map (coming_at n) ms))
      at_done done e rest more =
          subst (λ d. HasAll (before d (from d.receiver ms)) (earlier ++ r ∷ records_of (map (coming_at n) ms))) (sym e)
          (subst (HasAll (from (Open n (progress_of kind (earlier ++ r ∷ []))) ms))
          (appended_snoc earlier r (records_of (map (coming_at n) ms)))
          (more (subst (λ d. IsUntouched entry l kind last d.receiver d.spool ms) e rest)))

  abbrev pub told : Option (List ℕ) → List Stored → Followed
  told text records =
      record {
        receiver = Idle;
        spool = last;
        answers = Refusal ∷ [];
        notices = some_list
            (notice_of (file_owner records) text);
      }

  pub first_cancelled :
      (ms : List Moment) (left : CustomerSpool) (earlier : List Stored) (progress : Progress) (text : Option (List ℕ))
      → partial_numbered n left ≡ Some (file_of n kind earlier)
      → IsUntouched entry l kind last (Open n progress) left ms
      → IsCancelled entry l kind earlier (map (coming_at n) ms) text
      → from (Open n progress) ms ≡ told text (earlier ++ records_of (map (coming_at n) ms))
  first_cancelled [] left earlier progress text file same refused = absurd refused
  first_cancelled (CameLong found ∷ ms) left earlier progress text file same (inr more) = absurd (cc more.0)
  first_cancelled (CameLong found ∷ ms) left earlier progress text file same (inl e) =
      ap (before (received_cancelling n None found)) (drained ms)
      ∙ ap (λ o. record { receiver = Idle; spool = last; answers = Refusal ∷ []; notices = some_list o })
      (nothing_said (file_owner (earlier ++ records_of (map (coming_at n) ms))))
      ∙ ap (λ t. told t (earlier ++ records_of (map (coming_at n) ms))) (ap text_of e)
    where
      text_of : RecordVerdict → Option (List ℕ)
      text_of Taken = None
      text_of (Cancelled t) = t
  first_cancelled (Came s b bytes found ∷ ms) left earlier progress text file same refused =
      at_first refused
      (λ rest next. first_cancelled ms (with_appended n r found) (earlier ++ r ∷ [])
      (progress_of kind (earlier ++ r ∷ [])) text
      (found_with_record n r found.partial (file_of n kind earlier) (same.0 ∙ file)) rest next)
    where
      r : Stored
      r = record { srcb = s; bytes = b ∷ bytes }

      done : ReceiverStep
      done = stored_by (judged_coming entry l kind (partial_records n found) (Fitting r (has_room_for n r found))) kind
          n r (partial_records n found ++ r ∷ []) found

      at_first :
          (judged_coming entry l kind earlier (Fitting r (has_room_for n r found)) ≡ Cancelled text)
          ⊎ ((judged_coming entry l kind earlier (Fitting r (has_room_for n r found)) ≡ Taken)
          × IsCancelled entry l kind (earlier ++ r ∷ []) (map (coming_at n) ms) text)
          → (IsUntouched entry l kind last (Open n (progress_of kind (earlier ++ r ∷ []))) (with_appended n r found) ms
          → IsCancelled entry l kind (earlier ++ r ∷ []) (map (coming_at n) ms) text
          → from (Open n (progress_of kind (earlier ++ r ∷ []))) ms
          ≡ told text ((earlier ++ r ∷ []) ++ records_of (map (coming_at n) ms)))
          → before done (from done.receiver ms) ≡ told text (earlier ++ r ∷ records_of (map (coming_at n) ms))
      at_first (inl e) again =
          ap (λ d. before d (from d.receiver ms))
          (stored_so found earlier r (Cancelled text) (found_records left found earlier file same.0) e)
          ∙ ap (before (received_cancelling n (notice_of (file_owner (earlier ++ r ∷ [])) text) found)) (drained ms)
          ∙ ap (λ ns. record { receiver = Idle; spool = last; answers = Refusal ∷ []; notices = ns })
          (listed_alone (notice_of (file_owner (earlier ++ r ∷ [])) text)
          ∙ ap (λ o. some_list (notice_of o text)) (owner_stays earlier r (records_of (map (coming_at n) ms))))
      at_first (inr more) again =
          let e : done ≡ stored_by Taken kind n r (earlier ++ r ∷ []) found =
          stored_so found earlier r Taken (found_records left found earlier file same.0) more.0 in
          ap (λ d. before d (from d.receiver ms)) e
          ∙ again (subst (λ d. IsUntouched entry l kind last d.receiver d.spool ms) e same.1) more.1
          ∙ ap (told text) (appended_snoc earlier r (records_of (map (coming_at n) ms)))

module _ (entry : CustomerEntry) (l n : ℕ) (kind : Kind) (srcb : ℕ) (last : CustomerSpool) where
  -- the end of file, of a file with these records
  pub whole_ends :
      (records : List Stored) → partial_numbered n last ≡ Some (file_of n kind records) → is_whole records ≡ true
      → from entry l n kind EndOfFile srcb last (Open n Beginning) [] ≡ following_from (AFile records) n kind records
      last
  whole_ends records file whole =
      ap (λ b. alone_outcome (closed_by b n last)) (ap is_whole (ap records_or_none file) ∙ whole)
      ∙ ap (λ o. record { receiver = Idle; spool = finished_of o; answers = Completion ∷ []; notices = [] }) file
    where
      finished_of : Option PartialFile → CustomerSpool
      finished_of o = elim o [ None ↦ last | Some f ↦ with_arrived (as_whole f) (without_partial n last) ]

  pub not_whole_ends :
      (records : List Stored) → partial_numbered n last ≡ Some (file_of n kind records) → is_whole records ≡ false
      → from entry l n kind EndOfFile srcb last (Open n Beginning) [] ≡ following_from NotWhole n kind records last
  not_whole_ends records file whole = ap (λ b. alone_outcome (closed_by b n last))
      (ap is_whole (ap records_or_none file) ∙ whole)

  pub open_follows :
      (ms : List Moment) (left : CustomerSpool) (ending : Ending) (outcome : TransmissionOutcome)
      → partial_numbered n left ≡ Some (file_of n kind [])
      → IsUntouched entry l kind last (Open n Beginning) left ms
      → Becomes entry l kind (map (coming_at n) ms) ending outcome
      → from entry l n kind ending srcb last (Open n Beginning) ms ≡ following_from outcome n kind
      (records_of (map (coming_at n) ms)) last
  open_follows ms left EndOfFile (AFile rs) file same becomes =
      let all : HasAll entry l n kind EndOfFile srcb last
      (from entry l n kind EndOfFile srcb last (Open n Beginning) ms) (records_of (map (coming_at n) ms)) =
      all_taken entry l n kind EndOfFile srcb last ms left [] Beginning file same becomes.0 in
      all.ends ∙ whole_ends (records_of (map (coming_at n) ms)) all.file (ap is_whole (sym becomes.1) ∙ becomes.2)
      ∙ ap (λ x. following_from (AFile x) n kind (records_of (map (coming_at n) ms)) last) (sym becomes.1)
  open_follows ms left EndOfFile NotWhole file same becomes =
      let all : HasAll entry l n kind EndOfFile srcb last
      (from entry l n kind EndOfFile srcb last (Open n Beginning) ms) (records_of (map (coming_at n) ms)) =
      all_taken entry l n kind EndOfFile srcb last ms left [] Beginning file same becomes.0 in
      all.ends ∙ not_whole_ends (records_of (map (coming_at n) ms)) all.file becomes.1
  open_follows ms left EndOfFile (CancelledBy text) file same becomes =
      first_cancelled entry l n kind EndOfFile srcb last ms left [] Beginning text file same becomes
  open_follows ms left GivenUp (CancelledBy text) file same becomes =
      first_cancelled entry l n kind GivenUp srcb last ms left [] Beginning text file same becomes
  open_follows ms left CutOff (CancelledBy text) file same becomes =
      first_cancelled entry l n kind CutOff srcb last ms left [] Beginning text file same becomes
  open_follows ms left GivenUp Dropped file same becomes =
      (all_taken entry l n kind GivenUp srcb last ms left [] Beginning file same becomes).ends
  open_follows ms left CutOff Dropped file same becomes =
      (all_taken entry l n kind CutOff srcb last ms left [] Beginning file same becomes).ends
  open_follows ms left EndOfFile Dropped file same becomes = absurd becomes
  open_follows ms left GivenUp (AFile rs) file same becomes = absurd becomes
  open_follows ms left CutOff (AFile rs) file same becomes = absurd becomes
  open_follows ms left GivenUp NotWhole file same becomes = absurd becomes
  open_follows ms left CutOff NotWhole file same becomes = absurd becomes

pub requested_follows :
    (entry : CustomerEntry) (l : ℕ) (kind : Kind) (s last : CustomerSpool) (ms : List Moment) (ending : Ending)
    (srcb : ℕ) (outcome : TransmissionOutcome)
    → IsFree s → (has_file_room s && has_block s) ≡ true
    → IsUntouched entry l kind last (received_request kind s).receiver (received_request kind s).spool ms
    → Becomes entry l kind (map (coming_at (next_number s)) ms) ending outcome
    → outcome_of_moments entry l kind ending srcb last (received_request kind s).receiver ms
    ≡ following_from outcome (next_number s) kind (records_of (map (coming_at (next_number s)) ms)) last
requested_follows entry l kind s last ms ending srcb outcome free room same becomes =
    ap (λ b. outcome_of_moments entry l kind ending srcb last (requested_where b kind s).receiver ms) room
    ∙ open_follows entry l (next_number s) kind srcb last ms (with_new_partial kind s) ending outcome
    (found_last (next_number s) (file_of (next_number s) kind []) s.partial
    (eq-eqb (next_number s) (next_number s) refl)
    (or_right (list_any (λ f. f.number == next_number s) s.whole) (list_any (λ f. f.number == next_number s) s.partial)
    (free (and_left (has_file_room s) (has_block s) room))))
    (subst (λ b. IsUntouched entry l kind last (requested_where b kind s).receiver (requested_where b kind s).spool ms)
    room same)
    becomes
