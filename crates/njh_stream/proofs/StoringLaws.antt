-- A record for an open file, by the verdict on it.
use Rattle.std.proofs.Common.{◌≡◌, ℕ, Bool, true, false, List, [], ◌∷◌, ◌++◌, Option, Some, Result, Ok, Err}
use Rattle.std.proofs.Common.{MatchOption}
use Rattle.std.proofs.Common.{refl, sym, ap, ◌∙◌}
use Rattle.std.specs.Prelude.{IsOk}
use Rattle.std.specs.Option.{option_map, option_or}
use Rattle.njh_record.specs.Stored.{Stored}
use Rattle.njh_record.specs.declared.Kind.{Kind}
use Rattle.njh_header.specs.FileHeaders.{job_header_of}
use Rattle.njh_table.specs.Entries.{CustomerEntry}
use Rattle.njh_spool.specs.CustomerSpool.{CustomerSpool, partial_records, has_room_for}
use Rattle.njh_stream.specs.declared.receiver.Progress.{Progress}
use Rattle.njh_spool.specs.Spools.{fault_unless}
use Rattle.njh_spool.specs.declared.SpoolFault.{SpoolFault}
use Rattle.njh_spool.specs.declared.SpoolFault.TheVariants.{NoSuchFile, QuotaFull}
use Rattle.njh_stream.specs.declared.coming.ComingFile.{ComingFile}
use Rattle.njh_stream.specs.code.Classes.{unread_progress, IsKept}
use Rattle.njh_stream.specs.code.Verdicts.{appended_where}
use Rattle.njh_stream.proofs.UnreadLaws.{unread_taken}
use Rattle.njh_stream.proofs.ReceivingLaws.{progress_in}
use Rattle.njh_stream.specs.Transmissions.{Taken, Cancelled, verdict_of, with_room}
use Rattle.njh_stream.specs.Receiving.{received_record, stored_by, received_cancelling, notice_of, progress_of}

-- with the records so far by another name
pub stored_after :
    (entry : CustomerEntry) (l : ℕ) (kind : Kind) (n : ℕ) (r : Stored) (s : CustomerSpool) (earlier : List Stored)
    → earlier ≡ partial_records n s
    → received_record entry l kind n r s
    ≡ stored_by (with_room (has_room_for n r s) (earlier ++ r ∷ []) (verdict_of entry l kind earlier r)) kind n r
    (earlier ++ r ∷ []) s
stored_after entry l kind n r s earlier e =
    ap (λ x. stored_by (with_room (has_room_for n r s) (x ++ r ∷ []) (verdict_of entry l kind x r)) kind n r
    (x ++ r ∷ []) s) (sym e)

pub stored_cancelled :
    (entry : CustomerEntry) (l : ℕ) (kind : Kind) (n : ℕ) (r : Stored) (s : CustomerSpool) (earlier : List Stored)
    (text : Option (List ℕ))
    → earlier ≡ partial_records n s → Cancelled text ≡ verdict_of entry l kind earlier r
    → received_cancelling n (notice_of (option_map (λ h. h.origin) (job_header_of (earlier ++ r ∷ []))) text) s
    ≡ received_record entry l kind n r s
stored_cancelled entry l kind n r s earlier text e h =
    ap (λ v. stored_by (with_room (has_room_for n r s) (earlier ++ r ∷ []) v) kind n r (earlier ++ r ∷ []) s) h
    ∙ sym (stored_after entry l kind n r s earlier e)

pub stored_taken :
    (entry : CustomerEntry) (l : ℕ) (kind : Kind) (n : ℕ) (r : Stored) (s : CustomerSpool) (earlier : List Stored)
    (progress : Progress)
    → earlier ≡ partial_records n s → Taken ≡ verdict_of entry l kind earlier r
    → progress ≡ progress_of kind (earlier ++ r ∷ [])
    → appended_where (has_room_for n r s) n progress (job_header_of (earlier ++ r ∷ [])) r s ≡ received_record entry l
    kind n r s
stored_taken entry l kind n r s earlier progress e h progress_is =
    by_room (has_room_for n r s)
    ∙ ap (λ v. stored_by (with_room (has_room_for n r s) (earlier ++ r ∷ []) v) kind n r (earlier ++ r ∷ []) s) h
    ∙ sym (stored_after entry l kind n r s earlier e)
  where
    by_room :
        (b : Bool) → appended_where b n progress (job_header_of (earlier ++ r ∷ [])) r s
        ≡ stored_by (with_room b (earlier ++ r ∷ []) Taken) kind n r (earlier ++ r ∷ []) s
    by_room true = ap (λ p. appended_where true n p (job_header_of (earlier ++ r ∷ [])) r s) progress_is
    by_room false = refl

-- a record that is stored as it is
pub stored_unread :
    (entry : CustomerEntry) (l : ℕ) (file : ComingFile) (r : Stored) (s : CustomerSpool) (earlier : List Stored)
    (progress : Progress)
    → earlier ≡ partial_records file.number s → IsKept file s
    → unread_progress file.kind file.progress r.srcb ≡ Some progress
    → appended_where (has_room_for file.number r s) file.number progress (job_header_of (earlier ++ r ∷ [])) r s
    ≡ received_record entry l file.kind file.number r s
stored_unread entry l file r s earlier progress e kept unread =
    let taken = unread_taken entry l file.kind earlier r file.progress progress
    (progress_in file.kind file.progress file.number s kept ∙ ap (progress_of file.kind) (sym e)) unread in
    stored_taken entry l file.kind file.number r s earlier progress e taken.0 taken.1

-- what was appended had room
pub had_room :
    (there room : Bool) (x : Result (Unit {0}) SpoolFault) → x ≡ Ok tt
    → MatchOption (option_or (fault_unless there NoSuchFile) (fault_unless room QuotaFull)) (IsOk x)
    (λ fault. x ≡ Err fault)
    → room ≡ true
had_room true true x ok h = refl
had_room true false x ok h = let no : Ok tt ≡ Err QuotaFull = sym ok ∙ h in absurd (cc no)
had_room false room x ok h = let no : Ok tt ≡ Err NoSuchFile = sym ok ∙ h in absurd (cc no)
