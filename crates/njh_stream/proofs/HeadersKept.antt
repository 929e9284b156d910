-- What comes on a stream leaves each whole file with headers that read.
use Rattle.std.proofs.Common.{◌≡◌, ℕ, Bool, true, false, ◌&&◌, List, [], ◌∷◌, ◌++◌, Option, Some, None, refl, subst}
use Rattle.std.proofs.Common.{sym}
use Rattle.std.proofs.lemmas.List.Elements.{All-push}
use Rattle.njh_record.specs.Stored.{Stored}
use Rattle.njh_record.specs.declared.Kind.{Kind}
use Rattle.njh_header.specs.WholeFiles.{HasHeaders}
use Rattle.njh_table.specs.Entries.{CustomerEntry}
use Rattle.njh_spool.specs.CustomerSpool.{CustomerSpool, PartialFile, WholeFile, partial_numbered, partial_records}
use Rattle.njh_spool.specs.CustomerSpool.{without_partial, as_whole, with_arrived, has_file_room, has_block}
use Rattle.njh_spool.specs.CustomerSpool.{has_room_for}
use Rattle.njh_stream.specs.declared.receiver.Progress.{Progress}
use Rattle.njh_stream.specs.declared.receiver.Receiver.{Receiver}
use Rattle.njh_stream.specs.declared.receiver.Receiver.TheVariants.{Idle, Open, Draining}
use Rattle.njh_stream.specs.Receiving.{Arrival, Request, Data, Long, Abort, received_arrival, received_request}
use Rattle.njh_stream.specs.Receiving.{requested_where, closed_by, stored_by}
use Rattle.njh_stream.specs.Transmissions.{RecordVerdict, Taken, Cancelled, Fitting, is_whole, judged_coming}
use Rattle.njh_stream.specs.WholeFiles.{HaveHeaders}
use Rattle.njh_stream.specs.code.Agreement.{Agrees, AgreesWith}
use Rattle.njh_stream.proofs.AgreesLaws.{records_or_none}
use Rattle.njh_stream.proofs.HeadersCome.{whole_headers}

abbrev pub ReadsAll : WholeFile → Type 0
ReadsAll f = HasHeaders f.kind f.records

requested_headers : (kind : Kind) (s : CustomerSpool) → HaveHeaders s.whole
    → HaveHeaders (received_request kind s).spool.whole
requested_headers kind s have = at_room (has_file_room s && has_block s)
  where
    at_room : (b : Bool) → HaveHeaders (requested_where b kind s).spool.whole
    at_room true = have
    at_room false = have

stored_headers : (v : RecordVerdict) (kind : Kind) (n : ℕ) (r : Stored) (more : List Stored) (s : CustomerSpool)
    → HaveHeaders s.whole
    → HaveHeaders (stored_by v kind n r more s).spool.whole
stored_headers Taken kind n r more s have = have
stored_headers (Cancelled text) kind n r more s have = have

-- the spool with the file of a number whole, where there is one
abbrev finished_where : ℕ → CustomerSpool → Option PartialFile → CustomerSpool
finished_where n s o = elim o [ None ↦ s | Some f ↦ with_arrived (as_whole f) (without_partial n s) ]

closed_headers : (b : Bool) (kind : Kind) (progress : Progress) (n : ℕ) (s : CustomerSpool)
    → is_whole (partial_records n s) ≡ b → AgreesWith kind progress (partial_numbered n s) → HaveHeaders s.whole
    → HaveHeaders (closed_by b n s).spool.whole
closed_headers false kind progress n s whole agrees have = have
closed_headers true kind progress n s whole agrees have = at_file (partial_numbered n s) agrees whole
  where
    at_file : (o : Option PartialFile) → AgreesWith kind progress o → is_whole (records_or_none o) ≡ true
        → HaveHeaders (finished_where n s o).whole
    at_file None agrees whole = absurd agrees
    at_file (Some f) agrees whole =
        All-push ReadsAll s.whole (as_whole f) have
        (subst (λ k. HasHeaders k f.records) (sym agrees.0) (whole_headers kind f.records agrees.2 whole))

pub received_headers :
    (entry : CustomerEntry) (l : ℕ) (kind : Kind) (r : Receiver) (a : Arrival) (s : CustomerSpool) → Agrees kind r s
    → HaveHeaders s.whole → HaveHeaders (received_arrival entry l kind r a s).spool.whole
received_headers entry l kind Idle Request s agrees have = requested_headers kind s have
received_headers entry l kind Idle (Data srcb bytes) s agrees have = have
received_headers entry l kind Idle Long s agrees have = have
received_headers entry l kind Idle Abort s agrees have = have
received_headers entry l kind Draining Request s agrees have = requested_headers kind s have
received_headers entry l kind Draining (Data srcb []) s agrees have = have
received_headers entry l kind Draining (Data srcb (b ∷ bytes)) s agrees have = have
received_headers entry l kind Draining Long s agrees have = have
received_headers entry l kind Draining Abort s agrees have = have
received_headers entry l kind (Open n progress) Request s agrees have =
    requested_headers kind (without_partial n s) have
received_headers entry l kind (Open n progress) (Data srcb []) s agrees have =
    closed_headers (is_whole (partial_records n s)) kind progress n s refl agrees have
received_headers entry l kind (Open n progress) (Data srcb (b ∷ bytes)) s agrees have =
    let r : Stored = record { srcb = srcb; bytes = b ∷ bytes } in
    let earlier = partial_records n s in
    stored_headers (judged_coming entry l kind earlier (Fitting r (has_room_for n r s))) kind n r (earlier ++ r ∷ []) s
    have
received_headers entry l kind (Open n progress) Long s agrees have = have
received_headers entry l kind (Open n progress) Abort s agrees have = have
