-- What a stream keeps agrees with its file after each arrival.
use Rattle.std.proofs.Common.{◌≡◌, ℕ, Bool, true, false, cond, ◌&&◌, ◌||◌, List, [], ◌∷◌, ◌++◌, length, map, find}
use Rattle.std.proofs.Common.{slice_set, Option, Some, None, ◌==◌, ◌<◌, refl, sym, ap, subst, ◌∙◌, true≢false, eq-eqb}
use Rattle.std.specs.List.{list_any}
use Rattle.njh_record.specs.Stored.{Stored}
use Rattle.njh_record.specs.declared.Kind.{Kind}
use Rattle.njh_record.specs.declared.Kind.TheVariants.{In, Out}
use Rattle.njh_table.specs.Entries.{CustomerEntry}
use Rattle.njh_spool.specs.CustomerSpool.{CustomerSpool, PartialFile, partial_numbered, partial_records, with_appended}
use Rattle.njh_spool.specs.CustomerSpool.{with_new_partial, next_number, has_file_room, has_block, is_number}
use Rattle.njh_spool.specs.CustomerSpool.{without_partial, has_room_for}
use Rattle.njh_spool.specs.Spools.{spool_at, no_spool}
use Rattle.std.specs.Option.{option_map}
use Rattle.std.proofs.lemmas.List.{get_or-set_same}
use Rattle.njh_stream.specs.declared.receiver.Progress.{Progress}
use Rattle.njh_stream.specs.declared.receiver.Progress.TheVariants.{Beginning}
use Rattle.njh_stream.specs.declared.receiver.Receiver.{Receiver}
use Rattle.njh_stream.specs.declared.receiver.Receiver.TheVariants.{Idle, Open, Draining}
use Rattle.njh_stream.specs.Transmissions.{RecordVerdict, Taken, Cancelled, is_whole, judged_coming, verdict_of}
use Rattle.njh_stream.specs.Transmissions.{Fitting}
use Rattle.njh_stream.specs.Receiving.{Arrival, Request, Data, Long, Abort, progress_of, received_request}
use Rattle.njh_stream.specs.Receiving.{requested_where, closed_by, stored_by, received_arrival}
use Rattle.njh_stream.specs.code.Agreement.{Agrees, AgreesWith}
use Rattle.njh_stream.specs.code.HeadersSoFar.{ReadsSoFar}
use Rattle.njh_stream.proofs.HeadersCome.{one_more, was_taken}

-- the next number is no file's, where there may be one file more
abbrev pub IsFree : CustomerSpool → Type 0
IsFree s = has_file_room s ≡ true → is_number (next_number s) s ≡ false

-- ---- a file that begins

pub found_last :
    (n : ℕ) (new : PartialFile) (fs : List PartialFile) → (new.number == n) ≡ true
    → list_any (λ f. f.number == n) fs ≡ false
    → find (λ f. f.number == n) (fs ++ new ∷ []) ≡ Some new
found_last n new [] is none = ap (λ b. cond b (Some new) None) is
found_last n new (f ∷ fs) is none = at_first (f.number == n) (found_last n new fs is) none
  where
    at_first :
        (b : Bool) → (list_any (λ g. g.number == n) fs ≡ false → find (λ g. g.number == n) (fs ++ new ∷ []) ≡ Some new)
        → (b || list_any (λ g. g.number == n) fs) ≡ false
        → cond b (Some f) (find (λ g. g.number == n) (fs ++ new ∷ [])) ≡ Some new
    at_first true more none = absurd (true≢false none)
    at_first false more none = more none

pub or_right : (a b : Bool) → (a || b) ≡ false → b ≡ false
or_right true b h = absurd (true≢false h)
or_right false b h = h

pub and_left : (a b : Bool) → (a && b) ≡ true → a ≡ true
and_left true b h = refl
and_left false b h = absurd (true≢false (sym h))

pub nothing_yet : (kind : Kind) → Beginning ≡ progress_of kind []
nothing_yet In = refl
nothing_yet Out = refl

pub begun_agrees :
    (kind : Kind) (s : CustomerSpool) → is_number (next_number s) s ≡ false
    → AgreesWith kind Beginning (partial_numbered (next_number s) (with_new_partial kind s))
begun_agrees kind s free =
    let new : PartialFile = record { number = next_number s; kind = kind; records = [] } in
    subst (AgreesWith kind Beginning)
    (sym (found_last (next_number s) new s.partial (eq-eqb (next_number s) (next_number s) refl)
    (or_right (list_any (λ f. f.number == next_number s) s.whole) (list_any (λ f. f.number == next_number s) s.partial)
    free)))
    (refl, nothing_yet kind, tt)

pub requested_agrees : (kind : Kind) (s : CustomerSpool) → IsFree s
    → Agrees kind (received_request kind s).receiver (received_request kind s).spool
requested_agrees kind s free = at_room (has_file_room s && has_block s) refl
  where
    at_room :
        (b : Bool) → (has_file_room s && has_block s) ≡ b
        → Agrees kind (requested_where b kind s).receiver (requested_where b kind s).spool
    at_room true e = begun_agrees kind s (free (and_left (has_file_room s) (has_block s) e))
    at_room false e = tt

-- ---- a record more

abbrev pub with_record : Stored → PartialFile → PartialFile
with_record r f = record f { records = f.records ++ r ∷ [] }

pub found_with_record :
    (n : ℕ) (r : Stored) (fs : List PartialFile) (f : PartialFile) → find (λ g. g.number == n) fs ≡ Some f
    → find (λ g. g.number == n) (map (λ g. cond (g.number == n) (with_record r g) g) fs) ≡ Some (with_record r f)
found_with_record n r [] f h = absurd (cc h)
found_with_record n r (g ∷ gs) f h = at_first (g.number == n) refl (found_with_record n r gs f) h
  where
    at_first :
        (b : Bool) → (g.number == n) ≡ b
        → (find (λ x. x.number == n) gs ≡ Some f
        → find (λ x. x.number == n) (map (λ x. cond (x.number == n) (with_record r x) x) gs) ≡ Some (with_record r f))
        → cond b (Some g) (find (λ x. x.number == n) gs) ≡ Some f
        → find (λ x. x.number == n) (cond b (with_record r g) g ∷ map (λ x. cond (x.number == n) (with_record r x) x)
        gs) ≡ Some (with_record r f)
    at_first true e more h =
        ap (λ b. cond b (Some (with_record r g))
        (find (λ x. x.number == n) (map (λ x. cond (x.number == n) (with_record r x) x) gs))) e
        ∙ ap (option_map (with_record r)) h
    at_first false e more h =
        ap (λ b. cond b (Some g) (find (λ x. x.number == n) (map (λ x. cond (x.number == n) (with_record r x) x) gs))) e
        ∙ more h

abbrev pub records_or_none : Option PartialFile → List Stored
records_or_none o = elim o [ Some f ↦ f.records | None ↦ [] ]

pub appended_agrees :
    (kind : Kind) (progress : Progress) (n : ℕ) (r : Stored) (s : CustomerSpool)
    → AgreesWith kind progress (partial_numbered n s)
    → (ReadsSoFar kind (partial_records n s) → ReadsSoFar kind (partial_records n s ++ r ∷ []))
    → AgreesWith kind (progress_of kind (partial_records n s ++ r ∷ [])) (partial_numbered n (with_appended n r s))
appended_agrees kind progress n r s agrees reads = at_file (partial_numbered n s) refl agrees
  where
    at_file :
        (o : Option PartialFile) → partial_numbered n s ≡ o → AgreesWith kind progress o
        → AgreesWith kind (progress_of kind (partial_records n s ++ r ∷ [])) (partial_numbered n (with_appended n r s))
    at_file None e agrees = absurd agrees
    at_file (Some f) e agrees =
        subst (AgreesWith kind (progress_of kind (partial_records n s ++ r ∷ [])))
        (sym (found_with_record n r s.partial f e)) (
          agrees.0,
          ap (λ o. progress_of kind (records_or_none o ++ r ∷ [])) e,
          subst (λ o. ReadsSoFar kind (records_or_none o ++ r ∷ [])) e
              (reads (subst (λ o. ReadsSoFar kind (records_or_none o)) (sym e) agrees.2)),
        )

pub stored_agrees :
    (v : RecordVerdict) (kind : Kind) (progress : Progress) (n : ℕ) (r : Stored) (s : CustomerSpool)
    → AgreesWith kind progress (partial_numbered n s)
    → (v ≡ Taken → ReadsSoFar kind (partial_records n s) → ReadsSoFar kind (partial_records n s ++ r ∷ []))
    → Agrees kind (stored_by v kind n r (partial_records n s ++ r ∷ []) s).receiver
    (stored_by v kind n r (partial_records n s ++ r ∷ []) s).spool
stored_agrees Taken kind progress n r s agrees reads = appended_agrees kind progress n r s agrees (reads refl)
stored_agrees (Cancelled text) kind progress n r s agrees reads = tt

pub closed_agrees : (b : Bool) (kind : Kind) (n : ℕ) (s : CustomerSpool)
    → Agrees kind (closed_by b n s).receiver (closed_by b n s).spool
closed_agrees true kind n s = tt
closed_agrees false kind n s = tt

-- ---- every arrival

pub received_agrees :
    (entry : CustomerEntry) (l : ℕ) (kind : Kind) (r : Receiver) (a : Arrival) (s : CustomerSpool)
    → ((x : CustomerSpool) → IsFree x) → Agrees kind r s
    → Agrees kind (received_arrival entry l kind r a s).receiver (received_arrival entry l kind r a s).spool
received_agrees entry l kind Idle Request s free agrees = requested_agrees kind s (free s)
received_agrees entry l kind Idle (Data srcb bytes) s free agrees = tt
received_agrees entry l kind Idle Long s free agrees = tt
received_agrees entry l kind Idle Abort s free agrees = tt
received_agrees entry l kind Draining Request s free agrees = requested_agrees kind s (free s)
received_agrees entry l kind Draining (Data srcb []) s free agrees = tt
received_agrees entry l kind Draining (Data srcb (b ∷ bytes)) s free agrees = tt
received_agrees entry l kind Draining Long s free agrees = tt
received_agrees entry l kind Draining Abort s free agrees = tt
received_agrees entry l kind (Open n progress) Request s free agrees =
    requested_agrees kind (without_partial n s) (free (without_partial n s))
received_agrees entry l kind (Open n progress) (Data srcb []) s free agrees =
    closed_agrees (is_whole (partial_records n s)) kind n s
received_agrees entry l kind (Open n progress) (Data srcb (b ∷ bytes)) s free agrees =
    let r : Stored = record { srcb = srcb; bytes = b ∷ bytes } in
    let earlier = partial_records n s in
    stored_agrees (judged_coming entry l kind earlier (Fitting r (has_room_for n r s))) kind progress n r s agrees
    (λ taken so_far. one_more entry l kind earlier r so_far
    (was_taken entry l (has_room_for n r s) (earlier ++ r ∷ []) (verdict_of entry l kind earlier r) taken))
received_agrees entry l kind (Open n progress) Long s free agrees = tt
received_agrees entry l kind (Open n progress) Abort s free agrees = tt

-- the same of the whole spool
pub step_agrees :
    (entry : CustomerEntry) (l c : ℕ) (kind : Kind) (r now : Receiver) (a : Arrival) (old new : List CustomerSpool)
    → ((x : CustomerSpool) → IsFree x)
    → c < length old → Agrees kind r (spool_at c old)
    → now ≡ (received_arrival entry l kind r a (spool_at c old)).receiver
    → new ≡ slice_set old c (received_arrival entry l kind r a (spool_at c old)).spool
    → Agrees kind now (spool_at c new)
step_agrees entry l c kind r now a old new free range agrees now_is new_is =
    subst (λ x. Agrees kind x (spool_at c new)) (sym now_is)
    (subst (Agrees kind (received_arrival entry l kind r a (spool_at c old)).receiver)
    (sym (ap (spool_at c) new_is ∙ get_or-set_same old c (received_arrival entry l kind r a (spool_at c old)).spool
    no_spool range))
    (received_agrees entry l kind r a (spool_at c old) free agrees))
