-- What one stream does to the partial files of its customer.
use Rattle.std.proofs.Common.{◌≡◌, ℕ, Bool, true, false, cond, ◌&&◌, ◌||◌, ◌⊎◌, inl, inr, List, [], ◌∷◌, ◌++◌, Option}
use Rattle.std.proofs.Common.{Some, None, ◌==◌, refl, sym, ap, subst, ◌∙◌}
use Rattle.std.specs.Option.{option_or}
use Rattle.std.specs.List.{list_any}
use Rattle.std.proofs.lemmas.Bool.{ne_eqb}
use Rattle.std.proofs.lemmas.Bool.Decides.{eqb_tells}
use Rattle.std.proofs.lemmas.List.Folds.{find-append}
use Rattle.njh_record.specs.Stored.{Stored}
use Rattle.njh_record.specs.declared.Kind.{Kind}
use Rattle.njh_table.specs.Entries.{CustomerEntry}
use Rattle.njh_spool.specs.CustomerSpool.{CustomerSpool, PartialFile, partial_numbered, partial_records, with_appended}
use Rattle.njh_spool.specs.CustomerSpool.{with_new_partial, without_partial, with_finished, next_number, has_file_room}
use Rattle.njh_spool.specs.CustomerSpool.{has_block, has_room_for, as_whole, with_arrived}
use Rattle.njh_stream.specs.declared.receiver.Receiver.{Receiver}
use Rattle.njh_stream.specs.declared.receiver.Receiver.TheVariants.{Idle, Open, Draining}
use Rattle.njh_stream.specs.Transmissions.{RecordVerdict, Taken, Cancelled, is_whole, judged_coming, Fitting}
use Rattle.njh_stream.specs.Receiving.{Arrival, Request, Data, Long, Abort, received_request, requested_where}
use Rattle.njh_stream.specs.Receiving.{closed_by, stored_by, received_arrival, without_open}
use Rattle.njh_stream.specs.Streams.{coming_file}
use Rattle.njh_stream.proofs.AgreesLaws.{IsFree, or_right, and_left}
use Rattle.njh_stream.proofs.PartialLaws.{numbered, others_kept, others_stay, gone}

-- a partial file of a number is there
pub record Has (n : ℕ) (s : CustomerSpool) : Type 0 where
  pub file : PartialFile
  pub found : partial_numbered n s ≡ Some file

-- A stream that was about one partial file is about another: no third one is touched, the new one is its own or was
-- none before, and what is there has a stream or was there.
pub record Moves (a : Option ℕ) (s : CustomerSpool) (b : Option ℕ) (t : CustomerSpool) : Type 0 where
  pub kept : (n : ℕ) (f : PartialFile) → (a ≡ Some n → ⊥) → partial_numbered n s ≡ Some f
      → partial_numbered n t ≡ Some f
  pub own : (n : ℕ) → b ≡ Some n → (a ≡ Some n) ⊎ (partial_numbered n s ≡ None)
  pub came : (n : ℕ) (f : PartialFile) → partial_numbered n t ≡ Some f → (b ≡ Some n) ⊎ ((a ≡ Some n → ⊥) × Has n s)

-- the number is that of a, or not
about : (a : Option ℕ) (n : ℕ) → (a ≡ Some n) ⊎ (a ≡ Some n → ⊥)
about None n = inr (λ e. absurd (cc e))
about (Some m) n = at_test (eqb_tells m n)
  where
    at_test : ((m == n) ≡ true) × (m ≡ n) ⊎ ((m == n) ≡ false) × (m ≡ n → ⊥) → (Some m ≡ Some n) ⊎ (Some m ≡ Some n → ⊥)
    at_test (inl same) = inl (ap Some same.1)
    at_test (inr other) = inr (λ e. other.1 (cc e))

pub two_moves : (a b c : Option ℕ) (s t u : CustomerSpool) → Moves a s b t → Moves b t c u → Moves a s c u
two_moves a b c s t u first then = record {
  kept = λ n f not found. then.kept n f (λ e. at_own n f not found (first.own n e)) (first.kept n f not found);
  own = λ n e. at_then n (then.own n e);
  came = λ n f found. at_came n (then.came n f found);
}
  where
    at_own : (n : ℕ) (f : PartialFile) → (a ≡ Some n → ⊥) → partial_numbered n s ≡ Some f
        → (a ≡ Some n) ⊎ (partial_numbered n s ≡ None) → ⊥
    at_own n f not found (inl e) = not e
    at_own n f not found (inr none) = cc (sym found ∙ none)

    was : (n : ℕ) → partial_numbered n t ≡ None → (o : Option PartialFile) → partial_numbered n s ≡ o
        → (a ≡ Some n) ⊎ (a ≡ Some n → ⊥)
        → (a ≡ Some n) ⊎ (partial_numbered n s ≡ None)
    was n none o e (inl same) = inl same
    was n none None e (inr not) = inr e
    was n none (Some f) e (inr not) = absurd (cc (sym (first.kept n f not e) ∙ none))

    at_then : (n : ℕ) → (b ≡ Some n) ⊎ (partial_numbered n t ≡ None) → (a ≡ Some n) ⊎ (partial_numbered n s ≡ None)
    at_then n (inl e) = first.own n e
    at_then n (inr none) = was n none (partial_numbered n s) refl (about a n)

    at_first : (n : ℕ) → (b ≡ Some n → ⊥) → (b ≡ Some n) ⊎ ((a ≡ Some n → ⊥) × Has n s)
        → (c ≡ Some n) ⊎ ((a ≡ Some n → ⊥) × Has n s)
    at_first n not (inl e) = absurd (not e)
    at_first n not (inr old) = inr old

    at_came : (n : ℕ) → (c ≡ Some n) ⊎ ((b ≡ Some n → ⊥) × Has n t) → (c ≡ Some n) ⊎ ((a ≡ Some n → ⊥) × Has n s)
    at_came n (inl e) = inl e
    at_came n (inr old) = at_first n old.0 (first.came n old.1.file old.1.found)

-- ---- the moves

pub quiet : (s : CustomerSpool) → Moves None s None s
quiet s = record {
  kept = λ n f not found. found;
  own = λ n e. absurd (cc e);
  came = λ n f found. inr (λ e. absurd (cc e), record { file = f; found = found });
}

none_found : (n : ℕ) (fs : List PartialFile) → list_any (λ f. f.number == n) fs ≡ false → numbered n fs ≡ None
none_found n [] h = refl
none_found n (f ∷ fs) h = at_first (f.number == n) (none_found n fs) h
  where
    at_first :
        (b : Bool) → (list_any (λ g. g.number == n) fs ≡ false → numbered n fs ≡ None)
        → (b || list_any (λ g. g.number == n) fs) ≡ false
        → cond b (Some f) (numbered n fs) ≡ None
    at_first true more h = absurd (cc h)
    at_first false more h = more h

pub begins : (kind : Kind) (s : CustomerSpool) → partial_numbered (next_number s) s ≡ None
    → Moves None s (Some (next_number s)) (with_new_partial kind s)
begins kind s free = record {
  kept = λ n f not found. find-append (λ g. g.number == n) s.partial (new ∷ [])
      ∙ ap (λ o. option_or o (numbered n (new ∷ []))) found;
  own = λ n e. inr (subst (λ m. partial_numbered m s ≡ None) (cc e) free);
  came = λ n f found. at_number n f (sym (find-append (λ g. g.number == n) s.partial (new ∷ [])) ∙ found)
      (numbered n s.partial) refl (eqb_tells (next_number s) n);
}
  where
    new : PartialFile
    new = record { number = next_number s; kind = kind; records = [] }

    at_number :
        (n : ℕ) (f : PartialFile) → option_or (numbered n s.partial) (numbered n (new ∷ [])) ≡ Some f
        → (o : Option PartialFile) → numbered n s.partial ≡ o
        → ((next_number s == n) ≡ true) × (next_number s ≡ n) ⊎ ((next_number s == n) ≡ false) × (next_number s ≡ n → ⊥)
        → (Some (next_number s) ≡ Some n) ⊎ ((None ≡ Some n → ⊥) × Has n s)
    at_number n f found o e (inl same) = inl (ap Some same.1)
    at_number n f found (Some g) e (inr other) = inr (λ x. absurd (cc x), record { file = g; found = e })
    at_number n f found None e (inr other) =
        absurd (cc (sym found ∙ ap (λ o. option_or o (numbered n (new ∷ []))) e
        ∙ ap (λ b. cond b (Some new) None) other.0))

pub abandons : (n : ℕ) (s : CustomerSpool) → Moves (Some n) s None (without_partial n s)
abandons n s = record {
  kept = λ m f not found. others_kept m n (differs m not) s.partial ∙ found;
  own = λ m e. absurd (cc e);
  came = λ m f found. inr (λ e. is_gone m f found (cc e), at_number m f found (eqb_tells m n));
}
  where
    differs : (m : ℕ) → (Some n ≡ Some m → ⊥) → (m == n) ≡ false
    differs m not = ne_eqb m n (λ e. not (ap Some (sym e)))

    is_gone : (m : ℕ) (f : PartialFile) → partial_numbered m (without_partial n s) ≡ Some f → n ≡ m → ⊥
    is_gone m f found e = cc (sym (gone n s.partial) ∙ ap (λ x. partial_numbered x (without_partial n s)) e ∙ found)

    at_number :
        (m : ℕ) (f : PartialFile) → partial_numbered m (without_partial n s) ≡ Some f
        → ((m == n) ≡ true) × (m ≡ n) ⊎ ((m == n) ≡ false) × (m ≡ n → ⊥) → Has m s
    at_number m f found (inl same) = absurd (is_gone m f found (sym same.1))
    at_number m f found (inr other) = record { file = f; found = sym (others_kept m n other.0 s.partial) ∙ found }

pub appends : (n : ℕ) (r : Stored) (s : CustomerSpool) → Moves (Some n) s (Some n) (with_appended n r s)
appends n r s = record {
  kept = λ m f not found. others_stay m n (ne_eqb m n (λ e. not (ap Some (sym e)))) r s.partial ∙ found;
  own = λ m e. inl e;
  came = λ m f found. at_number m f found (eqb_tells m n);
}
  where
    at_number :
        (m : ℕ) (f : PartialFile) → partial_numbered m (with_appended n r s) ≡ Some f
        → ((m == n) ≡ true) × (m ≡ n) ⊎ ((m == n) ≡ false) × (m ≡ n → ⊥)
        → (Some n ≡ Some m) ⊎ ((Some n ≡ Some m → ⊥) × Has m s)
    at_number m f found (inl same) = inl (ap Some (sym same.1))
    at_number m f found (inr other) =
        inr (λ e. other.1 (cc e), record { file = f; found = sym (others_stay m n other.0 r s.partial) ∙ found })

pub finishes : (n : ℕ) (s : CustomerSpool) → Moves (Some n) s None (with_finished n s)
finishes n s = at_file (partial_numbered n s) refl
  where
    at_file :
        (o : Option PartialFile) → partial_numbered n s ≡ o
        → Moves (Some n) s None (elim o [ None ↦ s | Some f ↦ with_arrived (as_whole f) (without_partial n s) ])
    at_file (Some f) e = let x = abandons n s in record { kept = x.kept; own = x.own; came = x.came }
    at_file None e = record {
      kept = λ m f not found. found;
      own = λ m x. absurd (cc x);
      came = λ m f found. inr (
        λ x. cc (sym e ∙ ap (λ y. partial_numbered y s) (cc x) ∙ found),
        record
            { file = f; found = found },
      );
    }

-- ---- every arrival

requests : (kind : Kind) (s : CustomerSpool) → IsFree s
    → Moves None s (coming_file (received_request kind s).receiver) (received_request kind s).spool
requests kind s free = at_room (has_file_room s && has_block s) refl
  where
    at_room : (b : Bool) → (has_file_room s && has_block s) ≡ b
        → Moves None s (coming_file (requested_where b kind s).receiver) (requested_where b kind s).spool
    at_room true e =
        begins kind s (none_found (next_number s) s.partial
        (or_right (list_any (λ f. f.number == next_number s) s.whole)
        (list_any (λ f. f.number == next_number s) s.partial)
        (free (and_left (has_file_room s) (has_block s) e))))
    at_room false e = quiet s

closes : (b : Bool) (n : ℕ) (s : CustomerSpool)
    → Moves (Some n) s (coming_file (closed_by b n s).receiver) (closed_by b n s).spool
closes true n s = finishes n s
closes false n s = abandons n s

stores :
    (v : RecordVerdict) (kind : Kind) (n : ℕ) (r : Stored) (more : List Stored) (s : CustomerSpool)
    → Moves (Some n) s (coming_file (stored_by v kind n r more s).receiver) (stored_by v kind n r more s).spool
stores Taken kind n r more s = appends n r s
stores (Cancelled text) kind n r more s = abandons n s

pub arrivals :
    (entry : CustomerEntry) (l : ℕ) (kind : Kind) (r : Receiver) (a : Arrival) (s : CustomerSpool)
    → ((x : CustomerSpool) → IsFree x)
    → Moves (coming_file r) s (coming_file (received_arrival entry l kind r a s).receiver)
    (received_arrival entry l kind r a s).spool
arrivals entry l kind Idle Request s free = requests kind s (free s)
arrivals entry l kind Idle (Data srcb bytes) s free = quiet s
arrivals entry l kind Idle Long s free = quiet s
arrivals entry l kind Idle Abort s free = quiet s
arrivals entry l kind Draining Request s free = requests kind s (free s)
arrivals entry l kind Draining (Data srcb []) s free = quiet s
arrivals entry l kind Draining (Data srcb (b ∷ bytes)) s free = quiet s
arrivals entry l kind Draining Long s free = quiet s
arrivals entry l kind Draining Abort s free = quiet s
arrivals entry l kind (Open n progress) Request s free =
    let done = received_request kind (without_partial n s) in
    two_moves (Some n) None (coming_file done.receiver) s (without_partial n s) done.spool (abandons n s)
    (requests kind (without_partial n s) (free (without_partial n s)))
arrivals entry l kind (Open n progress) (Data srcb []) s free = closes (is_whole (partial_records n s)) n s
arrivals entry l kind (Open n progress) (Data srcb (b ∷ bytes)) s free =
    let r : Stored = record { srcb = srcb; bytes = b ∷ bytes } in
    let earlier = partial_records n s in
    stores (judged_coming entry l kind earlier (Fitting r (has_room_for n r s))) kind n r (earlier ++ r ∷ []) s
arrivals entry l kind (Open n progress) Long s free = abandons n s
arrivals entry l kind (Open n progress) Abort s free = abandons n s

-- a stream whose session ends
pub ends : (r : Receiver) (s : CustomerSpool) → Moves (coming_file r) s None (without_open r s)
ends Idle s = quiet s
ends (Open n progress) s = abandons n s
ends Draining s = quiet s
