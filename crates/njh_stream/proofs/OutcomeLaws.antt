-- What a list of records becomes: something, and one thing only.
use Rattle.std.proofs.Common.{◌≡◌, ℕ, Bool, true, false, List, [], ◌∷◌, ◌++◌, Option, None, refl, sym, ap, ◌∙◌, ◌⊎◌}
use Rattle.std.proofs.Common.{inl, inr, true≢false}
use Rattle.njh_record.specs.Stored.{Stored}
use Rattle.njh_record.specs.declared.Kind.{Kind}
use Rattle.njh_table.specs.Entries.{CustomerEntry}
use Rattle.njh_stream.specs.Transmissions.{RecordVerdict, ComingRecord, Taken, Cancelled, judged_coming, is_whole}
use Rattle.njh_stream.specs.Outcomes.{AreTaken, IsCancelled, Becomes, records_of, Ending, EndOfFile, GivenUp, CutOff}
use Rattle.njh_stream.specs.Outcomes.{TransmissionOutcome, AFile, NotWhole, CancelledBy, Dropped}

abbrev pub text_in : RecordVerdict → Option (List ℕ)
text_in Taken = None
text_in (Cancelled text) = text

module _ (entry : CustomerEntry) (l : ℕ) (kind : Kind) where
  pub taken_or_cancelled :
      (earlier : List Stored) (cs : List ComingRecord)
      → AreTaken entry l kind earlier cs ⊎ ((text : Option (List ℕ)) × IsCancelled entry l kind earlier cs text)
  taken_or_cancelled earlier [] = inl tt
  taken_or_cancelled earlier (c ∷ cs) =
      at_verdict (judged_coming entry l kind earlier c) refl (taken_or_cancelled (earlier ++ records_of (c ∷ [])) cs)
    where
      at_verdict :
          (v : RecordVerdict) → judged_coming entry l kind earlier c ≡ v
          → AreTaken entry l kind (earlier ++ records_of (c ∷ [])) cs
          ⊎ ((text : Option (List ℕ)) × IsCancelled entry l kind (earlier ++ records_of (c ∷ [])) cs text)
          → AreTaken entry l kind earlier (c ∷ cs)
          ⊎ ((text : Option (List ℕ)) × IsCancelled entry l kind earlier (c ∷ cs) text)
      at_verdict Taken e (inl more) = inl (e, more)
      at_verdict Taken e (inr more) = inr (more.0, inr (e, more.1))
      at_verdict (Cancelled text) e more = inr (text, inl e)

  pub not_both :
      (earlier : List Stored) (cs : List ComingRecord) (text : Option (List ℕ))
      → AreTaken entry l kind earlier cs → IsCancelled entry l kind earlier cs text → ⊥
  not_both earlier [] text taken refused = refused
  not_both earlier (c ∷ cs) text taken (inl e) = cc (sym taken.0 ∙ e)
  not_both earlier (c ∷ cs) text taken (inr more) = not_both (earlier ++ records_of (c ∷ [])) cs text taken.1 more.1

  pub one_text :
      (earlier : List Stored) (cs : List ComingRecord) (a b : Option (List ℕ))
      → IsCancelled entry l kind earlier cs a → IsCancelled entry l kind earlier cs b → a ≡ b
  one_text earlier [] a b x y = absurd x
  one_text earlier (c ∷ cs) a b (inl e) (inl f) = ap text_in (sym e ∙ f)
  one_text earlier (c ∷ cs) a b (inl e) (inr f) = absurd (cc (sym f.0 ∙ e))
  one_text earlier (c ∷ cs) a b (inr e) (inl f) = absurd (cc (sym e.0 ∙ f))
  one_text earlier (c ∷ cs) a b (inr e) (inr f) = one_text (earlier ++ records_of (c ∷ [])) cs a b e.1 f.1

  pub some_outcome : (cs : List ComingRecord) (ending : Ending) → (outcome : TransmissionOutcome)
      × Becomes entry l kind cs ending outcome
  some_outcome cs ending = at_all ending (taken_or_cancelled [] cs)
    where
      at_whole :
          (b : Bool) → is_whole (records_of cs) ≡ b → AreTaken entry l kind [] cs
          → (outcome : TransmissionOutcome) × Becomes entry l kind cs EndOfFile outcome
      at_whole true e taken = (AFile (records_of cs), (taken, refl, e))
      at_whole false e taken = (NotWhole, (taken, e))

      at_all :
          (ending : Ending) → AreTaken entry l kind [] cs
          ⊎ ((text : Option (List ℕ)) × IsCancelled entry l kind [] cs text)
          → (outcome : TransmissionOutcome) × Becomes entry l kind cs ending outcome
      at_all EndOfFile (inl taken) = at_whole (is_whole (records_of cs)) refl taken
      at_all GivenUp (inl taken) = (Dropped, taken)
      at_all CutOff (inl taken) = (Dropped, taken)
      at_all EndOfFile (inr x) = (CancelledBy x.0, x.1)
      at_all GivenUp (inr x) = (CancelledBy x.0, x.1)
      at_all CutOff (inr x) = (CancelledBy x.0, x.1)

  pub only_one :
      (cs : List ComingRecord) (ending : Ending) (a b : TransmissionOutcome) → Becomes entry l kind cs ending a
      → Becomes entry l kind cs ending b → a ≡ b
  only_one cs EndOfFile (AFile rs) (AFile qs) x y = ap AFile (x.1 ∙ sym y.1)
  only_one cs EndOfFile (AFile rs) NotWhole x y = absurd (true≢false (sym x.2 ∙ ap is_whole x.1 ∙ y.1))
  only_one cs EndOfFile (AFile rs) (CancelledBy text) x y = absurd (not_both [] cs text x.0 y)
  only_one cs EndOfFile (AFile rs) Dropped x y = absurd y
  only_one cs EndOfFile NotWhole (AFile qs) x y = absurd (true≢false (sym y.2 ∙ ap is_whole y.1 ∙ x.1))
  only_one cs EndOfFile NotWhole NotWhole x y = refl
  only_one cs EndOfFile NotWhole (CancelledBy text) x y = absurd (not_both [] cs text x.0 y)
  only_one cs EndOfFile NotWhole Dropped x y = absurd y
  only_one cs EndOfFile (CancelledBy text) (AFile qs) x y = absurd (not_both [] cs text y.0 x)
  only_one cs EndOfFile (CancelledBy text) NotWhole x y = absurd (not_both [] cs text y.0 x)
  only_one cs EndOfFile (CancelledBy text) (CancelledBy other) x y = ap CancelledBy (one_text [] cs text other x y)
  only_one cs EndOfFile (CancelledBy text) Dropped x y = absurd y
  only_one cs EndOfFile Dropped b x y = absurd x
  only_one cs GivenUp (AFile rs) b x y = absurd x
  only_one cs GivenUp NotWhole b x y = absurd x
  only_one cs GivenUp (CancelledBy text) (AFile qs) x y = absurd y
  only_one cs GivenUp (CancelledBy text) NotWhole x y = absurd y
  only_one cs GivenUp (CancelledBy text) (CancelledBy other) x y = ap CancelledBy (one_text [] cs text other x y)
  only_one cs GivenUp (CancelledBy text) Dropped x y = absurd (not_both [] cs text y x)
  only_one cs GivenUp Dropped (AFile qs) x y = absurd y
  only_one cs GivenUp Dropped NotWhole x y = absurd y
  only_one cs GivenUp Dropped (CancelledBy text) x y = absurd (not_both [] cs text x y)
  only_one cs GivenUp Dropped Dropped x y = refl
  only_one cs CutOff (AFile rs) b x y = absurd x
  only_one cs CutOff NotWhole b x y = absurd x
  only_one cs CutOff (CancelledBy text) (AFile qs) x y = absurd y
  only_one cs CutOff (CancelledBy text) NotWhole x y = absurd y
  only_one cs CutOff (CancelledBy text) (CancelledBy other) x y = ap CancelledBy (one_text [] cs text other x y)
  only_one cs CutOff (CancelledBy text) Dropped x y = absurd (not_both [] cs text y x)
  only_one cs CutOff Dropped (AFile qs) x y = absurd y
  only_one cs CutOff Dropped NotWhole x y = absurd y
  only_one cs CutOff Dropped (CancelledBy text) x y = absurd (not_both [] cs text x y)
  only_one cs CutOff Dropped Dropped x y = refl
