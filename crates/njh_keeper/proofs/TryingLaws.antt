-- One whole file of a spool that is tried: what comes of it, of its row, and of what is told.
use Rattle.njh_keeper.proofs.Words
use Words.{◌≡◌, ℕ, true, false, List, inr, Option, Some, None, refl, sym, ap, subst, ◌∙◌, State, Changes}
use Words.{inl}
use Words.{StoredFile, File, file_of, SpoolContents, Whole, Holds, whole_in, entry_of, Stays, with_changed, Part}
use Words.{hub_fault}
use Words.{hub_with, number_of, FileFault, Database}
use Rattle.njh_keeper.proofs.AsideLaws.{foreign_fault, hub_aside, hub_back, hub_foreign, marked_is, refusal_none}
use Rattle.njh_keeper.proofs.AsideLaws.{refusal_some, tried_aside, tried_back, tried_foreign, unmarked_is}
use Rattle.njh_keeper.specs.{Refusal.{Refusal, refusal_of}, SetAside.{file_aside, file_taken_up, is_aside, taken_up}}
use Rattle.njh_keeper.specs.SetAside.{refusal, tried, whole_taken_up}
use Rattle.njh_keeper.specs.code.Restoring.{ComesTo, IsTried, KeepsCommit, LeavesRow, StopsAt}
use Rattle.njh_keeper.specs.Faults.{IsNoFile}
use Rattle.njh_keeper.specs.declared.fault.OpeningFault.{OpeningFault, TheVariants.{Memory, Store, File as Refused}}
use Rattle.njh_keeper.specs.declared.fault.RefusedFile.{RefusedFile}
use Rattle.njh_keeper.specs.declared.restoring.Outcome.TheVariants.{Back, Fails, Foreign}

-- ---- what was committed stays

pub keeps_then : {old mid new : State} → KeepsCommit old mid → KeepsCommit mid new → KeepsCommit old new
keeps_then one more = record {
  is_open = λ was. more.is_open (one.is_open was);
  committed = more.committed ∙ one.committed;
}

-- ---- the row

pub row_stays : {id : ℕ} {file : File} {spool : SpoolContents} {at : State} (now : File) → now ≡ file
    → Holds spool at.now.trees → LeavesRow id file now spool at
row_stays {id} {file} {spool} now same held = record { left = spool; holds = held; written = inr (refl, same) }

pub row_changes : {id : ℕ} {now : File} {old new : State} (before : File) (spool : SpoolContents)
    → Changes (with_changed id now) old new → Holds spool old.now.trees → LeavesRow id before now spool new
row_changes {id} {now} before spool by held =
    record { left = with_changed id now spool; holds = by.holds spool held; written = inl refl }

-- ---- what comes of it

module _ (names : List (List ℕ)) (hub : List Part) (w : Whole) (new : List Part) where
  abbrev Is : Type 0
  Is = new ≡ hub_with names hub (tried names hub w)

  abbrev number : Option ℕ
  number = number_of names (taken_up w.file.customer)

  abbrev fault : Option FileFault
  fault = hub_fault names hub (whole_taken_up w)

  pub foreign_is : number ≡ None → new ≡ hub → Is × ComesTo names hub w Foreign
  foreign_is none same = (same ∙ sym (hub_foreign names hub w none), none)

  pub back_is : (c : ℕ) → number ≡ Some c → fault ≡ None → new ≡ hub_with names hub (whole_taken_up w)
      → Is × ComesTo names hub w Back
  back_is c is none moved = (moved ∙ sym (hub_back names hub w c is none), (c, is, none))

  pub fails_is : (c : ℕ) → number ≡ Some c → (why : FileFault) → fault ≡ Some why → new ≡ hub
      → Is × ComesTo names hub w (Fails why)
  fails_is c is why fails same = (same ∙ sym (hub_aside names hub w c why is fails), (c, is, fails))

module _ (names : List (List ℕ)) (hub new : List Part) (f : StoredFile) (spool : SpoolContents) (at : State) where
  abbrev w : Whole
  w = whole_in spool (entry_of f)

  pub foreign_tried : new ≡ hub_with names hub (tried names hub w) → ComesTo names hub w Foreign
      → Holds spool at.now.trees → IsTried names hub new f None spool at
  foreign_tried is none held = record {
    hub = is;
    told_is = sym (refusal_none names hub w (foreign_fault names hub w none));
    row = row_stays (tried names hub w).file (ap (λ v. v.file) (tried_foreign names hub w none)) held;
  }

  pub back_tried : new ≡ hub_with names hub (tried names hub w) → ComesTo names hub w Back
      → LeavesRow f.id (file_of f.file) (file_taken_up (file_of f.file)) spool at
      → IsTried names hub new f None spool at
  back_tried is comes row = record {
    hub = is;
    told_is = sym (refusal_none names hub w comes.2);
    row = subst (λ now. LeavesRow f.id (file_of f.file) now spool at)
        (sym (ap (λ v. v.file) (tried_back names hub w comes.0 comes.1 comes.2))) row;
  }

  pub aside_tried : (why : FileFault) (told : RefusedFile) → new ≡ hub_with names hub (tried names hub w)
      → ComesTo names hub w (Fails why)
      → refusal_of told ≡ record { id = f.id; file = file_taken_up (file_of f.file); fault = why }
      → LeavesRow f.id (file_of f.file) (file_aside (file_of f.file)) spool at
      → IsTried names hub new f (Some told) spool at
  aside_tried why told is comes tells row = record {
    hub = is;
    told_is = ap Some tells ∙ sym (refusal_some names hub w why comes.2);
    row = subst (λ now. LeavesRow f.id (file_of f.file) now spool at)
        (sym (ap (λ v. v.file) (tried_aside names hub w comes.0 why comes.1 comes.2))) row;
  }

  pub refusal_told : (why : FileFault) (told : RefusedFile) → ComesTo names hub w (Fails why)
      → refusal_of told ≡ record { id = f.id; file = file_taken_up (file_of f.file); fault = why }
      → refusal names hub w ≡ Some (refusal_of told)
  refusal_told why told comes tells = refusal_some names hub w why comes.2 ∙ ap Some (sym tells)

-- where no file is told
pub no_file : (fails : Option Refusal) (fault : OpeningFault) → IsNoFile fault → StopsAt fails fault
no_file fails Memory none = tt
no_file fails (Store error) none = tt
no_file fails (Refused told) none = absurd none
