-- What holds of all who wait.
use Rattle.std.proofs.Common.{ℕ, zero, suc, List, [], ◌∷◌, remove, All, Option, Some, None}
use Rattle.std.proofs.lemmas.List.Elements.{All-cons, All-head, All-push, All-set, All-tail}
use Rattle.njh_anteroom.specs.Next.{without_place}
use Rattle.njh_anteroom.specs.Waiting.{seated}
use Rattle.njh_anteroom.specs.declared.entry.Entry.{Entry}
use Rattle.njh_anteroom.specs.declared.entry.Entry.TheVariants.{Renewed, Added, Displaced, TurnedAway}
use Rattle.njh_anteroom.specs.declared.guest.Guest.{Guest}

all_removed : {X : Type 0} (P : X → Type 0) (xs : List X) (i : ℕ) → All P xs → All P (remove xs i)
all_removed P [] zero all = all
all_removed P [] (suc i) all = all
all_removed P (x ∷ xs) zero all = All-tail P x xs all
all_removed P (x ∷ xs) (suc i) all =
    All-cons P x (remove xs i) (All-head P x xs all) (all_removed P xs i (All-tail P x xs all))

-- and of one who comes, holds of all once that one came
pub all_seated : {C : Type 0} (P : Guest C → Type 0) (entry : Entry) (guest : Guest C) (waiting : List (Guest C))
    → P guest → All P waiting → All P (seated entry guest waiting)
all_seated P (Renewed place) guest waiting own all = All-set P waiting place guest own all
all_seated P Added guest waiting own all = All-push P waiting guest all own
all_seated P (Displaced place) guest waiting own all =
    All-push P (remove waiting place) guest (all_removed P waiting place all) own
all_seated P TurnedAway guest waiting own all = all

-- holds of all who are left
pub all_left : {C : Type 0} (P : Guest C → Type 0) (place : Option ℕ) (waiting : List (Guest C)) → All P waiting
    → All P (without_place place waiting)
all_left P None waiting all = all
all_left P (Some place) waiting all = all_removed P waiting place all
