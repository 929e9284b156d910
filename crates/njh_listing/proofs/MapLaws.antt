-- What lists of stored files and records say, by the files and records that they are.
use Rattle.std.proofs.Common.{◌≡◌, ◌⊎◌, ℕ, List, [], ◌∷◌, ◌++◌, map, Bool, refl, ap, ◌∙◌}
use Rattle.std.proofs.Common.{subst, inl, inr, Result, Ok, Err, Option, append-nil}
use Rattle.std.specs.Prelude.{OnOk, OnErr, IfOk}
use Rattle.std.specs.List.{flat_map}
use Rattle.std.specs.Io.KnownBytes.{Keeps}
use Rattle.njh_io.specs.Written.{AppendsBeginning}
use Rattle.njh_record.specs.Stored.{Stored}
use Rattle.njh_spoolfile.specs.Kept.{File}
use Rattle.njh_listing.specs.Listed.{IsListed, IsListedInPart, listing_text}
use Rattle.njh_listing.specs.Exported.{IsExportedInPart, export_text}

pub flat_map_mapped : {X Y Z : Type 0} (f : Y → List Z) (g : X → Y) (xs : List X)
    → flat_map (λ x. f (g x)) xs ≡ flat_map f (map g xs)
flat_map_mapped f g [] = refl
flat_map_mapped f g (x ∷ xs) = ap (λ zs. f (g x) ++ zs) (flat_map_mapped f g xs)

-- what an answer appends, by another name of it
pub appends_other : {E T X : Type 0} (r : Result T E) (new old one other : List X) → one ≡ other
    → OnOk r (new ≡ old ++ one) → OnOk r (new ≡ old ++ other)
appends_other (Ok x) new old one other same is = is ∙ ap (λ xs. old ++ xs) same
appends_other (Err e) new old one other same is = tt

-- what an answer has, by another name of it
pub ok_other : {V E : Type 0} (items : V → List ℕ) (r : Result V E) (one other : List ℕ) → one ≡ other
    → IfOk r (λ v. items v ≡ one) → IfOk r (λ v. items v ≡ other)
ok_other items (Ok v) one other same is = is ∙ same
ok_other items (Err e) one other same is = tt

-- a beginning of what is listed, and of what is exported
pub listed_in_part : {T E : Type 0} (r : Result T E) (customer : Option (List ℕ)) (text given : List ℕ)
    (old new : Option (List ℕ))
    → given ≡ text → ((files : List (ℕ × File)) × (text ≡ listing_text customer files))
    → OnErr r (AppendsBeginning old new given)
    → OnErr r (Keeps old new ⊎ IsListedInPart customer old new)
listed_in_part (Ok x) customer text given old new same some begun = tt
listed_in_part (Err e) customer text given old new same some begun =
    let P : List ℕ → Type 0 = λ t. AppendsBeginning old new t in inr (some.0, subst P (same ∙ some.1) begun)

-- the same where nothing of it may have been written either
pub kept_or_listed : {T E : Type 0} (r : Result T E) (customer : Option (List ℕ)) (text given : List ℕ)
    (old new : Option (List ℕ))
    → given ≡ text → ((files : List (ℕ × File)) × (text ≡ listing_text customer files))
    → OnErr r (Keeps old new ⊎ AppendsBeginning old new given)
    → OnErr r (Keeps old new ⊎ IsListedInPart customer old new)
kept_or_listed (Ok x) customer text given old new same some begun = tt
kept_or_listed (Err e) customer text given old new same some (inl kept) = inl kept
kept_or_listed (Err e) customer text given old new same some (inr begun) =
    let P : List ℕ → Type 0 = λ t. AppendsBeginning old new t in inr (some.0, subst P (same ∙ some.1) begun)

pub exported_in_part : {T E : Type 0} (r : Result T E) (raw : Bool) (text given : List ℕ) (old new : Option (List ℕ))
    → given ≡ text → ((records : List Stored) × (text ≡ export_text raw records))
    → OnErr r (AppendsBeginning old new given)
    → OnErr r (Keeps old new ⊎ IsExportedInPart raw old new)
exported_in_part (Ok x) raw text given old new same some begun = tt
exported_in_part (Err e) raw text given old new same some begun =
    let P : List ℕ → Type 0 = λ t. AppendsBeginning old new t in inr (some.0, subst P (same ∙ some.1) begun)

-- the whole listing is a beginning of it
pub listed_whole : {T E : Type 0} (r : Result T E) (customer : Option (List ℕ)) (old new : Option (List ℕ))
    → IsListed customer old new → OnErr r (Keeps old new ⊎ IsListedInPart customer old new)
listed_whole (Ok x) customer old new is = tt
listed_whole (Err e) customer old new is =
    let text = listing_text customer is.0 in inr (is.0, (text, [], append-nil text, is.1))
