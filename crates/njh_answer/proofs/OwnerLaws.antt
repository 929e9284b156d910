-- Each file of a name that has an owner is that owner's.
use Rattle.std.proofs.Common.{◌≡◌, ◌∙◌, Bool, true, false, cond, List, [], ◌∷◌, length, map, refl, sym, subst, arith}
use Rattle.std.proofs.Common.{ap, ◌<◌}
use Rattle.std.proofs.lemmas.Slice.Eq.{bytes_eq-Decides}
use Rattle.std.specs.List.{AllByRecursion, fold}
use Rattle.std.specs.Prelude.{Result, Ok, Err, is_ok}
use Rattle.njh_ebcdic.specs.Users.{User}
use Rattle.njh_header.specs.FileNames.{FileName}
use Rattle.njh_hub.specs.Files.{said_owner}
use Rattle.njh_request.specs.declared.refusal.RequestRefusal.{RequestRefusal}
use Rattle.njh_request.specs.declared.refusal.RequestRefusal.TheVariants as refusal
use Rattle.njh_spool.specs.CustomerSpool.{WholeFile}
use Rattle.njh_answer.specs.Laws.{OwnersOwnAll}
use Rattle.njh_answer.specs.Owners.{IsOwnedBy, files_called, is_same_user, owner_by}

abbrev owner-of : WholeFile → User
owner-of f = said_owner f.records

-- the user in a result, or another
abbrev owner-in : User → Result User RequestRefusal → User
owner-in other (Ok user) = user
owner-in other (Err refused) = other

same-user : (user : User) → is_same_user user user ≡ true
same-user user =
    rw ((bytes_eq-Decides user.node user.node).1 refl, (bytes_eq-Decides user.user user.user).1 refl) refl

several : (files : List WholeFile)
    → fold owner_by (Err refusal.SeveralOwners) (map owner-of files) ≡ Err refusal.SeveralOwners
several [] = refl
several (f ∷ files) = several files

owned-case : (same : Bool) (f : WholeFile) (files : List WholeFile) (first owner : User)
    → (fold owner_by (Ok first) (map owner-of files) ≡ Ok owner
    → (first ≡ owner) × AllByRecursion (IsOwnedBy owner) files)
    → is_same_user first (owner-of f) ≡ same
    → fold owner_by (cond same (Ok first) (Err refusal.SeveralOwners)) (map owner-of files) ≡ Ok owner
    → (first ≡ owner) × (IsOwnedBy owner f × AllByRecursion (IsOwnedBy owner) files)
owned-case true f files first owner later same is =
    let rest = later is in
    (rest.0, (subst (λ (user : User). is_same_user user (owner-of f) ≡ true) rest.0 same, rest.1))
owned-case false f files first owner later same is =
    absurd (let wrong : false ≡ true = ap is_ok (sym (several files) ∙ is) in cc)

owned : (files : List WholeFile) (first owner : User) → fold owner_by (Ok first) (map owner-of files) ≡ Ok owner
    → (first ≡ owner) × AllByRecursion (IsOwnedBy owner) files
owned [] first owner is = (ap (owner-in first) is, tt)
owned (f ∷ files) first owner is =
    owned-case (is_same_user first (owner-of f)) f files first owner (owned files first owner) refl is

all-owned : (name : FileName) (files : List WholeFile) (owner : User)
    → fold owner_by (Err (refusal.NoFile name)) (map owner-of files) ≡ Ok owner
    → (0 < length files) × AllByRecursion (IsOwnedBy owner) files
all-owned name [] owner is = absurd (let wrong : false ≡ true = ap is_ok is in cc)
all-owned name (f ∷ files) owner is =
    let rest = owned files (owner-of f) owner is in
    let same = subst (λ (user : User). is_same_user user (owner-of f) ≡ true) rest.0 (same-user (owner-of f)) in
    (omega arith, (same, rest.1))

pub owners_own_all : OwnersOwnAll
owners_own_all name files owner is = all-owned name (files_called name files) owner is
