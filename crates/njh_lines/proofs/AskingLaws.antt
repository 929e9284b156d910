-- Who asks for a line over TCP/IP, and is given it or not.
use Rattle.std.proofs.Common.{◌≡◌, ◌∙◌, ◌++◌, ℕ, Bool, true, false, List, [], ◌∷◌, All, Option, Some, None, remove, refl, sym}
use Rattle.std.proofs.Common.{ap, slice_get, subst, ◌⊎◌, ⊎_elim}
use Rattle.std.specs.Prelude.{IsTrue}
use Rattle.std.specs.Net.Socket.{socket_ip}
use Rattle.std.proofs.lemmas.List.Elements.{All-head, All-push, All-tail}
use Rattle.std.proofs.lemmas.Option.{get_or_from_slice_get}
use Rattle.njh_table.specs.Ranges.{allows}
use Rattle.njh_table.specs.declared.Role.{Role}
use Rattle.njh_table.specs.declared.Role.TheVariants.{Answer}
use Rattle.njh_table.specs.declared.address_range.AddressRange.{AddressRange}
use Rattle.njh_tcp.specs.Controls.{control_in}
use Rattle.njh_tcp.specs.declared.control.ControlRecord.{ControlRecord}
use Rattle.njh_tcp.specs.declared.control.ControlRecord.TheVariants.{Open, Ack, Nak}
use Rattle.njh_open.specs.Verdicts.{IsRecordVerdict, IsVerdict}
use Rattle.njh_open.specs.declared.verdict.Vacancy.{Vacancy}
use Rattle.njh_open.specs.declared.verdict.Vacancy.TheVariants.{Free, Stopped, Taken}
use Rattle.njh_open.specs.declared.verdict.Verdict.{Verdict}
use Rattle.njh_open.specs.declared.verdict.Verdict.TheVariants.{Connected, Second}
use Rattle.njh_anteroom.specs.Rooms.{Room}
use Rattle.njh_anteroom.specs.declared.guest.Guest.{Guest}
use Rattle.njh_sight.specs.declared.label.Label.{Label}
use Rattle.njh_sites.specs.Asking.{answer_bytes, IsAsked}
use Rattle.njh_sites.specs.declared.asking.Asking.{Asking}
use Rattle.njh_wire.specs.Standing.{Standing}
use Rattle.njh_lines.specs.Asking.{IsGivenByOpen, IsGivenByTcp}
use Rattle.njh_lines.specs.Connecting.{KeepsLine}
use Rattle.njh_lines.specs.Entrances.{AreAllowed}
use Rattle.njh_lines.specs.declared.entrance.Entrance.{Entrance}

by_record : (node hub : List ℕ) (vacancy : Vacancy) (control : Option ControlRecord)
    → IsRecordVerdict node hub vacancy control Connected → vacancy ≡ Free
by_record node hub vacancy (Some (Open hosts)) right = right.1
by_record node hub vacancy (Some (Ack hosts)) right = cc
by_record node hub vacancy (Some (Nak hosts reason)) right = cc
by_record node hub vacancy None right = cc

-- only a line that is free is given
only_free : (node hub : List ℕ) (vacancy : Vacancy) (came : List ℕ) → IsVerdict node hub vacancy came Connected
    → vacancy ≡ Free
only_free node hub vacancy came right = by_record node hub vacancy (control_in came) right

pub stopped_not_free : (vacancy : Vacancy) → vacancy ≡ Stopped → vacancy ≡ Free → ⊥
stopped_not_free vacancy stopped free = cc

stopped_not_taken : (vacancy : Vacancy) → vacancy ≡ Stopped → vacancy ≡ Taken → ⊥
stopped_not_taken vacancy stopped taken = cc

-- who keeps it at a moment keeps it at the same
pub keeps_at : {C : Type 0} (wire : Standing C) (label : Label) (moment now : ℕ) → moment ≡ now
    → KeepsLine wire label now → KeepsLine wire label moment
keeps_at wire label moment now same keeps = subst (λ its. KeepsLine wire label its) (sym same) keeps

-- one that isn't free isn't given
pub ungiven_unless_free : (node hub : List ℕ) (vacancy : Vacancy) (came : List ℕ) (verdict : Verdict)
    (is_given : Bool) → IsVerdict node hub vacancy came verdict → (IsTrue is_given → verdict ≡ Connected)
    → (vacancy ≡ Free → ⊥) → ¬ IsTrue is_given
ungiven_unless_free node hub vacancy came verdict is_given named right busy given =
    let At : Verdict → Type 0 = λ its. IsVerdict node hub vacancy came its in
    busy (only_free node hub vacancy came (subst At (right given) named))

second_by : (node hub : List ℕ) (vacancy : Vacancy) (control : Option ControlRecord)
    → IsRecordVerdict node hub vacancy control Second → vacancy ≡ Taken
second_by node hub vacancy (Some (Open hosts)) right = right.1
second_by node hub vacancy (Some (Ack hosts)) right = cc
second_by node hub vacancy (Some (Nak hosts reason)) right = cc
second_by node hub vacancy None right = cc

-- and on one that is stopped nothing is said
pub same_if_stopped : {X : Type 0} {Said : Type 0} (node hub : List ℕ) (vacancy : Vacancy) (came : List ℕ)
    (verdict : Verdict) (is_given : Bool) (wire new : X) → vacancy ≡ Stopped → IsVerdict node hub vacancy came verdict
    → (IsTrue is_given → verdict ≡ Connected) → (¬ IsTrue is_given → (new ≡ wire) ⊎ ((verdict ≡ Second) × Said))
    → new ≡ wire
same_if_stopped {X = X} {Said = Said} node hub vacancy came verdict is_given wire new stopped named right kept =
    let At : Verdict → Type 0 = λ its. IsVerdict node hub vacancy came its in
    let free : vacancy ≡ Free → ⊥ = stopped_not_free vacancy stopped in
    ⊎_elim (λ (same : new ≡ wire). same)
    (λ (said : (verdict ≡ Second) × Said).
    absurd (stopped_not_taken vacancy stopped (second_by node hub vacancy (control_in came) (subst At said.0 named))))
    (kept (ungiven_unless_free node hub vacancy came verdict is_given named right free))

-- a connection is given as well by what is equal to it
pub given_same : {C : Type 0} (over_tcp : Role → C → C → Type 0) (role : Role) (one connection : C)
    (wire new : Standing C) → one ≡ connection → IsGivenByTcp over_tcp role one wire new
    → IsGivenByTcp over_tcp role connection wire new
given_same over_tcp role one connection wire new same given =
    subst (λ its. IsGivenByTcp over_tcp role its wire new) same given

-- it is given to whose OPEN names it
pub given_by_open : {C : Type 0} (moved : C → C → List ℕ → List ℕ → Type 0) (over_tcp : Role → C → C → Type 0)
    (node hub : List ℕ) (vacancy : Vacancy) (verdict : Verdict) (before after : Asking C) (wire new : Standing C)
    → verdict ≡ Connected → IsVerdict node hub vacancy after.asker.came verdict
    → IsAsked moved before after (answer_bytes verdict after.asker.came)
    → IsGivenByTcp over_tcp Answer after.connection wire new
    → IsGivenByOpen moved over_tcp node hub before wire new
given_by_open {C} moved over_tcp node hub vacancy verdict before after wire new is named asked given =
    let came = after.asker.came in
    let At : Verdict → Type 0 = λ its. IsVerdict node hub vacancy came its in
    let Of : Vacancy → Type 0 = λ its. IsVerdict node hub its came Connected in
    let Went : Verdict → Type 0 = λ its. IsAsked moved before after (answer_bytes its came) in
    let right : IsVerdict node hub vacancy came Connected = subst At is named in record {
      after = after;
      named = subst Of (only_free node hub vacancy came right) right;
      answered = subst Went is asked;
      given = given;
    }

-- ---- those who wait come from where the line takes connections

rest_allowed : {C : Type 0} (from : List AddressRange) (waiting : List (Guest C))
    → All (λ (guest : Guest C). IsTrue (allows from (socket_ip guest.address))) waiting
    → All (λ (guest : Guest C). IsTrue (allows from (socket_ip guest.address))) (remove waiting 0)
rest_allowed from [] all = all
rest_allowed from (first ∷ rest) all =
    All-tail (λ guest. IsTrue (allows from (socket_ip guest.address))) first rest all

first_allowed : {C : Type 0} (from : List AddressRange) (waiting : List (Guest C)) (guest : Guest C)
    → slice_get waiting 0 ≡ Some guest
    → All (λ (one : Guest C). IsTrue (allows from (socket_ip one.address))) waiting
    → IsTrue (allows from (socket_ip guest.address))
first_allowed from [] guest is all = cc
first_allowed {C} from (first ∷ rest) guest is all =
    let Its : Guest C → Type 0 = λ one. IsTrue (allows from (socket_ip one.address)) in
    subst Its (get_or_from_slice_get (first ∷ rest) 0 guest guest is) (All-head Its first rest all)

-- once the first was taken out
pub allowed_without_first : {C : Type 0} (entrance new : Entrance C) (rest : Room C)
    → rest ≡ record entrance.anteroom { waiting = remove entrance.anteroom.waiting 0 } → new.from ≡ entrance.from
    → new.anteroom.waiting ≡ rest.waiting → AreAllowed entrance → AreAllowed new
allowed_without_first {C} entrance new rest taken from waiting all =
    let Of : List AddressRange → List (Guest C) → Type 0 = λ its who.
    All (λ (one : Guest C). IsTrue (allows its (socket_ip one.address))) who in
    let left : new.anteroom.waiting ≡ remove entrance.anteroom.waiting 0 =
    waiting ∙ ap (λ (room : Room C). room.waiting) taken in
    subst (λ (its : List AddressRange). Of its new.anteroom.waiting) (sym from)
    (subst (λ (who : List (Guest C)). Of entrance.from who) (sym left)
    (rest_allowed entrance.from entrance.anteroom.waiting all))

-- and once one of its address waits again, behind all others
pub allowed_behind : {C : Type 0} (entrance new : Entrance C) (rest : Room C) (guest back : Guest C)
    → slice_get entrance.anteroom.waiting 0 ≡ Some guest → back.address ≡ guest.address
    → rest ≡ record entrance.anteroom { waiting = remove entrance.anteroom.waiting 0 } → new.from ≡ entrance.from
    → new.anteroom ≡ record rest { waiting = rest.waiting ++ back ∷ [] } → AreAllowed entrance → AreAllowed new
allowed_behind {C} entrance new rest guest back is same taken from put all =
    let Of : List AddressRange → List (Guest C) → Type 0 = λ its who.
    All (λ (one : Guest C). IsTrue (allows its (socket_ip one.address))) who in
    let Its : Guest C → Type 0 = λ one. IsTrue (allows entrance.from (socket_ip one.address)) in
    let left : new.anteroom.waiting ≡ remove entrance.anteroom.waiting 0 ++ back ∷ [] =
    ap (λ (room : Room C). room.waiting) put
    ∙ ap (λ (room : Room C). room.waiting ++ back ∷ []) taken in
    let its : Its back =
    ap (λ address. allows entrance.from (socket_ip address)) same
    ∙ first_allowed entrance.from entrance.anteroom.waiting guest is all in
    subst (λ (its : List AddressRange). Of its new.anteroom.waiting) (sym from)
    (subst (λ (who : List (Guest C)). Of entrance.from who) (sym left)
    (All-push Its (remove entrance.anteroom.waiting 0) back
    (rest_allowed entrance.from entrance.anteroom.waiting all) its))
