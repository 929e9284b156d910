-- Members of an object, one after another.
use Rattle.std.proofs.Common.{◌≡◌, ℕ, ◌+◌, ◌<◌, ◌≤◌, ◌||◌, Bool, true, false, List, [], ◌∷◌, ◌++◌, length, take, drop, get_or, map}
use Rattle.std.proofs.Common.{Option, Some, None, refl, sym, ap, ◌∙◌, bytes_eq}
use Rattle.std.specs.Borrow.{Bor}
use Rattle.std.specs.List.{list_any}
use Rattle.std.specs.Option.{option_or}
use Rattle.std.specs.declared.alloc.Global.{Global}
use Rattle.std.proofs.lemmas.List.{drop_all, drop_more, map-append, take_more}
use Rattle.json.specs.Strict.{keys}
use Rattle.json.specs.Value.{members_view}
use Rattle.json.specs.declared.value.Value.{Value}
use Rattle.njh_request.specs.Members.{key_fault, odd_from}
use Rattle.njh_request.specs.declared.member.Form.{Form}
use Rattle.njh_request.specs.declared.refusal.RequestRefusal.{RequestRefusal}

abbrev pub Member : Type 0
Member = Bor (List ℕ) × Value Global

-- the keys of members
pub keys_are : (ms : List Member) → keys (members_view ms) ≡ map (λ (m : Member). m.0.now) ms
keys_are [] = refl
keys_are (m ∷ ms) = ap (λ (ks : List (List ℕ)). m.0.now ∷ ks) (keys_are ms)

-- whether a key stands among the members from a place on
abbrev pub any_behind : List ℕ → List Member → ℕ → Bool
any_behind key ms i = list_any (λ k. bytes_eq k key) (keys (members_view (drop i ms)))

pub any_here : (key : List ℕ) (ms : List Member) (i : ℕ) (m : Member) → i < length ms → m ≡ get_or ms i m
    → any_behind key ms i ≡ bytes_eq m.0.now key || any_behind key ms (i + 1)
any_here key ms i m there is =
    ap (λ (some : List Member). list_any (λ k. bytes_eq k key) (keys (members_view some)))
    (drop_more ms i m there ∙ ap (λ (x : Member). x ∷ drop (i + 1) ms) (sym is))

-- it is the one at a place
pub any_found : (key : List ℕ) (ms : List Member) (i : ℕ) (m : Member) (all : Bool) → i < length ms → m ≡ get_or ms i m
    → bytes_eq m.0.now key ≡ true → any_behind key ms i ≡ all → true ≡ all
any_found key ms i m all there is found so_far =
    sym (ap (λ b. b || any_behind key ms (i + 1)) found) ∙ (sym (any_here key ms i m there is) ∙ so_far)

-- it isn't
pub any_later : (key : List ℕ) (ms : List Member) (i : ℕ) (m : Member) (all : Bool) → i < length ms → m ≡ get_or ms i m
    → bytes_eq m.0.now key ≡ false → any_behind key ms i ≡ all → any_behind key ms (i + 1) ≡ all
any_later key ms i m all there is other so_far =
    sym (ap (λ b. b || any_behind key ms (i + 1)) other) ∙ (sym (any_here key ms i m there is) ∙ so_far)

-- it is none
pub any_nowhere : (key : List ℕ) (ms : List Member) (i : ℕ) (all : Bool) → length ms ≤ i → any_behind key ms i ≡ all
    → false ≡ all
any_nowhere key ms i all past so_far =
    sym (ap (λ (some : List Member). list_any (λ k. bytes_eq k key) (keys (members_view some))) (drop_all i ms past))
    ∙ so_far

-- what is wrong with the members from a place on
abbrev pub odd_behind : Form → List Member → ℕ → Option RequestRefusal
odd_behind form ms i = odd_from form (keys (members_view (take i ms))) (keys (members_view (drop i ms)))

keys-snoc : (ms : List Member) (m : Member) → keys (members_view (ms ++ m ∷ [])) ≡ keys (members_view ms) ++ m.0.now ∷ []
keys-snoc ms m =
    keys_are (ms ++ m ∷ [])
    ∙ (map-append (λ (x : Member). x.0.now) ms (m ∷ [])
    ∙ ap (λ (ks : List (List ℕ)). ks ++ m.0.now ∷ []) (sym (keys_are ms)))

-- at a place
odd_here : (form : Form) (ms : List Member) (i : ℕ) (m : Member) → i < length ms → m ≡ get_or ms i m
    → odd_behind form ms i
    ≡ option_or (key_fault form (keys (members_view (take i ms))) m.0.now) (odd_behind form ms (i + 1))
odd_here form ms i m there is =
    let rest : drop i ms ≡ m ∷ drop (i + 1) ms =
    drop_more ms i m there ∙ ap (λ (x : Member). x ∷ drop (i + 1) ms) (sym is) in
    let front : take (i + 1) ms ≡ take i ms ++ m ∷ [] =
    take_more ms i m there ∙ ap (λ (x : Member). take i ms ++ x ∷ []) (sym is) in
    let before : keys (members_view (take i ms)) ++ m.0.now ∷ [] ≡ keys (members_view (take (i + 1) ms)) =
    sym (keys-snoc (take i ms) m) ∙ ap (λ (some : List Member). keys (members_view some)) (sym front) in
    ap (λ (some : List Member). odd_from form (keys (members_view (take i ms))) (keys (members_view some))) rest
    ∙ ap (λ (some : List (List ℕ)).
    option_or (key_fault form (keys (members_view (take i ms))) m.0.now)
    (odd_from form some (keys (members_view (drop (i + 1) ms))))) before

-- nothing is wrong at a place
pub odd_later : (form : Form) (ms : List Member) (i : ℕ) (m : Member) (first : Option RequestRefusal) → i < length ms
    → m ≡ get_or ms i m → key_fault form (keys (members_view (take i ms))) m.0.now ≡ None
    → odd_behind form ms i ≡ first → odd_behind form ms (i + 1) ≡ first
odd_later form ms i m first there is none so_far =
    sym (ap (λ (fault : Option RequestRefusal). option_or fault (odd_behind form ms (i + 1))) none)
    ∙ (sym (odd_here form ms i m there is) ∙ so_far)

-- something is
pub odd_found : (form : Form) (ms : List Member) (i : ℕ) (m : Member) (why : RequestRefusal)
    (first : Option RequestRefusal) → i < length ms → m ≡ get_or ms i m
    → key_fault form (keys (members_view (take i ms))) m.0.now ≡ Some why → odd_behind form ms i ≡ first
    → Some why ≡ first
odd_found form ms i m why first there is some so_far =
    sym (ap (λ (fault : Option RequestRefusal). option_or fault (odd_behind form ms (i + 1))) some)
    ∙ (sym (odd_here form ms i m there is) ∙ so_far)

-- nothing is wrong at any
pub odd_nowhere : (form : Form) (ms : List Member) (i : ℕ) (first : Option RequestRefusal) → length ms ≤ i
    → odd_behind form ms i ≡ first → None ≡ first
odd_nowhere form ms i first all so_far =
    sym (ap (λ (rest : List Member). odd_from form (keys (members_view (take i ms))) (keys (members_view rest)))
    (drop_all i ms all))
    ∙ so_far
