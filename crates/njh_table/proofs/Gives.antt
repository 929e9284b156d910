-- What a part of the walk gives: a value of which something holds, or a fault that is the walk's own.
use Rattle.std.proofs.Common.{◌≡◌, ℕ, ℤ, pos, negsuc, Bool, true, false, cond, nat_le, List, Option, Some, None, IfSome}
use Rattle.std.proofs.Common.{option_and_then, ◌≢◌, ◌==◌, option_map, ok_or, Ok, Err, MatchResult, refl, subst}
use Rattle.std.specs.Prelude.{⊤}
use Rattle.std.proofs.lemmas.Bool.{and_parts, leb-true, eqb-true, eqb-false}
use Rattle.std.specs.declared.net.socket_addr.SocketAddr.{SocketAddr}
use Rattle.std.specs.Net.Socket.{socket_port}
use Rattle.toml.specs.Data.{Data, Members, get_member, as_integer, as_str, as_table}
use Rattle.njh_ebcdic.specs.Names.{within}
use Rattle.njh_table.specs.declared.fault.TableFault.{TableFault}
use Rattle.njh_table.specs.declared.fault.TableFault.TheVariants.{BadToml, MissingKey, BadValue, Memory}
use Rattle.njh_table.specs.declared.places.Key.{Key}
use Rattle.njh_table.specs.declared.places.Part.{Part}
use Rattle.njh_table.specs.declared.places.PlacedFault.{PlacedFault}
use Rattle.njh_table.specs.Accepted.{IsBetween}
use Rattle.njh_table.specs.Places.{at_part, at_value, key_name}
use Rattle.njh_table.specs.Keys.{Placed, ◌>>=◌, ◌>>◌, fault_where, keys_in, at_key, value_or, at_key_or, number_between}
use Rattle.njh_table.specs.Keys.{number, is_line_name, line_name_of, line_name, peer_address, peer_of, peer}
use Rattle.njh_table.specs.Addresses.{address_of}

-- the text's own fault and want of memory are none of the walk's
abbrev pub IsOfWalk : TableFault → Type 0
IsOfWalk BadToml = ⊥
IsOfWalk Memory = ⊥
IsOfWalk _ = ⊤

abbrev pub Gives : {A : Type 0} → (A → Type 0) → Placed A → Type 0
Gives P walked = MatchResult walked P (λ placed. IsOfWalk placed.fault)

pub given : {A : Type 0} (P : A → Type 0) (walked : Placed A) (x : A) → walked ≡ Ok x → Gives P walked → P x
given P walked x is gives = subst (Gives P) is gives

-- one part after another
pub and_then : {A B : Type 0} (P : A → Type 0) (Q : B → Type 0) (walked : Placed A) (next : A → Placed B)
    → Gives P walked → ((x : A) → P x → Gives Q (next x)) → Gives Q (walked >>= next)
and_then P Q (Ok x) next gives more = more x gives
and_then P Q (Err fault) next gives more = gives

pub weaker : {A : Type 0} (P Q : A → Type 0) (walked : Placed A) → Gives P walked → ((x : A) → P x → Q x)
    → Gives Q walked
weaker P Q (Ok x) gives holds = holds x gives
weaker P Q (Err fault) gives holds = gives

-- a test that was passed
pub past : {B : Type 0} (Q : B → Type 0) (test : Bool) (fault : PlacedFault) (next : Placed B)
    → IsOfWalk fault.fault → (test ≡ false → Gives Q next) → Gives Q (fault_where test fault >> next)
past Q true fault next of_walk more = of_walk
past Q false fault next of_walk more = more refl

pub some_or : {A : Type 0} (P : A → Type 0) (o : Option A) (fault : PlacedFault) → IsOfWalk fault.fault → IfSome o P
    → Gives P (ok_or o fault)
some_or P None fault of_walk holds = of_walk
some_or P (Some x) fault of_walk holds = holds

any : {A : Type 0} (o : Option A) → IfSome o (λ _. ⊤)
any None = tt
any (Some x) = tt

-- ---- the values of keys

-- the keys of an element, and what follows
pub with_keys : {B : Type 0} (Q : B → Type 0) (part : Part) (value : Data) (next : Members → Placed B)
    → ((keys : Members) → Gives Q (next keys)) → Gives Q (keys_in part value >>= next)
with_keys Q part value next more =
    and_then (λ _. ⊤) Q (keys_in part value) next
    (some_or (λ _. ⊤) (as_table value) (at_part part BadValue) tt (any (as_table value))) (λ keys _. more keys)

-- the value of a key that must be there, of which something holds, and what follows
pub with_value : {A B : Type 0} (P : A → Type 0) (Q : B → Type 0) (read : Data → Option A) (part : Part) (key : Key)
    (keys : Members)
    (next : A → Placed B)
    → ((value : Data) → IfSome (read value) P) → ((x : A) → P x → Gives Q (next x))
    → Gives Q (at_key read part key keys >>= next)
with_value P Q read part key keys next holds more =
    and_then P Q (at_key read part key keys) next
    (and_then (λ _. ⊤) P (ok_or (get_member (key_name key) keys) (at_value part key MissingKey))
    (λ value. ok_or (read value) (at_value part key BadValue))
    (some_or (λ _. ⊤) (get_member (key_name key) keys) (at_value part key MissingKey) tt
    (any (get_member (key_name key) keys)))
    (λ value _. some_or P (read value) (at_value part key BadValue) tt (holds value))) more

-- the same, where all that matters is that there is one
pub with_any : {A B : Type 0} (Q : B → Type 0) (read : Data → Option A) (part : Part) (key : Key) (keys : Members)
    (next : A → Placed B)
    → ((x : A) → Gives Q (next x)) → Gives Q (at_key read part key keys >>= next)
with_any Q read part key keys next more = with_value (λ _. ⊤) Q read part key keys next (λ value. any (read value))
    (λ x _. more x)

value_or-gives : {A : Type 0} (P : A → Type 0) (read : Data → Option A) (other : A) (part : Part) (key : Key)
    (found : Option Data)
    → P other → ((value : Data) → IfSome (read value) P) → Gives P (value_or read other part key found)
value_or-gives P read other part key None at_other holds = at_other
value_or-gives P read other part key (Some value) at_other holds =
    some_or P (read value) (at_value part key BadValue) tt (holds value)

-- the value of a key that may be missing
pub with_value_or : {A B : Type 0} (P : A → Type 0) (Q : B → Type 0) (read : Data → Option A) (other : A) (part : Part)
    (key : Key) (keys : Members)
    (next : A → Placed B) → P other → ((value : Data) → IfSome (read value) P) → ((x : A) → P x → Gives Q (next x))
    → Gives Q (at_key_or read other part key keys >>= next)
with_value_or P Q read other part key keys next at_other holds more =
    and_then P Q (at_key_or read other part key keys) next
    (value_or-gives P read other part key (get_member (key_name key) keys) at_other holds) more

pub with_any_or : {A B : Type 0} (Q : B → Type 0) (read : Data → Option A) (other : A) (part : Part) (key : Key)
    (keys : Members)
    (next : A → Placed B) → ((x : A) → Gives Q (next x)) → Gives Q (at_key_or read other part key keys >>= next)
with_any_or Q read other part key keys next more =
    with_value_or (λ _. ⊤) Q read other part key keys next tt (λ value. any (read value)) (λ x _. more x)

-- ---- what the readers of values give

within-between : (low high n : ℕ) → within low high n ≡ true → IsBetween low high n
within-between low high n h =
    let (least, most) = and_parts (nat_le low n) (nat_le n high) h in
    (leb-true low n least, leb-true n high most)

chosen : {A : Type 0} (P : A → Type 0) (test : Bool) (x : A) → (test ≡ true → P x) → IfSome (cond test (Some x) None) P
chosen P true x holds = holds refl
chosen P false x holds = tt

pub number-is : (low high : ℕ) (value : Data) → IfSome (number low high value) (IsBetween low high)
number-is low high value = by (as_integer value)
  where
    by : (z : Option ℤ) → IfSome (option_and_then (number_between low high) z) (IsBetween low high)
    by None = tt
    by (Some (pos n)) = chosen (IsBetween low high) (within low high n) n (within-between low high n)
    by (Some (negsuc n)) = tt

pub line_name-is : (value : Data) → IfSome (line_name value) (λ name. is_line_name name ≡ true)
line_name-is value = by (as_str value)
  where
    by : (text : Option (List ℕ)) → IfSome (option_and_then line_name_of text) (λ name. is_line_name name ≡ true)
    by None = tt
    by (Some text) = chosen (λ name. is_line_name name ≡ true) (is_line_name text) text (λ h. h)

-- where the peer of a line with this port listens, if it does
abbrev pub IsPeerOf : ℕ → Option SocketAddr → Type 0
IsPeerOf port peer = IfSome peer (λ address. (port ≡ 0) × (socket_port address ≢ 0))

not_chosen : {A : Type 0} (P : A → Type 0) (test : Bool) (x : A) → (test ≡ false → P x)
    → IfSome (cond test None (Some x)) P
not_chosen P true x holds = tt
not_chosen P false x holds = holds refl

pub peer-is : (port : ℕ) (value : Data) → IfSome (peer port value) (IsPeerOf port)
peer-is port value = by (as_str value)
  where
    at : (o : Option SocketAddr) → IfSome o (λ a. (port ≡ 0) × (socket_port a ≢ 0))
        → IfSome (option_map Some o) (IsPeerOf port)
    at None holds = tt
    at (Some a) holds = holds

    dials : (o : Option SocketAddr) → port ≡ 0
        → IfSome (option_and_then peer_address o) (λ a. (port ≡ 0) × (socket_port a ≢ 0))
    dials None zero = tt
    dials (Some a) zero =
        not_chosen (λ a. (port ≡ 0) × (socket_port a ≢ 0)) (socket_port a == 0) a
        (λ other. (zero, eqb-false (socket_port a) 0 other))

    of_port : (test : Bool) (text : List ℕ) → (port == 0) ≡ test
        → IfSome (cond test (option_and_then peer_address (address_of text)) None)
        (λ a. (port ≡ 0) × (socket_port a ≢ 0))
    of_port true text is = dials (address_of text) (eqb-true port 0 is)
    of_port false text is = tt

    by : (text : Option (List ℕ)) → IfSome (option_map Some (option_and_then (peer_of port) text)) (IsPeerOf port)
    by None = tt
    by (Some text) = at (peer_of port text) (of_port (port == 0) text refl)
