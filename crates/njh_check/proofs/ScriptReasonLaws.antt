-- A line that has no event has a reason.
use Rattle.std.proofs.Common.{◌≡◌, ℕ, Bool, true, false, cond, codes, List, [], ◌∷◌, Option, Some, None, option_map}
use Rattle.std.proofs.Common.{option_and_then, Result, Ok, Err, refl, ◌||◌}
use Rattle.std.specs.Prelude.{IsSome, is_ok, is_some, bytes_eq}
use Rattle.std.specs.Result.{result_ok}
use Rattle.std.specs.Str.{is_utf8}
use Rattle.hex.specs.Hex.{decode_of}
use Rattle.hex.specs.declared.error.FromHexError.{FromHexError}
use Rattle.hex.specs.declared.error.FromHexError.TheVariants.{InvalidHexCharacter, OddLength, InvalidStringLength}
use Rattle.hex.specs.declared.error.FromHexError.TheVariants.{OutOfMemory}
use Rattle.njh_ebcdic.specs.Reading.{name_of_text}
use Rattle.njh_ebcdic.specs.Users.{User}
use Rattle.njh_hub.specs.declared.event.Event.{Event}
use Rattle.njh_hub.specs.declared.event.Event.TheVariants.{Bytes, Tick, Garbled, Lost, Routes, Order}
use Rattle.njh_table.specs.declared.LineId.{LineId}
use Rattle.njh_table.specs.declared.new_routes.GivenRoute.{GivenRoute}
use Rattle.njh_table.specs.declared.fault.TableFault.{TableFault}
use Rattle.njh_table.specs.NewRoutes.{new_routes_of, routes_checked}
use Rattle.njh_table.specs.TableFile.{TableFile, customer_at, entry_of, line_named}
use Rattle.njh_customer.specs.declared.given_order.GivenOrder.{GivenOrder}
use Rattle.njh_check.specs.ScriptReasons.{Told, first_told, is_bytes, is_event, reason_behind, reason_of_bytes}
use Rattle.njh_check.specs.ScriptReasons.{reason_by_kind, reason_of_order, reason_of_order_words, reason_of_text}
use Rattle.njh_check.specs.ScriptReasons.{reason_of_user, reason_of_user_parts}
use Rattle.njh_check.specs.ScriptReasons.{reason_of, reason_of_check, reason_of_given, reason_of_lines, reason_of_pair}
use Rattle.njh_check.specs.ScriptReasons.{reason_of_pairs}
use Rattle.njh_check.specs.ScriptReasons.{reason_of_parts, reason_of_routes, reason_of_second, reason_of_words}
use Rattle.njh_check.specs.ScriptReasons.{reason_on_line}
use Rattle.njh_replay.specs.Script.{bytes_on, event_by_kind, event_of_words, event_on_line, piece_of, script_event}
use Rattle.njh_replay.specs.Script.{signal_of, some_bytes, words_of}
use Rattle.njh_replay.specs.ScriptOrders.{event_of_order, order_as, order_kind, order_of_words, order_text}
use Rattle.njh_replay.specs.ScriptOrders.{parts_of_user, text_of_words, user_of_parts}
use Rattle.njh_replay.specs.declared.script_orders.OrderKind.{OrderKind}
use Rattle.njh_replay.specs.declared.script_orders.TextFault.{TextFault}
use Rattle.njh_replay.specs.ScriptRoutes.{customer_named, event_of_routes, parts_of_pair, route_of_pair, route_of_parts}
use Rattle.njh_replay.specs.ScriptRoutes.{routes_for, routes_of_pairs, second_by}

no_bytes : (read : Result (List ℕ) FromHexError) → some_bytes read ≡ None → IsSome (reason_of_bytes read)
no_bytes (Ok []) none = refl
no_bytes (Ok (b ∷ bs)) none = absurd (cc none)
no_bytes (Err (InvalidHexCharacter c index)) none = refl
no_bytes (Err OddLength) none = refl
no_bytes (Err InvalidStringLength) none = refl
no_bytes (Err OutOfMemory) none = refl

no_piece : {A B : Type 0} (f : A → B) (o : Option A) → option_map f o ≡ None → o ≡ None
no_piece f None none = refl
no_piece f (Some x) none = absurd (cc none)

-- a word that tells an event on a line, but not alone, takes bytes
takes_bytes : (tick garbled lost bytes : Bool) (a b c : Event) → (tick || garbled || lost || bytes) ≡ true
    → cond tick (Some a) (cond garbled (Some b) (cond lost (Some c) None)) ≡ None → bytes ≡ true
takes_bytes true garbled lost bytes a b c event none = absurd (cc none)
takes_bytes false true lost bytes a b c event none = absurd (cc none)
takes_bytes false false true bytes a b c event none = absurd (cc none)
takes_bytes false false false bytes a b c event none = event

-- digits that spell nothing, by whether the word takes them
no_digits : (bytes : Bool) (digits : List ℕ) (f : List ℕ → Event)
    → cond bytes (option_map f (piece_of digits)) None ≡ None
    → (more : Told) → IsSome (cond bytes (reason_of_bytes (decode_of digits)) (Some more))
no_digits true digits f none more = no_bytes (decode_of digits) (no_piece f (piece_of digits) none)
no_digits false digits f none more = refl

some_where : (test : Bool) (t : Told) → test ≡ true → IsSome (cond test (Some t) None)
some_where true t same = refl
some_where false t same = absurd (cc same)

-- the words after the name of a line that there is
behind : (names : List ℕ → Option LineId) (word name : List ℕ) (words : List (List ℕ)) (id : LineId)
    → is_event word ≡ true
    → names name ≡ Some id → event_on_line names (word ∷ name ∷ words) ≡ None → IsSome (reason_behind word words)
behind names word name [] id event named none =
    let alone : signal_of word id ≡ None = rw named at none in
    some_where (is_bytes word) _
    (takes_bytes (bytes_eq word (codes "TICK")) (bytes_eq word (codes "GARBLED")) (bytes_eq word (codes "LOST"))
    (is_bytes word)
    (Tick id) (Garbled id) (Lost id) event alone)
behind names word name (digits ∷ []) id event named none =
    let with : bytes_on word digits id ≡ None = rw named at none in
    no_digits (is_bytes word) digits (λ piece. Bytes id piece) with _
behind names word name (digits ∷ other ∷ words) id event named none = refl

on_name : (found : Option LineId) (names : List ℕ → Option LineId) (word name : List ℕ) (words : List (List ℕ))
    → names name ≡ found
    → is_event word ≡ true → event_on_line names (word ∷ name ∷ words) ≡ None
    → (t : Told) → IsSome (cond (is_some found) (reason_behind word words) (Some t))
on_name None names word name words named event none t = refl
on_name (Some id) names word name words named event none t = behind names word name words id event named none

on_line : (tables : TableFile) (word : List ℕ) (words : List (List ℕ)) → is_event word ≡ true
    → event_on_line (line_named tables) (word ∷ words) ≡ None → IsSome (reason_on_line tables word words)
on_line tables word [] event none = refl
on_line tables word (name ∷ words) event none =
    on_name (line_named tables name) (line_named tables) word name words refl event none _

-- ---- routes

no_second : (tables : TableFile) (found : Option LineId) (second : List ℕ) → line_named tables second ≡ found
    → option_map (λ (l : LineId). Some l) found ≡ None → (t : Told) → IsSome (cond (is_some found) None (Some t))
no_second tables None second named none t = refl
no_second tables (Some id) second named none t = absurd (cc none)

no_second_line : (tables : TableFile) (second : Option (List ℕ)) → second_by tables second ≡ None
    → IsSome (reason_of_second tables second)
no_second_line tables None none = absurd (cc none)
no_second_line tables (Some second) none = no_second tables (line_named tables second) second refl none _

no_lines : (tables : TableFile) (found : Option LineId) (second : Option (List ℕ))
    (f : LineId → Option LineId → GivenRoute)
    → option_and_then (λ (l : LineId). option_map (λ (s : Option LineId). f l s) (second_by tables second)) found ≡ None
    → (t : Told) → IsSome (cond (is_some found) (reason_of_second tables second) (Some t))
no_lines tables None second f none t = refl
no_lines tables (Some line) second f none t =
    no_second_line tables second (no_piece (λ (s : Option LineId). f line s) (second_by tables second) none)

no_node : {F : Type 0} (tables : TableFile) (node : Result (List ℕ) F) (line : List ℕ) (second : Option (List ℕ))
    (f : List ℕ → LineId → Option LineId → GivenRoute)
    → option_and_then (λ (n : List ℕ). option_and_then
    (λ (l : LineId). option_map (λ (s : Option LineId). f n l s) (second_by tables second)) (line_named tables line))
    (result_ok node) ≡ None
    → (t : Told) → IsSome (elim node [ Ok name ↦ reason_of_lines tables line second | Err fault ↦ Some t ])
no_node tables (Ok name) line second f none t = no_lines tables (line_named tables line) second (f name) none _
no_node tables (Err fault) line second f none t = refl

no_pair : (tables : TableFile) (pair : List ℕ) (parts : List (List ℕ)) → route_of_parts tables parts ≡ None
    → IsSome (reason_of_parts tables pair parts)
no_pair tables pair [] none = refl
no_pair tables pair (node ∷ []) none = refl
no_pair tables pair (node ∷ line ∷ []) none =
    no_node tables (name_of_text node) line None (λ n l s. record { node = n; line = l; second = s }) none _
no_pair tables pair (node ∷ line ∷ second ∷ []) none =
    no_node tables (name_of_text node) line (Some second) (λ n l s. record { node = n; line = l; second = s }) none _
no_pair tables pair (node ∷ line ∷ second ∷ other ∷ parts) none = refl

first_is : (a b : Option Told) → IsSome a → IsSome (first_told a b)
first_is (Some t) b some = refl
first_is None b some = absurd (cc some)

second_is : (a b : Option Told) → IsSome b → IsSome (first_told a b)
second_is (Some t) b some = refl
second_is None b some = some

no_first : (tables : TableFile) (pair : List ℕ) (pairs : List (List ℕ)) (found : Option GivenRoute)
    (more : Option (List GivenRoute))
    → route_of_pair tables pair ≡ found → (more ≡ None → IsSome (reason_of_pairs tables pairs))
    → option_and_then (λ (route : GivenRoute). option_map (λ (routes : List GivenRoute). route ∷ routes) more) found
    ≡ None
    → IsSome (first_told (reason_of_pair tables pair) (reason_of_pairs tables pairs))
no_first tables pair pairs None more is later none =
    first_is (reason_of_pair tables pair) (reason_of_pairs tables pairs) (no_pair tables pair (parts_of_pair pair) is)
no_first tables pair pairs (Some route) None is later none =
    second_is (reason_of_pair tables pair) (reason_of_pairs tables pairs) (later refl)
no_first tables pair pairs (Some route) (Some routes) is later none = absurd (cc none)

no_pairs : (tables : TableFile) (pairs : List (List ℕ)) → routes_of_pairs tables pairs ≡ None
    → IsSome (reason_of_pairs tables pairs)
no_pairs tables [] none = absurd (cc none)
no_pairs tables (pair ∷ pairs) none =
    no_first tables pair pairs (route_of_pair tables pair) (routes_of_pairs tables pairs) refl (no_pairs tables pairs)
    none

no_check : (checked : Result (Unit {0}) TableFault) (e : Event) → cond (is_ok checked) (Some e) None ≡ None
    → IsSome (reason_of_check checked)
no_check (Ok x) e none = absurd (cc none)
no_check (Err fault) e none = refl

no_routes : (tables : TableFile) (pairs : List (List ℕ)) (customer : ℕ) (routes : Option (List GivenRoute))
    → routes_of_pairs tables pairs ≡ routes → option_and_then (routes_for tables customer) routes ≡ None
    → IsSome (reason_of_given tables pairs customer routes)
no_routes tables pairs customer None is none = no_pairs tables pairs is
no_routes tables pairs customer (Some routes) is none =
    no_check (routes_checked (entry_of (customer_at tables customer)) (new_routes_of customer routes))
    (Routes customer routes) none

no_customer : (tables : TableFile) (pairs : List (List ℕ)) (found : Option ℕ) (t : Told)
    → option_and_then (λ (c : ℕ). option_and_then (routes_for tables c) (routes_of_pairs tables pairs)) found ≡ None
    → IsSome (elim found [
      | None ↦ Some t
      | Some customer ↦ reason_of_given tables pairs customer
          (routes_of_pairs tables pairs)
    ])
no_customer tables pairs None t none = refl
no_customer tables pairs (Some customer) t none =
    no_routes tables pairs customer (routes_of_pairs tables pairs) refl none

on_routes : (tables : TableFile) (words : List (List ℕ)) → event_of_routes tables words ≡ None
    → IsSome (reason_of_routes tables words)
on_routes tables [] none = refl
on_routes tables (name ∷ pairs) none = no_customer tables pairs (customer_named tables name) _ none

-- ---- orders

no_text : {B : Type 0} (read : Result (List ℕ) TextFault) (f : List ℕ → B)
    → option_map f (result_ok read) ≡ None → IsSome (reason_of_text read)
no_text (Ok bytes) f none = absurd (cc none)
no_text (Err fault) f none = refl

-- a user is named or isn't, and then the text is one or isn't
no_user : {B F : Type 0} (user : Result (List ℕ) F) (text : List ℕ) (named : List ℕ → User) (f : User → List ℕ → B)
    → option_and_then (λ who. option_map (f who) (result_ok (order_text text))) (option_map named (result_ok user))
    ≡ None → (t : Told)
    → IsSome (elim user [ Ok name ↦ reason_of_text (order_text text) | Err fault ↦ Some t ])
no_user (Ok name) text named f none t = no_text (order_text text) (f (named name)) none
no_user (Err fault) text named f none t = refl

no_ends : {B F : Type 0} (node : Result (List ℕ) F) (user text : List ℕ) (f : User → List ℕ → B)
    → option_and_then (λ who. option_map (f who) (result_ok (order_text text)))
    (option_and_then (λ (n : List ℕ). option_map (λ (u : List ℕ). record { node = n; user = u })
    (result_ok (name_of_text user))) (result_ok node)) ≡ None → (t : Told)
    → IsSome (elim node [ Ok name ↦ reason_of_user user text | Err fault ↦ Some t ])
no_ends (Ok name) user text f none t =
    no_user (name_of_text user) text (λ u. record { node = name; user = u }) f none _
no_ends (Err fault) user text f none t = refl

no_parts : {B : Type 0} (word : List ℕ) (parts : List (List ℕ)) (text : List ℕ) (f : User → List ℕ → B)
    → option_and_then (λ who. option_map (f who) (result_ok (order_text text))) (user_of_parts parts) ≡ None
    → IsSome (reason_of_user_parts word parts text)
no_parts word [] text f none = refl
no_parts word (node ∷ []) text f none = refl
no_parts word (node ∷ user ∷ []) text f none = no_ends (name_of_text node) user text f none _
no_parts word (node ∷ user ∷ other ∷ parts) text f none = refl

no_order : (kind : OrderKind) (words : List (List ℕ)) → order_of_words kind words ≡ None
    → IsSome (reason_of_order_words words)
no_order kind [] none = refl
no_order kind (user ∷ words) none = no_parts user (parts_of_user user) (text_of_words words) (order_as kind) none

no_order_for : (kind : OrderKind) (words : List (List ℕ)) (found : Option ℕ) (f : ℕ → GivenOrder → Event)
    → option_and_then (λ c. option_map (f c) (order_of_words kind words)) found ≡ None → (t : Told)
    → IsSome (cond (is_some found) (reason_of_order_words words) (Some t))
no_order_for kind words None f none t = refl
no_order_for kind words (Some c) f none t = no_order kind words (no_piece (f c) (order_of_words kind words) none)

on_order : (tables : TableFile) (kind : OrderKind) (words : List (List ℕ)) → event_of_order tables kind words ≡ None
    → IsSome (reason_of_order tables words)
on_order tables kind [] none = refl
on_order tables kind (name ∷ words) none =
    no_order_for kind words (customer_named tables name) (λ c order. Order c order) none _

-- ---- a whole line

on_other : (tables : TableFile) (word : List ℕ) (words : List (List ℕ)) (event : Bool) → is_event word ≡ event
    → event_on_line (line_named tables) (word ∷ words) ≡ None → (t : Told)
    → IsSome (cond event (reason_on_line tables word words) (Some t))
on_other tables word words true is none t = on_line tables word words is none
on_other tables word words false is none t = refl

on_kind : (tables : TableFile) (kind : Option OrderKind) (word : List ℕ) (words : List (List ℕ))
    → event_by_kind tables kind word words ≡ None → IsSome (reason_by_kind tables kind word words)
on_kind tables (Some kind) word words none = on_order tables kind words none
on_kind tables None word words none = on_other tables word words (is_event word) refl none _

on_word : (tables : TableFile) (word : List ℕ) (words : List (List ℕ)) (routes : Bool)
    → cond routes (event_of_routes tables words) (event_by_kind tables (order_kind word) word words) ≡ None
    → IsSome (cond routes (reason_of_routes tables words) (reason_by_kind tables (order_kind word) word words))
on_word tables word words true none = on_routes tables words none
on_word tables word words false none = on_kind tables (order_kind word) word words none

on_words : (tables : TableFile) (words : List (List ℕ)) → event_of_words tables words ≡ None
    → IsSome (reason_of_words tables words)
on_words tables [] none = refl
on_words tables (word ∷ words) none = on_word tables word words (bytes_eq word (codes "ROUTES")) none

on_text : (tables : TableFile) (words : List (List ℕ)) (text : Bool)
    → cond text (event_of_words tables words) None ≡ None
    → (t : Told) → IsSome (cond text (reason_of_words tables words) (Some t))
on_text tables words true none t = on_words tables words none
on_text tables words false none t = refl

pub no_event : (tables : TableFile) (line : List ℕ) → script_event tables line ≡ None → IsSome (reason_of tables line)
unfolding script_event reason_of
no_event tables line none = on_text tables (words_of line) (is_utf8 line) none _
