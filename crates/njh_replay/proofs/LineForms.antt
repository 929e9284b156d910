-- How a line falls into words, and the event of each form of line.
use Rattle.std.proofs.Common.{◌≡◌, ℕ, ◌<◌, ◌≤◌, eqb, Bool, true, false, cond, codes, List, [], ◌∷◌, length, get_or}
use Rattle.std.proofs.Common.{Option}
use Rattle.std.proofs.Common.{Some, None, option_and_then, Result, Ok, Err, ◌⊎◌, inl, inr, refl, sym, ap, subst, ◌∙◌}
use Rattle.std.proofs.Common.{lit<, Bor}
use Rattle.std.proofs.lemmas.Bool.{cases_lt, eqb-true}
use Rattle.std.proofs.lemmas.List.Splits.{slice_split_first}
use Rattle.std.proofs.lemmas.Str.Pattern.{IsSplitOnceResult}
use Rattle.std.proofs.lemmas.List.Sums.{passes_at_first}
use Rattle.std.specs.List.{position_or_len, before_first, after_first}
use Rattle.std.specs.Str.{bytes_eq}
use Rattle.hex.specs.Hex.{decode_of, is_hex_digit}
use Rattle.hex.specs.declared.error.FromHexError.{FromHexError}
use Rattle.hex.proofs.HexLemmas.{decode_of-ok}
use Rattle.njh_table.specs.declared.LineId.{LineId}
use Rattle.njh_table.specs.TableFile.{TableFile, HasLine}
use Rattle.njh_hub.specs.declared.event.Event.{Event}
use Rattle.njh_hub.specs.declared.event.Event.TheVariants.{Bytes, Tick, Garbled, Lost, Routes, Order}
use Rattle.njh_hub.specs.OwnEvents.{line_of_event}
use Rattle.njh_replay.specs.Script.{words_of, event_by_kind, event_of_words, event_on_line, bytes_on, piece_of}
use Rattle.njh_replay.specs.Script.{some_bytes, signal_of}
use Rattle.njh_replay.specs.ScriptOrders.{order_kind}
use Rattle.njh_replay.specs.declared.script_orders.OrderKind.{OrderKind}
use Rattle.njh_replay.specs.ScriptRoutes.{event_of_routes, IsNamedIn}
use Rattle.njh_replay.proofs.Parting.{parts-first, parts-none, parts-some, parts-whole}

abbrev pub is_blank : ℕ → Bool
is_blank b = eqb b 32

-- a blank is no hex digit
is_hex_digit-blank : (b : ℕ) → b ≡ 32 → is_hex_digit b ≡ true → ⊥
is_hex_digit-blank b e digit = let bad : is_hex_digit 32 ≡ true = rw e at digit in cc bad

some_bytes-none : (read : Result (List ℕ) FromHexError) → ((bytes : List ℕ) → read ≡ Ok bytes → ⊥)
    → some_bytes read ≡ None
some_bytes-none (Ok bytes) never = absurd (never bytes refl)
some_bytes-none (Err e) never = refl

piece_of-blank : (digits : List ℕ) → position_or_len is_blank digits < length digits → piece_of digits ≡ None
piece_of-blank digits below =
    some_bytes-none (decode_of digits) (λ bytes read.
    is_hex_digit-blank (get_or digits (position_or_len is_blank digits) 0)
    (eqb-true _ 32 (passes_at_first is_blank digits 0 below))
    ((decode_of-ok digits bytes read).1 (position_or_len is_blank digits) 0 below))

-- so digits with a blank tell no event, whatever the word and the name
test-none : (test : Bool) (piece : Option Event) → piece ≡ None → cond test piece None ≡ None
test-none true piece none = none
test-none false piece none = refl

bytes_on-blank : (word digits : List ℕ) (id : LineId) → position_or_len is_blank digits < length digits
    → bytes_on word digits id ≡ None
bytes_on-blank word digits id below = test-none (bytes_eq word (codes "BYTES")) _
    (rw (piece_of-blank digits below) refl)

no_line : (found : Option LineId) (tell : LineId → Option Event) → ((id : LineId) → tell id ≡ None)
    → option_and_then tell found ≡ None
no_line (Some line) tell none = none line
no_line None tell none = refl

-- a line of one word tells no event
test-same : (test : Bool) (o : Option Event) → o ≡ None → cond test None o ≡ None
test-same true o none = refl
test-same false o none = none

one_word : (tables : TableFile) (kind : Option OrderKind) (word : List ℕ) → event_by_kind tables kind word [] ≡ None
one_word tables (Some kind) word = refl
one_word tables None word = refl

pub event_of_words-one : (tables : TableFile) (line : List ℕ) → IsSplitOnceResult 32 line None
    → event_of_words tables (words_of line) ≡ None
event_of_words-one tables line whole =
    ap (event_of_words tables) (parts-whole 32 line (lit< tt) whole)
    ∙ test-same (bytes_eq line (codes "ROUTES")) _ (one_word tables (order_kind line) line)

-- `ROUTES` and other words
pub event_of_words-routes : (tables : TableFile) (line : List ℕ) (word rest : Bor (List ℕ))
    → IsSplitOnceResult 32 line (Some (word, rest)) → bytes_eq word.now (codes "ROUTES") ≡ true
    → event_of_words tables (words_of line) ≡ event_of_routes tables (words_of rest.now)
event_of_words-routes tables line word rest split same =
    ap (event_of_words tables) (parts-first 32 line word rest (lit< tt) split).0
    ∙ ap (λ test. cond test (event_of_routes tables (words_of rest.now))
    (event_by_kind tables (order_kind word.now) word.now (words_of rest.now))) same

-- any other word
pub event_of_words-other : (tables : TableFile) (line : List ℕ) (word rest : Bor (List ℕ))
    → IsSplitOnceResult 32 line (Some (word, rest)) → bytes_eq word.now (codes "ROUTES") ≡ false
    → event_of_words tables (words_of line) ≡ event_by_kind tables (order_kind word.now) word.now (words_of rest.now)
event_of_words-other tables line word rest split other =
    ap (event_of_words tables) (parts-first 32 line word rest (lit< tt) split).0
    ∙ ap (λ test. cond test (event_of_routes tables (words_of rest.now))
    (event_by_kind tables (order_kind word.now) word.now (words_of rest.now))) other

-- the event of a word and the name of a line
pub event_on_line-two : (names : List ℕ → Option LineId) (word name : List ℕ) → IsSplitOnceResult 32 name None
    → event_on_line names (word ∷ words_of name) ≡ option_and_then (signal_of word) (names name)
event_on_line-two names word name whole =
    ap (λ (words : List (List ℕ)). event_on_line names (word ∷ words)) (parts-whole 32 name (lit< tt) whole)

-- the event of a word, the name of a line and digits
pub digits_event : (names : List ℕ → Option LineId) (word name digits : List ℕ)
    → event_on_line names (word ∷ name ∷ words_of digits) ≡ option_and_then (bytes_on word digits) (names name)
digits_event names word name digits = by (cases_lt (position_or_len is_blank digits) (length digits)) where
  by : (position_or_len is_blank digits < length digits) ⊎ (length digits ≤ position_or_len is_blank digits)
      → event_on_line names (word ∷ name ∷ words_of digits) ≡ option_and_then (bytes_on word digits) (names name)
  by (inl below) =
      let more = parts-some 32 (after_first is_blank digits) in
      ap (λ (words : List (List ℕ)). event_on_line names (word ∷ name ∷ words))
      (slice_split_first is_blank digits 0 below ∙ ap (λ (words : List (List ℕ)). before_first is_blank digits ∷ words)
      more.2)
      ∙ sym (no_line (names name) (bytes_on word digits) (λ line. bytes_on-blank word digits line below))
  by (inr past) = ap (λ (words : List (List ℕ)). event_on_line names (word ∷ name ∷ words)) (parts-none 32 digits past)

pub event_on_line-three : (names : List ℕ → Option LineId) (word rest : List ℕ) (name digits : Bor (List ℕ))
    (found : Option LineId)
    → IsSplitOnceResult 32 rest (Some (name, digits)) → found ≡ names name.now
    → event_on_line names (word ∷ words_of rest) ≡ option_and_then (bytes_on word digits.now) found
event_on_line-three names word rest name digits found split known =
    ap (λ (words : List (List ℕ)). event_on_line names (word ∷ words))
    (parts-first 32 rest name digits (lit< tt) split).0
    ∙ digits_event names word name.now digits.now ∙ ap (option_and_then (bytes_on word digits.now)) (sym known)

-- an event on a line of the tables names what they have
pub named_on : (tables : TableFile) (event : Event) (id : LineId) → HasLine tables id → line_of_event event ≡ Some id
    → IsNamedIn tables event
named_on tables (Bytes at piece) id known on = subst (HasLine tables) (sym (cc on)) known
named_on tables (Tick at) id known on = subst (HasLine tables) (sym (cc on)) known
named_on tables (Garbled at) id known on = subst (HasLine tables) (sym (cc on)) known
named_on tables (Lost at) id known on = subst (HasLine tables) (sym (cc on)) known
named_on tables (Routes c routes) id known on = absurd (cc on)
named_on tables (Order c order) id known on = absurd (cc on)
