-- The visitors, in the order in which they are looked at: who came in or was answered first is the first. Moments are
-- milliseconds.
use Rattle.std.specs.Prelude.{◌≡◌, ◌≢◌, ◌⊎◌, ⊤, ℕ, ◌+◌, ◌-◌, ◌<◌, ◌&&◌, ◌||◌, ◌==◌, Bool, true, false, not, List, []}
use Rattle.std.specs.Prelude.{◌∷◌, ◌++◌, length, Option, Some, None, is_some, slice_get, filter, min, nat_le, nat_lt}
use Rattle.std.specs.Prelude.{cond, slice_index_or, position, remove}
use Rattle.std.specs.Option.{option_or}
use Rattle.std.specs.Io.KnownBytes.{Consumes, Keeps}
use Rattle.http1.specs.Message.{ReadsRequests}
use Rattle.http1.specs.Message as Wire
use Rattle.http_server.specs.Exchange.{Call}
use Rattle.http_server.specs.History.{after_read, after_sent, new_history, History, IsQuiet, IsServed, WantsRead}
use Rattle.http_server.specs.declared.state.Config.{Config}
use Rattle.http_server.specs.declared.state.Reason.TheVariants.{Asked, EndOfInput, Refused}
use Rattle.http_server.specs.declared.state.Refusal.{Refusal}
use Rattle.http_server.specs.declared.state.Refusal.TheVariants.{Truncated, Unreadable, BodyTooLarge, InvalidPart}
use Rattle.http_server.specs.declared.state.Refusal.TheVariants.{InvalidHost, UnknownCoding, InvalidResponse}
use Rattle.http_server.specs.declared.state.State.{State}
use Rattle.http_server.specs.declared.state.State.TheVariants.{Open, Closing, Upgraded, Aborted}

-- A visitor: its socket, and what its connection did.
pub record Seat (V : Type 0) : Type 0 where
  pub socket : V
  pub history : History
  -- something came or went since it was looked at last
  pub unseen : Bool
  -- when it came in, or was answered last
  pub since : ℕ
  -- a request of its was answered
  pub served : Bool
  -- its socket failed
  pub failed : Bool

-- one who comes in
abbrev pub new_seat : {V : Type 0} → V → ℕ → Seat V
new_seat socket now = record {
  socket = socket;
  history = new_history;
  unseen = false;
  since = now;
  served = false;
  failed = false;
}

-- ---- reading and writing

-- What a request may have. While an answer waits to go out none is read.
abbrev pub config : Config
config = record {
  limits = record { max_head_len = 4096; max_extensions_len = 64; max_trailers_len = 64 };
  max_body_len = 4096;
  max_pending = 0;
  read_size = 4096;
}

-- since when it is there, and whether it was answered
abbrev pub IsThereAs : {V : Type 0} → Seat V → Seat V → Type 0
IsThereAs before after = (after.since ≡ before.since) × (after.served ≡ before.served)

-- A visitor's socket was read once, if it may send something now, and gave its next bytes, or that no more come; or
-- nothing came. Who failed stays so.
pub record IsReadFrom {V : Type 0} (remaining : V → Option (List ℕ)) (before after : Seat V) : Type 0 where
  pub came : (WantsRead config before.history × ((more : List ℕ)
      × Consumes (remaining before.socket) (remaining after.socket) more
      × (after.history ≡ after_read before.history more) × (after.unseen ≡ true)))
      ⊎ (Keeps (remaining before.socket) (remaining after.socket)
      × (after.history ≡ before.history) × (after.unseen ≡ before.unseen))
  pub there : IsThereAs before after
  pub stays_failed : before.failed ≡ true → after.failed ≡ true

-- Its socket was written to once, and took so much of what waits to go out, or nothing.
pub record IsSentTo {V : Type 0} (before after : Seat V) : Type 0 where
  pub went : ((count : ℕ) × (after.history ≡ after_sent before.history count)
      × (after.unseen ≡ (before.unseen || nat_lt 0 count)))
      ⊎ ((after.history ≡ before.history) × (after.unseen ≡ before.unseen))
  pub there : IsThereAs before after
  pub stays_failed : before.failed ≡ true → after.failed ≡ true

-- they are as many, and each is so beside the one at its place
pub record AreEach {V : Type 0} (Is : Seat V → Seat V → Type 0) (before after : List (Seat V)) : Type 0 where
  pub many : length after ≡ length before
  pub each : (place : ℕ) (d : Seat V) → place < length before
      → Is (slice_index_or before place d) (slice_index_or after place d)

abbrev pub AreReadFrom : {V : Type 0} → (V → Option (List ℕ)) → List (Seat V) → List (Seat V) → Type 0
AreReadFrom remaining before after = AreEach (IsReadFrom remaining) before after

abbrev pub AreSentTo : {V : Type 0} → List (Seat V) → List (Seat V) → Type 0
AreSentTo before after = AreEach (λ one then. IsSentTo one then) before after

-- ---- who asks, and who is answered

-- More whole requests came than were answered, and nothing waits to go out before the next answer.
pub record IsAsking (h : History) : Type 0 where
  pub is_open : h.state ≡ Open
  pub is_free : length h.pending ≡ 0
  pub requests : List Wire.Request
  pub rest : List ℕ
  pub reads : ReadsRequests config.limits h.received requests rest
  pub more : length h.calls < length requests

-- The connection is closed, and `IsServed` says why: the request has what HTTP refuses here, or memory was short. Or
-- something goes out before an answer.
abbrev pub IsHeldUp : History → Type 0
IsHeldUp h = (h.state ≢ Open) ⊎ (0 < length h.pending)

-- how a visitor is when it was looked at
abbrev pub IsSeen : {V : Type 0} → Seat V → Seat V → Type 0
IsSeen before after = (after.socket ≡ before.socket) × (after.unseen ≡ false) × IsThereAs before after
    × (after.failed ≡ before.failed) × IsQuiet before.history after.history

-- A visitor was looked at, and these calls are its requests that were answered by it: one at least, if it asked.
pub record IsLookedAt {V : Type 0} (before after : Seat V) (calls : List Call) : Type 0 where
  pub calls_are : after.history.calls ≡ before.history.calls ++ calls
  pub asked : IsAsking before.history → calls ≡ [] → IsHeldUp after.history
  pub served : ∥ IsServed config after.history ∥₁
  pub same : IsSeen before after

-- It may have a whole request that waits for an answer: something came or went since it was looked at last, and no
-- answer waits to go out before that.
abbrev pub may_ask : {V : Type 0} → Seat V → Bool
may_ask seat = seat.unseen && (length seat.history.pending == 0)

-- each was looked at, and none was answered
abbrev pub ArePassed : {V : Type 0} → List (Seat V) → List (Seat V) → Type 0
ArePassed [] [] = ⊤
ArePassed (one ∷ seats) (then ∷ others) = IsLookedAt one then [] × ArePassed seats others
ArePassed [] (then ∷ others) = ⊥
ArePassed (one ∷ seats) [] = ⊥

-- one who is answered at this moment
abbrev pub answered_at : {V : Type 0} → ℕ → Seat V → Seat V
answered_at now seat = record seat { since = now; served = true }

-- Visitors were looked at one after another, until one was answered. He goes behind all the others.
pub record IsTurn {V : Type 0} (now : ℕ) (before after : List (Seat V)) (calls : List Call) : Type 0 where
  pub front : List (Seat V)
  pub one : Seat V
  pub back : List (Seat V)
  pub before_is : before ≡ front ++ one ∷ back
  pub passed : List (Seat V)
  pub passed_are : ArePassed front passed
  pub then : Seat V
  pub answered : IsLookedAt one then calls
  pub after_is : after ≡ passed ++ back ++ answered_at now then ∷ []

abbrev pub has_failed : {V : Type 0} → Option (Seat V) → Bool
has_failed None = false
has_failed (Some seat) = seat.failed

-- the socket of who was answered last failed: he has gone
abbrev pub is_last_gone : {V : Type 0} → List (Seat V) → Bool
is_last_gone seats = has_failed (slice_get seats (length seats - 1))

-- ---- room for whoever waits

-- Where he sits who gives up his seat for another: the first who doesn't ask; if all ask, the first who was answered
-- before.
abbrev pub place_given_up : {V : Type 0} → List (Seat V) → Option ℕ
place_given_up seats = option_or (position (λ seat. not (may_ask seat)) seats) (position (λ seat. seat.served) seats)

-- there are four seats: one is free, or is given up
abbrev pub has_room : {V : Type 0} → List (Seat V) → Bool
has_room seats = nat_lt (length seats) 4 || is_some (place_given_up seats)

abbrev pub without_place : {V : Type 0} → Option ℕ → List (Seat V) → List (Seat V)
without_place None seats = seats
without_place (Some place) seats = remove seats place

-- those who stay, where one more is to have a seat
abbrev pub with_room : {V : Type 0} → List (Seat V) → List (Seat V)
with_room seats = cond (nat_lt (length seats) 4) seats (without_place (place_given_up seats) seats)

-- One came, and was read once. He has a seat then, unless nothing more is to be read of him: he had ended what he
-- sends, and nothing came.
pub record HasCome {V : Type 0} (remaining : V → Option (List ℕ)) (now : ℕ) (socket : V)
    (before after : List (Seat V)) : Type 0 where
  pub seat : Seat V
  pub read : IsReadFrom remaining (new_seat socket now) seat
  pub after_is : (WantsRead config seat.history × (after ≡ with_room before ++ seat ∷ []))
      ⊎ ((¬ WantsRead config seat.history) × (after ≡ before))

-- ---- who leaves

abbrev pub is_open : State → Bool
is_open Open = true
is_open (Closing reason) = false
is_open Upgraded = false
is_open Aborted = false

-- HTTP has nothing more to do there
abbrev pub is_done : History → Bool
is_done h = not (is_open h.state) && (length h.pending == 0)

-- it is done, its socket failed, or it is there without a whole request for two seconds
abbrev pub leaves : {V : Type 0} → ℕ → Seat V → Bool
leaves now seat = is_done seat.history || (seat.failed || (not (may_ask seat)
    && nat_le (min (seat.since + 2000) 18446744073709551615) now))

-- those who don't leave
abbrev pub staying : {V : Type 0} → ℕ → List (Seat V) → List (Seat V)
staying now seats = filter (λ seat. not (leaves now seat)) seats

-- what came was at fault
abbrev pub is_bad_request : Refusal → Bool
is_bad_request Truncated = true
is_bad_request (Unreadable error) = true
is_bad_request BodyTooLarge = true
is_bad_request (InvalidPart error) = true
is_bad_request InvalidHost = true
is_bad_request UnknownCoding = true
is_bad_request (InvalidResponse error) = false

-- a connection was closed since what came is no request of HTTP that is read here
abbrev pub is_astray : State → Bool
is_astray Open = false
is_astray (Closing Asked) = false
is_astray (Closing EndOfInput) = false
is_astray (Closing (Refused why)) = is_bad_request why
is_astray Upgraded = false
is_astray Aborted = false

-- those who leave so
abbrev pub gone_astray : {V : Type 0} → ℕ → List (Seat V) → List (Seat V)
gone_astray now seats = filter (λ seat. leaves now seat && is_astray seat.history.state) seats
