-- What is seen of a service's attendant: its lines, the operator's console, and when the service ends.
use Rattle.std.specs.Prelude.{◌≡◌, ◌⊎◌, ◌↔◌, ⊤, ℕ, ◌-◌, ◌/◌, Bool, List, [], ◌∷◌, filter, length, map, min, nat_lt}
use Rattle.std.specs.Prelude.{Option, Some, None, IsTrue, Result, if◌then◌else◌, slice_get}
use Rattle.std.specs.declared.net.socket_addr.SocketAddr.{SocketAddr}
use Rattle.njh_request.specs.declared.request.LineState.{LineState}
use Rattle.njh_answer.specs.declared.views.LineView.{LineView}
use Rattle.njh_answer.specs.declared.views.Refused.{Refused}
use Rattle.njh_anteroom.specs.declared.remembered.Remembered.{Remembered}
use Rattle.njh_answer.specs.Tickets.{is_late}
use Rattle.njh_answer.specs.declared.orders.Outcome.{Outcome}
use Rattle.njh_answer.specs.declared.ticket.Ticket.{Ticket}
use Rattle.njh_console.specs.Consoles.{AreHeard, ConsoleState, IsActDone, IsRoundServed}
use Rattle.njh_console.specs.Scenes.{Scene}
use Rattle.njh_console.specs.declared.act.Act.{Act}
use Rattle.njh_console.specs.declared.act.Act.TheVariants as act
use Rattle.njh_console.specs.declared.act.Asked.{Asked}
use Rattle.njh_console.specs.declared.act.Asked.TheVariants as asked
use Rattle.njh_console.specs.declared.order_book.WaitingOrder.{WaitingOrder}
use Rattle.njh_console.specs.Seats.{gone_astray, is_last_gone, staying}
use Rattle.njh_hub.specs.WholeHub.{Part}
use Rattle.njh_console.specs.Orders.{act_done, lapsed, with_outcome, NoneIsOpen, TakenOrders}
use Rattle.njh_turns.specs.Service.{Stage, AskedOrder, AskedRoutes, Begins, Rests, order_event}
use Rattle.njh_hub.specs.declared.event.Event.{Event}
use Rattle.njh_request.specs.declared.order.Order.{Order}
use Rattle.njh_request.specs.declared.order.Order.TheVariants as order
use Rattle.njh_line.specs.declared.message_counts.MessageCounts.{MessageCounts}
use Rattle.njh_request.specs.declared.request.EndMoment.{EndMoment}
use Rattle.njh_request.specs.declared.request.EndMoment.TheVariants.{AtOnce, WhenIdle}
use Rattle.njh_table.specs.TableFile.{TableFile}
use Rattle.njh_table.specs.declared.LineId.{LineId}
use Rattle.njh_lines.specs.LineStates.{line_settled, line_wished, AreFree, AreMade}
use Rattle.njh_presence.specs.declared.presence.Presence.{Presence}
use Rattle.njh_presence.specs.declared.presence.PresenceNews.{PresenceNews}
use Rattle.njh_service.specs.Presences.{IsLookedAt}
use Rattle.njh_service.specs.Rereading.{IsCompared, IsReloaded}
use Rattle.njh_revision.specs.Revisions.{opened_tables, AreKept, KnownTables}
use Rattle.njh_lines.specs.Watching.{IsRoundBegun, ServedLine, Watched}
use Rattle.njh_lines.specs.declared.post.Post.{Post}
use Rattle.njh_sight.specs.declared.steps.Steps.{Steps}
use Rattle.njh_sight.specs.declared.tally.FileRefusals.{FileRefusals}
use Rattle.njh_sight.specs.declared.tally.Tally.{Tally}
use Rattle.njh_wire.specs.Standing.{Standing}
use Rattle.njh_answer.specs.declared.views.BothWays.{BothWays}
use Rattle.njh_answer.specs.declared.views.LineCounts.{LineCounts}
use Rattle.njh_answer.specs.declared.views.TurnedAway.{TurnedAway}
use Rattle.njh_service.specs.declared.line_clock.LineClock.{LineClock}

-- The lines and what is seen of them, the tables of the hub, what is known of the spool file if the hub's files are
-- kept, the console, whether a line may be one that is to be stopped once it is idle, when the service is to end, if
-- that was ordered, and whether it ends now.
pub record Attended (V : Type 0) : Type 0 where
  pub exchange : Watched
  pub tables : Option KnownTables
  pub presence : Option Presence
  pub console : ConsoleState V
  -- the second that it was as the round began
  pub clock : ℕ
  pub drains : Bool
  pub stop : Option EndMoment
  pub is_over : Bool

-- An order that it brought in a round, and of which it hasn't heard, is the one that its console gave; once it has
-- heard of it, or if it brought none, none is open.
abbrev pub AwaitsAnswer : Stage → TakenOrders → Type 0
AwaitsAnswer Rests orders = ⊤
AwaitsAnswer Begins orders = ⊤
AwaitsAnswer (AskedRoutes brought) orders = ⊤
AwaitsAnswer (AskedOrder None) orders = NoneIsOpen orders
AwaitsAnswer (AskedOrder (Some event)) orders =
    (orders.waiting ≡ None) × ((w : WaitingOrder) × (orders.given ≡ Some w.ticket) × (event ≡ order_event w.order))

-- ---- when the service ends

-- once this was ordered: what is to end at once does
abbrev pub stop_after : Option EndMoment → EndMoment → Option EndMoment
stop_after None moment = Some moment
stop_after (Some AtOnce) moment = Some AtOnce
stop_after (Some WhenIdle) moment = Some moment

-- it ends after a round: after the next one, or the first after which no file is on the streams of any line
abbrev pub IsOver : Option EndMoment → List Part → List ServedLine → Type 0
IsOver None parts lines = ⊥
IsOver (Some AtOnce) parts lines = ⊤
IsOver (Some WhenIdle) parts lines = AreFree parts lines

-- ---- what the console does

-- A line: how it is served, how many NAKs and blocks once more the hub sent on it, and what was counted on it, but for
-- bytes, which its wire counts, and nodal messages, which the hub does.
pub record ToldLine : Type 0 where
  pub line : LineId
  pub state : LineState
  pub naks : ℕ
  pub repeats : ℕ
  pub counts : LineCounts

-- the addresses of which sign-ons were refused, with how many, what was noted last behind all else
abbrev pub refused_by : Remembered → Refused
refused_by r = record { address = r.address; count = r.refusals }

abbrev pub refused_in : List Remembered → List Refused
refused_in remembered = map refused_by (filter (λ r. nat_lt 0 r.refusals) remembered)

-- who is connected, if somebody is: of who had the line last nothing is told
abbrev pub peer_if : (is_connected : Bool) → Option SocketAddr → Option SocketAddr
peer_if is_connected peer = if is_connected then peer else None

-- ---- what was counted

abbrev pub turned_by : FileRefusals → TurnedAway
turned_by r = record { files = r.files; quota = r.quota; route = r.route; other = r.other }

-- at the steps on a line and of its files, and these bytes
abbrev pub counts_of : Steps → Tally → BothWays → LineCounts
counts_of steps tally bytes = record {
  blocks = record { came = steps.blocks_in; went = steps.blocks_out };
  bytes = bytes;
  files = record { came = tally.files_in; went = tally.files_out };
  messages = record { came = 0; went = 0 };
  dropped = 0;
  records = record { came = tally.records_in; went = tally.records_out };
  commands = tally.commands;
  cut_off = tally.cut_off;
  returned = tally.returned;
  turned_away = turned_by tally.refused;
}

-- the hub counts nodal messages, of which no clause says anything
abbrev pub with_messages : MessageCounts → LineCounts → LineCounts
with_messages messages counts = record counts {
  messages = record { came = messages.came; went = messages.sent };
  dropped = messages.dropped;
}

abbrev pub no_bytes : BothWays
no_bytes = record { came = 0; went = 0 }

-- the bytes that came on the wire at a place, and went
abbrev pub bytes_where : {C : Type 0} → Option (Standing C) → BothWays
bytes_where None = no_bytes
bytes_where (Some wire) = record { came = wire.came; went = wire.went }

abbrev pub bytes_on : {C : Type 0} → (place : ℕ) → List (Standing C) → BothWays
bytes_on place wires = bytes_where (slice_get wires place)

-- as the console tells it
abbrev pub view_told : LineView → ToldLine
view_told view = record {
  line = view.line;
  state = view.state;
  naks = view.naks;
  repeats = view.repeats;
  counts = record view.counts { bytes = no_bytes; messages = no_bytes; dropped = 0 };
}

-- as it is
abbrev pub line_told : ServedLine → Steps → Tally → ToldLine
line_told line steps tally = record {
  line = line.id;
  state = line.state;
  naks = steps.naks;
  repeats = steps.repeats;
  counts = counts_of steps tally no_bytes;
}

abbrev pub post_told : {L C : Type 0} → Post L C → ToldLine
post_told post = record {
  line = post.line;
  state = post.state;
  naks = post.steps.naks;
  repeats = post.steps.repeats;
  counts = counts_of post.steps post.streams.tally no_bytes;
}

-- each line, with what was noted of its steps and counted of its files
abbrev pub lines_told : List ServedLine → List Steps → List Tally → List ToldLine
lines_told [] steps tallies = []
lines_told (line ∷ lines) [] tallies = []
lines_told (line ∷ lines) (own ∷ steps) [] = []
lines_told (line ∷ lines) (own ∷ steps) (tally ∷ tallies) = line_told line own tally ∷ lines_told lines steps tallies

-- ---- when

-- the second since the beginning of 1970 at which the service's clock showed a moment
abbrev pub seconds_at : LineClock → (moment : ℕ) → ℕ
seconds_at clock moment = (clock.utc - (clock.now - moment)) / 1000

abbrev pub seconds_if : LineClock → (is_told : Bool) → (moment : ℕ) → Option ℕ
seconds_if clock is_told moment = if is_told then Some (seconds_at clock moment) else None

-- What the console tells of is what is: the hub's value, the tables it was opened with, and each line with its state
-- its counts, when files came, and the second that it is.
pub record IsSceneOf {V : Type 0} (parts : List Part) (seen : Attended V) (scene : Scene) : Type 0 where
  pub parts_are : scene.parts ≡ parts
  pub tables_are : Some scene.tables ≡ opened_tables seen.tables
  pub lines_are : map view_told scene.lines
      ≡ lines_told seen.exchange.lines seen.exchange.steps seen.exchange.tallies
  pub arrivals_are : scene.arrivals ≡ seen.exchange.arrivals
  pub clock_is : scene.service.clock ≡ seen.clock

-- One visitor at most was answered, by what is, and this was ordered of the service itself, if anything was.
abbrev pub IsAsked : {V : Type 0} → List Part → (seen : Attended V) → (after : ConsoleState V) → Asked → Type 0
IsAsked {V} parts seen after what = ((after ≡ seen.console) × (what ≡ asked.Nothing))
    ⊎ ((scene : Scene) × IsSceneOf parts seen scene × IsRoundServed scene seen.exchange.now seen.console after what)

-- What was ordered of the service itself is done, and nothing else.
abbrev pub IsObeyed : {V : Type 0} → Option Act → (old new : Attended V) → Type 0
IsObeyed None old new = (new.exchange ≡ old.exchange) × (new.stop ≡ old.stop)
IsObeyed (Some (act.Line id wish)) old new =
    AreMade (line_wished id wish) old.exchange.lines new.exchange.lines × (new.stop ≡ old.stop)
IsObeyed (Some (act.Stop moment)) old new =
    (new.exchange ≡ old.exchange) × (new.stop ≡ stop_after old.stop moment)

-- What is left to the service to be done is remembered as done, if it is to be: nothing else changes at the console.
abbrev pub IsActing : {V : Type 0} → Asked → (old new : Attended V) → Option Act → Type 0
IsActing asked.Nothing old new what = (new.console ≡ old.console) × (what ≡ None)
IsActing (asked.Refused why) old new what = (new.console ≡ old.console) × (what ≡ None)
IsActing (asked.Given number terms) old new what = (new.console ≡ old.console) × (what ≡ None)
IsActing (asked.Tables ticket) old new what = (new.console ≡ old.console) × (what ≡ None)
IsActing (asked.Act ticket act) old new what =
    IsActDone old.clock ticket old.console new.console
    × (what ≡ act_done (is_last_gone old.console.seats) (is_late old.clock ticket.terms) act)

-- What tables that are read for an order change: the table file is taken, with the lines as it says; another changes
-- nothing.
abbrev pub IsRead : {V : Type 0} (F : Type 0) → (Option (List ℕ) → Result TableFile F → Type 0) → Order
    → (old new : Attended V) → Outcome → Type 0
IsRead F gives order.Reload old new told =
    IsReloaded F (gives None) old.tables new.tables old.exchange.lines new.exchange.lines told
    × AreKept old.tables new.tables
    × (new.exchange ≡ record old.exchange { lines = new.exchange.lines })
    × (new.console ≡ old.console) × (new.stop ≡ old.stop)
IsRead F gives (order.Diff path) old new told = IsCompared F (gives (Some path)) old.tables told × (new ≡ old)
IsRead F gives what old new told = new ≡ old

-- that this came of an order is remembered
pub record IsNoted {V : Type 0} (ticket : Ticket) (told : Outcome) (old new : Attended V) : Type 0 where
  pub exchange : new.exchange ≡ old.exchange
  pub tables : new.tables ≡ old.tables
  pub seats : new.console.seats ≡ old.console.seats
  pub orders : new.console.orders ≡ with_outcome ticket told old.console.orders
  pub stop : new.stop ≡ old.stop

-- For an order tables are read, and what is told of them is remembered; or that it lapsed.
abbrev pub IsReadFor : {V : Type 0} (F : Type 0) → (Option (List ℕ) → Result TableFile F → Type 0) → Ticket
    → (lapse : Option Outcome) → (old new : Attended V) → Type 0
IsReadFor F gives ticket (Some lapse) old new = IsNoted ticket lapse old new
IsReadFor {V} F gives ticket None old new =
    (read : Attended V) × (told : Outcome) × IsRead F gives ticket.order old read told × IsNoted ticket told read new

-- Tables are read, if that is asked; all else is left.
abbrev pub IsReading : {V : Type 0} (F : Type 0) → (Option (List ℕ) → Result TableFile F → Type 0) → Asked
    → (old new : Attended V) → (left : Asked) → Type 0
IsReading F gives asked.Nothing old new left = (left ≡ asked.Nothing) × (new ≡ old)
IsReading F gives (asked.Refused why) old new left = (left ≡ asked.Refused why) × (new ≡ old)
IsReading F gives (asked.Given number terms) old new left = (left ≡ asked.Given number terms) × (new ≡ old)
IsReading F gives (asked.Act ticket act) old new left = (left ≡ asked.Act ticket act) × (new ≡ old)
IsReading F gives (asked.Tables ticket) old new left =
    (left ≡ asked.Nothing)
    × IsReadFor F gives ticket (lapsed (is_last_gone old.console.seats) (is_late old.clock ticket.terms)) old new

-- What a round of the console does: one visitor at most is answered by what is, each visitor is written to, tables are
-- read if that was ordered, what was ordered of the service itself is done, and those who leave are let go; so many of
-- them had sent what is no request.
pub record IsConsoleServed {V : Type 0} (F : Type 0) (gives : Option (List ℕ) → Result TableFile F → Type 0)
    (parts : List Part) (old new : Attended V) : Type 0 where
  pub what : Asked
  pub answered : Attended V
  pub asked : IsAsked parts old answered.console what
  pub heard : Attended V
  pub sent : AreHeard answered.console heard.console
  pub second : heard.clock ≡ old.clock
  pub same : (heard.exchange ≡ old.exchange) × (heard.tables ≡ old.tables) × (heard.stop ≡ old.stop)
  pub left : Asked
  pub reread : Attended V
  pub read : IsReading F gives what heard reread left
  pub acting : Attended V
  pub act : Option Act
  pub acted : IsActing left reread acting act
  pub obeyed : IsObeyed act reread new
  pub seats : new.console.seats ≡ staying old.exchange.now acting.console.seats
  pub orders : new.console.orders ≡ acting.console.orders
  pub tables : new.tables ≡ reread.tables
  pub presence : new.presence ≡ old.presence

-- ---- before and after a round

-- Before a round: its exchange waited, and looks at each line of which something is ready or whose moment came. Nothing
-- was ordered or stopped.
pub record IsOpenedBy {V C : Type 0} (old : Attended V) (wires : List C) (new : Attended V) (new_wires : List C)
    : Type 0 where
  pub begun : IsRoundBegun (min (length old.exchange.lines) (length wires)) old.exchange new.exchange
  pub lines : new.exchange.lines ≡ old.exchange.lines
  pub orders : new.console.orders ≡ old.console.orders
  pub stop : new.stop ≡ old.stop

-- After a round: what stands at the spool file's path is looked at, if it is time to; lines that are to be stopped once
-- they are idle are, if they are; it is noted whether the service ends now; and then the console is served.
pub record IsClosed {V : Type 0} (F : Type 0) (gives : Option (List ℕ) → Result TableFile F → Type 0)
    (parts : List Part) (old new : Attended V) : Type 0 where
  pub ended : Attended V
  pub news : Option PresenceNews
  pub looked : IsLookedAt old.exchange.now old.presence ended.presence news
  pub lines : AreMade (line_settled parts) old.exchange.lines ended.exchange.lines
  pub over : IsTrue ended.is_over ↔ IsOver old.stop parts ended.exchange.lines
  pub console : ended.console ≡ old.console
  pub stop : ended.stop ≡ old.stop
  pub served : IsConsoleServed F gives parts ended new
  pub is_over : new.is_over ≡ ended.is_over
