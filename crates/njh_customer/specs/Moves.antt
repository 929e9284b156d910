-- What may happen to a customer's whole files and to its streams from the hub, one small thing at a time. All that
-- comes on a line, new routes and orders lead from what they were to what they are by such moves and no others.
use Rattle.std.specs.Prelude.{◌≡◌, ℕ, ◌+◌, ◌<◌, Bool, true, List, [], length, map, filter, find, replicate, Some}
use Rattle.std.specs.Prelude.{None, Ok, fold, cond, not}
use Rattle.std.specs.List.{Contains}
use Rattle.njh_ebcdic.specs.Users.{User}
use Rattle.njh_header.specs.FileNames.{FileName}
use Rattle.njh_block.specs.Blocks.{Item, Data, Control, stream_of}
use Rattle.njh_block.specs.Codes.{kind_of}
use Rattle.njh_nmr.specs.Nodal.{Nodal, nodal_of, is_user_command, sender_of}
use Rattle.njh_record.specs.Stored.{Stored}
use Rattle.njh_spool.specs.CustomerSpool.{WholeFile}
use Rattle.njh_spool.specs.declared.State.TheVariants as state
use Rattle.njh_table.specs.Marks.{entry_marked}
use Rattle.njh_table.specs.Entries.{CustomerEntry, route_of}
use Rattle.njh_table.specs.NewRoutes.{NewRoute, routes_checked, entries_of_routes}
use Rattle.njh_table.specs.declared.Route.TheVariants.{Here, Line}
use Rattle.njh_stream.specs.declared.sender.Sender.{Sender}
use Rattle.njh_stream.specs.declared.sender.Sender.TheVariants.{Idle, Requested, Sending, EofSent, Aborting}
use Rattle.njh_stream.specs.Holding.{has_lost_route, held_file}
use Rattle.njh_stream.specs.Sending.{file_in, goes_by, ready}
use Rattle.njh_stream.specs.Transmissions.{is_whole}
use Rattle.njh_sched.specs.NextBlock.{may_go}
use Rattle.njh_command.specs.declared.command.Command.{Command}
use Rattle.njh_command.specs.declared.command.Command.TheVariants.{Hold, Release, Cancel, Reroute}
use Rattle.njh_command.specs.Words.{command_of}
use Rattle.njh_command.specs.Commands.{changed_file, is_of_name, is_busy, with_new_destination, file_in_state}
use Rattle.njh_command.specs.Commands.{without_file}
use Rattle.njh_customer.specs.NewRoutes.{entry_with}
use Rattle.njh_customer.specs.declared.given_order.GivenOrder.{GivenOrder}
use Rattle.njh_customer.specs.declared.given_order.GivenOrder.TheVariants as orders
use Rattle.njh_customer.specs.OutgoingFiles.{Outgoing, each_stream, with_file_state, record_numbered, sender_on}
use Rattle.njh_customer.specs.OutgoingFiles.{streams_of, with_arrival, with_files, with_sender_on, with_streams}
use Rattle.njh_customer.specs.OutgoingFiles.{without_numbered}

-- ---- by a record that comes

-- A record is A0, B0 or C0 to stream k of its line, which has so many of each kind.
pub record Tells (answer streams k : ℕ) (i : Item) : Type 0 where
  pub srcb : ℕ
  pub is_control : i ≡ Control answer srcb
  pub names : stream_of streams srcb ≡ Some k

-- A record is a nodal message in which a user, by node and name, commands the hub.
pub record Commands (entry : CustomerEntry) (who : User) (command : Command) (i : Item) : Type 0 where
  pub srcb : ℕ
  pub bytes : List ℕ
  pub is_message : i ≡ Data 0x9a srcb bytes
  pub nodal : Nodal
  pub reads : nodal_of bytes ≡ Ok nodal
  pub to_hub : route_of entry nodal.to ≡ Here
  pub is_command : is_user_command nodal ≡ true
  pub sender : who ≡ sender_of nodal
  pub says : command_of nodal.message ≡ Some command

-- The numbers of the files that pass a test and are being sent.
abbrev pub busy_numbers : (WholeFile → Bool) → List WholeFile → List ℕ
busy_numbers p files = map (λ f. f.number) (filter (is_busy p) files)

-- the streams that were about one of some files have none
abbrev pub without_files : List ℕ → Outgoing → Outgoing
without_files numbers x = fold (λ y n. each_stream (without_file n) y) x numbers

-- the files that pass a test are gone
abbrev pub without_cancelled : (WholeFile → Bool) → Outgoing → Outgoing
without_cancelled p x = without_files (busy_numbers p x.files) (with_files (filter (λ f. not (p f)) x.files) x)

-- those that pass a test and aren't being sent are changed
abbrev pub with_changed : (WholeFile → Bool) → (WholeFile → WholeFile) → Outgoing → Outgoing
with_changed p change x = with_files (map (changed_file p change) x.files) x

-- What a command of a user moves: the user's own files of its name.
pub data CommandMoves (entry : CustomerEntry) (who : User) (command : Command) (x y : Outgoing) : Type 0 where
  holds :
      (name : FileName) → command ≡ Hold name
      → y ≡ with_changed (is_of_name who name) (file_in_state state.Held) x → CommandMoves entry who command x y
  releases :
      (name : FileName) → command ≡ Release name
      → y ≡ with_changed (is_of_name who name) (file_in_state state.Ready) x → CommandMoves entry who command x y
  reroutes :
      (name : FileName) (node : List ℕ) (line : ℕ) → command ≡ Reroute name node → route_of entry node ≡ Line line
      → y ≡ with_changed (is_of_name who name) (with_new_destination node) x → CommandMoves entry who command x y
  cancels :
      (name : FileName) → command ≡ Cancel name → y ≡ without_cancelled (is_of_name who name) x
      → CommandMoves entry who command x y

pub data Acts (entry : CustomerEntry) (l : ℕ) (i : Item) (x y : Outgoing) : Type 0 where
  -- an end of file: a file has come whole, is the last one, and counts; no other move counts one
  comes :
      (rcb srcb : ℕ) (f : WholeFile) → i ≡ Data rcb srcb [] → f.state ≡ state.Ready → is_whole f.records ≡ true
      → y ≡ with_arrival f x → Acts entry l i x y
  -- A0 to a stream that asked: it sends the file, from its first record on
  permitted :
      (streams k n : ℕ) → Tells 0xa0 streams k i → sender_on l k x ≡ Requested n
      → y ≡ with_sender_on l k (Sending n 0) x
      → Acts entry l i x y
  -- B0: the file is refused, and the stream has none
  refused :
      (streams k n : ℕ) (after : Sender) → Tells 0xb0 streams k i → file_in (sender_on l k x) ≡ Some n
      → file_in after ≡ None
      → y ≡ with_sender_on l k after (with_files (with_file_state n state.Refused x.files) x) → Acts entry l i x y
  -- C0 to a stream that sent its end of file: the peer has the file, and it is gone
  completed :
      (streams k n : ℕ) → Tells 0xc0 streams k i → sender_on l k x ≡ EofSent n
      → y ≡ with_sender_on l k Idle (with_files (without_numbered n x.files) x) → Acts entry l i x y
  -- a command of the files' owner
  commands :
      (who : User) (command : Command) → Commands entry who command i → CommandMoves entry who command x y
      → Acts entry l i x y

-- ---- by a record that goes out in a new block

pub data Sends (entry : CustomerEntry) (l : ℕ) (x y : Outgoing) : Type 0 where
  -- an abort: the stream's file was given up
  gives_up : (k : ℕ) → sender_on l k x ≡ Aborting → y ≡ with_sender_on l k Idle x → Sends entry l x y
  -- a request: an idle one of the eight streams asks for the oldest file that may go
  asks :
      (k : ℕ) (f : WholeFile) → k < 8 → sender_on l k x ≡ Idle
      → find (may_go (goes_by entry l) (kind_of k)) x.files ≡ Some f
      → y ≡ with_sender_on l k (Requested f.number) (with_files (with_file_state f.number state.Sending x.files) x)
      → Sends entry l x y
  -- the file's record at the stream's place
  goes_on :
      (k n place : ℕ) (r : Stored) → sender_on l k x ≡ Sending n place → record_numbered n place x ≡ Some r
      → y ≡ with_sender_on l k (Sending n (place + 1)) x → Sends entry l x y
  -- the end of file, if there is no record at the stream's place
  ends :
      (k n place : ℕ) → sender_on l k x ≡ Sending n place → record_numbered n place x ≡ None
      → y ≡ with_sender_on l k (EofSent n) x
      → Sends entry l x y

-- ---- by the end of the line's session

-- Its streams are idle, no file changes but in its state, and none has come.
pub record Over (l : ℕ) (x y : Outgoing) : Type 0 where
  pub streams : y.streams ≡ (with_streams l (replicate (length (streams_of l x)) Idle) x).streams
  pub files : map ready y.files ≡ map ready x.files
  pub arrived : y.arrived ≡ x.arrived

-- ---- all

-- one of these records acts
abbrev pub OneActs : CustomerEntry → ℕ → List Item → Outgoing → Outgoing → Type 0
OneActs entry l items x y = (i : Item) × Contains items i × Acts entry l i x y

-- A move on a line on which these records come.
pub data Moves (entry : CustomerEntry) (l : ℕ) (items : List Item) (x y : Outgoing) : Type 0 where
  by_record : OneActs entry l items x y → Moves entry l items x y
  by_sending : Sends entry l x y → Moves entry l items x y
  by_end : Over l x y → Moves entry l items x y

-- ---- by new routes

-- The files that are Ready or Refused and whose node has no route are Held. Each other file stays what it was, and each
-- stream.
abbrev pub routeless_held : CustomerEntry → Outgoing → Outgoing
routeless_held entry x = with_files (map (λ f. cond (has_lost_route entry f) (held_file f) f) x.files) x

-- Routes without a fault are the customer's from then on.
pub record RoutesMove (entry : CustomerEntry) (routes : List NewRoute) (x y : Outgoing) : Type 0 where
  pub faultless : routes_checked entry routes ≡ Ok tt
  pub holds : y ≡ routeless_held (entry_with (entries_of_routes routes) entry) x

-- ---- by an order

-- An order is a command in the name of a user.
pub record OrdersCommand (who : User) (command : Command) (order : GivenOrder) : Type 0 where
  pub text : List ℕ
  pub is_command : order ≡ orders.Command who text
  pub says : command_of text ≡ Some command

pub record OrderMoves (entry : CustomerEntry) (order : GivenOrder) (x y : Outgoing) : Type 0 where
  pub who : User
  pub command : Command
  pub given : OrdersCommand who command order
  pub moves : CommandMoves entry who command x y

-- ---- what comes

-- What comes to a customer: records on a line, new routes, or an order.
pub data Coming : Type 0 where
  Records : (line : ℕ) (items : List Item) → Coming
  Routes : (routes : List NewRoute) → Coming
  Order : (order : GivenOrder) → Coming

-- A move by what comes. It is judged by the marks of its moment: the line on which records come counts as up or not,
-- and every other line as in the entry.
abbrev pub MovesBy : CustomerEntry → Coming → Outgoing → Outgoing → Type 0
MovesBy entry (Records l items) x y = (up : Bool) × Moves (entry_marked l up entry) l items x y
MovesBy entry (Routes routes) x y = RoutesMove entry routes x y
MovesBy entry (Order order) x y = OrderMoves entry order x y

-- Moves of a kind lead from one to the other.
pub data LeadsByMoves (Move : Outgoing → Outgoing → Type 0) : Outgoing → Outgoing → Type 0 where
  nowhere : (x : Outgoing) → LeadsByMoves Move x x
  onward : (x y z : Outgoing) → Move x y → LeadsByMoves Move y z → LeadsByMoves Move x z
