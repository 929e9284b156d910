-- What is said of how a customer's whole files and its streams from the hub move.
use Rattle.std.specs.Prelude.{◌≡◌, ℕ, ◌+◌, ◌<◌, ◌⊎◌, Bool, true, false, List, [], find, flat_map, length, take, Some}
use Rattle.std.specs.Prelude.{None, Ok, Err}
use Rattle.std.specs.List.{Contains}
use Rattle.njh_ebcdic.specs.Names.{is_name}
use Rattle.njh_ebcdic.specs.Users.{User}
use Rattle.njh_header.specs.FileNames.{FileName}
use Rattle.njh_bisync.specs.ByteSteps.{frames_after}
use Rattle.njh_bisync.specs.Frames.{Received}
use Rattle.njh_block.specs.Blocks.{Item, Data}
use Rattle.njh_block.specs.Codes.{kind_of}
use Rattle.njh_header.specs.Redirecting.{records_to_node}
use Rattle.njh_record.specs.Stored.{Stored}
use Rattle.njh_spool.specs.CustomerSpool.{WholeFile}
use Rattle.njh_spool.specs.declared.State.TheVariants.{Ready}
use Rattle.njh_table.specs.Marks.{entry_marked}
use Rattle.njh_table.specs.Entries.{CustomerEntry}
use Rattle.njh_table.specs.NewRoutes.{NewRoute, routes_checked, entries_of_routes}
use Rattle.njh_table.specs.declared.fault.TableFault.{TableFault}
use Rattle.njh_stream.specs.declared.sender.Sender.{Sender}
use Rattle.njh_stream.specs.declared.sender.Sender.TheVariants.{Idle, Requested, Sending, EofSent, Aborting}
use Rattle.njh_stream.specs.Holding.{has_lost_route, held_file}
use Rattle.njh_stream.specs.Sending.{after_abort, file_in, goes_by}
use Rattle.njh_stream.specs.Transmissions.{is_whole}
use Rattle.njh_sched.specs.NextBlock.{may_go}
use Rattle.njh_command.specs.declared.command.Command.TheVariants.{Cancel, Reroute}
use Rattle.njh_command.specs.Commands.{is_of_name, is_sending}
use Rattle.njh_customer.specs.declared.signal.Signal.{Signal}
use Rattle.njh_nmr.specs.Nodal.{Nodal, sender_of}
use Rattle.njh_customer.specs.Acting.{after_user_command}
use Rattle.njh_customer.specs.Customer.{Customer}
use Rattle.njh_customer.specs.Alone.{after_frame, after_signal}
use Rattle.njh_customer.specs.Part.{Part, part_after_bytes, rest_on}
use Rattle.njh_customer.specs.NewRoutes.{entry_with}
use Rattle.njh_customer.specs.Orders.{customer_after_order, has_way}
use Rattle.njh_customer.specs.declared.given_order.GivenOrder.{GivenOrder}
use Rattle.njh_customer.specs.declared.given_order.GivenOrder.TheVariants.{Command}
use Rattle.njh_customer.specs.Runs.{OwnEvent, OwnBytes, OwnSignal, OwnRoutes, OwnOrder, Run, event_run}
use Rattle.njh_customer.specs.OutgoingFiles.{Outgoing, outgoing, has_file, record_numbered, sender_on}
use Rattle.njh_customer.specs.OutgoingFiles.{with_sender_on}
use Rattle.njh_customer.specs.Moves.{Coming, Records, Routes, Order, Commands, LeadsByMoves, MovesBy, OrdersCommand}
use Rattle.njh_customer.specs.Moves.{Over, Sends, Tells}
use Rattle.njh_customer.specs.FrameEffects.{Does, records_of_frame}

-- ---- what comes

-- What each frame and each signal on a line does.
abbrev pub FramesDoSo : Type 0
FramesDoSo =
    (l : ℕ) (received : Received) (c : Customer) → Does l (records_of_frame received) c (after_frame l received c)

abbrev pub SignalsDoSo : Type 0
SignalsDoSo = (l : ℕ) (signal : Signal) (c : Customer) → Does l [] c (after_signal l signal c)

-- What new routes do. They send nothing, and leave all lines as they are, what waits on them, and the partial files.
-- Without a fault they are the customer's from then on; else nothing is changed.
pub record RoutesDo (p : Part) (routes : List NewRoute) (r : Run) : Type 0 where
  pub sent : r.sent ≡ []
  pub rests : r.after.rests ≡ p.rests
  pub lines : r.after.customer.lines ≡ p.customer.lines
  pub partial : r.after.customer.spool.partial ≡ p.customer.spool.partial
  pub faultless : routes_checked p.customer.entry routes ≡ Ok tt
      → r.after.customer.entry.routes ≡ entries_of_routes routes
  pub faulty : (fault : TableFault) → routes_checked p.customer.entry routes ≡ Err fault → r.after ≡ p

abbrev pub RoutesDoSo : Type 0
RoutesDoSo = (p : Part) (routes : List NewRoute) → RoutesDo p routes (event_run p (OwnRoutes routes))

-- What an order does. It sends nothing, and leaves the customer's entry, its partial files, as many lines, and of each
-- what has come of its next frame. A message without a way changes nothing.
pub record OrderDoes (p : Part) (order : GivenOrder) (r : Run) : Type 0 where
  pub sent : r.sent ≡ []
  pub rests : r.after.rests ≡ p.rests
  pub entry : r.after.customer.entry ≡ p.customer.entry
  pub lines : length r.after.customer.lines ≡ length p.customer.lines
  pub partial : r.after.customer.spool.partial ≡ p.customer.spool.partial
  pub without_way : has_way p.customer.entry order ≡ false → r.after ≡ p

abbrev pub OrdersDoSo : Type 0
OrdersDoSo = (p : Part) (order : GivenOrder) → OrderDoes p order (event_run p (OwnOrder order))

-- The same command, by an order and on a line: it leaves the same files, whole and partial, and the same streams from
-- the hub.
pub record DoesAsCommand (by_order by_line : Customer) : Type 0 where
  pub spool : by_order.spool ≡ by_line.spool
  pub outgoing_is : outgoing by_order ≡ outgoing by_line

abbrev pub OrdersDoAsCommands : Type 0
OrdersDoAsCommands =
    (n : Nodal) (c : Customer)
    → DoesAsCommand (customer_after_order (Command (sender_of n) n.message) c) (after_user_command n c)

-- what comes by an event: the records of the frames that its bytes make whole, new routes, or an order
abbrev pub coming : Part → OwnEvent → Coming
coming p (OwnBytes l piece) = Records l (flat_map records_of_frame (frames_after (rest_on l p) piece))
coming p (OwnSignal signal l) = Records l []
coming p (OwnRoutes routes) = Routes routes
coming p (OwnOrder order) = Order order

-- An event moves files and streams only so.
abbrev pub EventsMoveSo : Type 0
EventsMoveSo =
    (p : Part) (event : OwnEvent)
    → LeadsByMoves (MovesBy p.customer.entry (coming p event)) (outgoing p.customer)
    (outgoing (event_run p event).after.customer)

-- So does a step by bytes of a line, by the records of the bytes that it takes.
abbrev pub TakesMoveSo : Type 0
TakesMoveSo =
    (p : Part) (l : ℕ) (piece : List ℕ) → l < length p.rests → let t = part_after_bytes p l piece in
    LeadsByMoves (MovesBy p.customer.entry (coming p (OwnBytes l (take t.taken piece)))) (outgoing p.customer)
    (outgoing t.after.customer)

-- ---- how a file leaves

-- A file of number n leaves by the command CANCEL of its owner by its name, or by C0 to the stream that sent its end of
-- file.
pub data Leaves (entry : CustomerEntry) (l : ℕ) (items : List Item) (n : ℕ) (x : Outgoing) : Type 0 where
  cancelled :
      (i : Item) (who : User) (name : FileName) (f : WholeFile) → Contains items i
      → Commands entry who (Cancel name) i
      → Contains x.files f → f.number ≡ n → is_of_name who name f ≡ true → Leaves entry l items n x
  completed :
      (i : Item) (streams k : ℕ) → Contains items i → Tells 0xc0 streams k i → sender_on l k x ≡ EofSent n
      → Leaves entry l items n x

-- By an order one leaves by the command CANCEL in the name of its owner, by its name.
pub record LeavesByOrder (order : GivenOrder) (n : ℕ) (x : Outgoing) : Type 0 where
  pub who : User
  pub name : FileName
  pub file : WholeFile
  pub given : OrdersCommand who (Cancel name) order
  pub there : Contains x.files file
  pub number : file.number ≡ n
  pub of_name : is_of_name who name file ≡ true

-- by new routes none leaves
abbrev pub LeavesBy : CustomerEntry → Coming → ℕ → Outgoing → Type 0
LeavesBy entry (Records l items) n x = (up : Bool) × Leaves (entry_marked l up entry) l items n x
LeavesBy entry (Routes routes) n x = ⊥
LeavesBy entry (Order order) n x = LeavesByOrder order n x

abbrev pub FilesLeaveSo : Type 0
FilesLeaveSo =
    (entry : CustomerEntry) (came : Coming) (x y : Outgoing) (n : ℕ) → MovesBy entry came x y → has_file n x ≡ true
    → has_file n y ≡ false
    → LeavesBy entry came n x

-- and so in all that moves lead to, at some moment between
abbrev pub FilesLeaveSoBetween : Type 0
FilesLeaveSoBetween =
    (entry : CustomerEntry) (came : Coming) (x y : Outgoing) (n : ℕ) → LeadsByMoves (MovesBy entry came) x y
    → has_file n x ≡ true
    → has_file n y ≡ false
    → (z : Outgoing) × LeadsByMoves (MovesBy entry came) x z × LeavesBy entry came n z
    × LeadsByMoves (MovesBy entry came) z y

-- ---- how a stream moves

-- Stream k of line j is this from then on, and no other stream moves.
abbrev pub IsMovedAlone : (j k : ℕ) → Sender → Outgoing → Outgoing → Type 0
IsMovedAlone j k s x y = (sender_on j k y ≡ s) × (y.streams ≡ (with_sender_on j k s x).streams)

-- What a move on line l does to stream k of line j: it stays, or it moves for one of these causes. But for the end of
-- line l's session and for CANCEL, it is a stream of line l, and moves alone.
pub data StreamMoves (entry : CustomerEntry) (l : ℕ) (items : List Item) (j k : ℕ) (x y : Outgoing) : Type 0 where
  stays : sender_on j k y ≡ sender_on j k x → StreamMoves entry l items j k x y
  -- an idle one asks for the oldest file that may go
  asks :
      (f : WholeFile) → j ≡ l → Sends entry l x y → sender_on j k x ≡ Idle
      → find (may_go (goes_by entry l) (kind_of k)) x.files ≡ Some f → IsMovedAlone j k (Requested f.number) x y
      → StreamMoves entry l items j k x y
  -- A0 to one that asked: its place is 0
  permitted :
      (i : Item) (streams n : ℕ) → j ≡ l → Contains items i → Tells 0xa0 streams k i → sender_on j k x ≡ Requested n
      → IsMovedAlone j k (Sending n 0) x y → StreamMoves entry l items j k x y
  -- the record at its place goes out, and the next is after it
  goes_on :
      (n place : ℕ) (r : Stored) → j ≡ l → Sends entry l x y → sender_on j k x ≡ Sending n place
      → record_numbered n place x ≡ Some r → IsMovedAlone j k (Sending n (place + 1)) x y
      → StreamMoves entry l items j k x y
  -- there is none at its place: the end of file goes out
  ends :
      (n place : ℕ) → j ≡ l → Sends entry l x y → sender_on j k x ≡ Sending n place → record_numbered n place x ≡ None
      → IsMovedAlone j k (EofSent n) x y → StreamMoves entry l items j k x y
  -- B0 to one that is about a file: it is about none then
  refused :
      (i : Item) (streams n : ℕ) (after : Sender) → j ≡ l → Contains items i → Tells 0xb0 streams k i
      → file_in (sender_on j k x) ≡ Some n → file_in after ≡ None → IsMovedAlone j k after x y
      → StreamMoves entry l items j k x y
  -- C0 to one that sent its end of file
  completed :
      (i : Item) (streams n : ℕ) → j ≡ l → Contains items i → Tells 0xc0 streams k i → sender_on j k x ≡ EofSent n
      → IsMovedAlone j k Idle x y → StreamMoves entry l items j k x y
  -- the abort of one whose file was given up goes out
  gives_up : j ≡ l → Sends entry l x y → sender_on j k x ≡ Aborting → IsMovedAlone j k Idle x y
      → StreamMoves entry l items j k x y
  -- CANCEL of the owner of its file by the file's name: it gives the file up
  cancelled :
      (i : Item) (who : User) (name : FileName) (f : WholeFile) → Contains items i → Commands entry who (Cancel name) i
      → Contains x.files f → is_of_name who name f ≡ true → file_in (sender_on j k x) ≡ Some f.number
      → sender_on j k y ≡ after_abort (sender_on j k x) → StreamMoves entry l items j k x y
  -- the session of its line ends
  over : j ≡ l → Over l x y → sender_on j k y ≡ Idle → StreamMoves entry l items j k x y

-- What an order does to stream k of line j: it stays, or CANCEL in the name of the owner of its file, by the file's
-- name, makes it give the file up.
pub data OrderMovesStream (order : GivenOrder) (j k : ℕ) (x y : Outgoing) : Type 0 where
  remains : sender_on j k y ≡ sender_on j k x → OrderMovesStream order j k x y
  cancels_file :
      (who : User) (name : FileName) (f : WholeFile) → OrdersCommand who (Cancel name) order
      → Contains x.files f → is_of_name who name f ≡ true → file_in (sender_on j k x) ≡ Some f.number
      → sender_on j k y ≡ after_abort (sender_on j k x) → OrderMovesStream order j k x y

-- by new routes none moves
abbrev pub StreamMovesBy : CustomerEntry → Coming → ℕ → ℕ → Outgoing → Outgoing → Type 0
StreamMovesBy entry (Records l items) j k x y = (up : Bool) × StreamMoves (entry_marked l up entry) l items j k x y
StreamMovesBy entry (Routes routes) j k x y = sender_on j k y ≡ sender_on j k x
StreamMovesBy entry (Order order) j k x y = OrderMovesStream order j k x y

abbrev pub StreamsMoveSo : Type 0
StreamsMoveSo =
    (entry : CustomerEntry) (came : Coming) (x y : Outgoing) (j k : ℕ) → MovesBy entry came x y
    → StreamMovesBy entry came j k x y

-- A stream takes a file only when it is idle.
abbrev pub IdleStreamsTakeFiles : Type 0
IdleStreamsTakeFiles =
    (entry : CustomerEntry) (came : Coming) (x y : Outgoing) (j k n : ℕ) → MovesBy entry came x y
    → file_in (sender_on j k y) ≡ Some n → (file_in (sender_on j k x) ≡ Some n) ⊎ (sender_on j k x ≡ Idle)

-- ---- what becomes of a file's records

-- A whole file after a move is one that was there, with its records; or it has just come; or it is one that was there
-- and wasn't being sent, and a command REROUTE of its owner by its name gave it another destination: each of its
-- records is what it was, or has the eight bytes of the node in the place of the destination's.
pub data FileMoves (entry : CustomerEntry) (items : List Item) (x : Outgoing) (g : WholeFile) : Type 0 where
  stays :
      (f : WholeFile) → Contains x.files f → g.number ≡ f.number → g.kind ≡ f.kind → g.records ≡ f.records
      → FileMoves entry items x g
  comes :
      (i : Item) (rcb srcb : ℕ) → Contains items i → i ≡ Data rcb srcb [] → is_whole g.records ≡ true → g.state ≡ Ready
      → FileMoves entry items x g
  rerouted :
      (i : Item) (who : User) (name : FileName) (node : List ℕ) (f : WholeFile) → Contains items i
      → Commands entry who (Reroute name node) i → Contains x.files f → is_of_name who name f ≡ true
      → is_sending f.state ≡ false
      → g.number ≡ f.number → g.kind ≡ f.kind → is_name node ≡ true
      → g.records ≡ records_to_node f.kind node None f.records
      → FileMoves entry items x g

-- By new routes a file is what it was; or it was Ready or Refused, its node has no route now, and it is Held.
pub data RoutesMoveFile (entry : CustomerEntry) (x : Outgoing) (g : WholeFile) : Type 0 where
  is_as_before : Contains x.files g → has_lost_route entry g ≡ false → RoutesMoveFile entry x g
  is_held : (f : WholeFile) → Contains x.files f → has_lost_route entry f ≡ true → g ≡ held_file f
      → RoutesMoveFile entry x g

-- By an order a file is one that was there, with its records; or it was there and wasn't being sent, and REROUTE in the
-- name of its owner, by its name, gave it another destination.
pub data OrderMovesFile (order : GivenOrder) (x : Outgoing) (g : WholeFile) : Type 0 where
  keeps_records :
      (f : WholeFile) → Contains x.files f → g.number ≡ f.number → g.kind ≡ f.kind → g.records ≡ f.records
      → OrderMovesFile order x g
  is_rerouted :
      (who : User) (name : FileName) (node : List ℕ) (f : WholeFile) → OrdersCommand who (Reroute name node) order
      → Contains x.files f → is_of_name who name f ≡ true → is_sending f.state ≡ false
      → g.number ≡ f.number → g.kind ≡ f.kind → is_name node ≡ true
      → g.records ≡ records_to_node f.kind node None f.records → OrderMovesFile order x g

abbrev pub FileMovesBy : CustomerEntry → Coming → Outgoing → WholeFile → Type 0
FileMovesBy entry (Records l items) x g = (up : Bool) × FileMoves (entry_marked l up entry) items x g
FileMovesBy entry (Routes routes) x g = RoutesMoveFile (entry_with (entries_of_routes routes) entry) x g
FileMovesBy entry (Order order) x g = OrderMovesFile order x g

abbrev pub RecordsChangeSo : Type 0
RecordsChangeSo =
    (entry : CustomerEntry) (came : Coming) (x y : Outgoing) (g : WholeFile) → MovesBy entry came x y
    → Contains y.files g
    → FileMovesBy entry came x g
