-- What a line disregards: a text that is spoiled or is no block, and a block whose check failed.
use Rattle.std.specs.Prelude.{◌≡◌, ◌≢◌, ℕ, ◌<◌, true, false, List, length, Err}
use Rattle.njh_bisync.specs.Frames.{Text, Spoiled}
use Rattle.njh_block.specs.Blocks.{read_block}
use Rattle.njh_block.specs.declared.fault.BlockFault.{BlockFault}
use Rattle.njh_line.specs.Lines.{with_session}
use Rattle.njh_line.specs.Sessions.{in_session}
use Rattle.njh_line.specs.declared.ending.SessionEnd.TheVariants.{Tries}
use Rattle.njh_line.specs.declared.session.Session.{Session}
use Rattle.njh_customer.specs.declared.signal.Signal.TheVariants.{Garbled}
use Rattle.njh_customer.specs.Customer.{Customer, line_at, on_line, in_state}
use Rattle.njh_customer.specs.Alone.{CustomerStep, silent, session_ended, after_frame, after_signal}

abbrev pub session_on : ℕ → Customer → Session
session_on l c = (line_at l c.lines).state.session

-- The customer is what it was but for the session of a line: its files, whole and partial, all streams of all its
-- lines, and all that waits on them.
pub record IsButSession (l : ℕ) (c d : Customer) : Type 0 where
  pub session : Session
  pub after : d ≡ record c { lines = on_line l (in_state (with_session session)) c.lines }

-- What is disregarded does nothing if no session is on, and in a session it moves nothing else; but if five tries
-- were made, the session ends by them.
pub record IsDisregarded (l : ℕ) (c : Customer) (s : CustomerStep) : Type 0 where
  pub down : in_session (session_on l c).phase ≡ false → s ≡ silent c
  pub goes_on : (session_on l c).tries ≢ 5 → IsButSession l c s.after
  pub over : l < length c.lines → in_session (session_on l c).phase ≡ true → (session_on l c).tries ≡ 5
      → s ≡ silent (session_ended Tries l c)

abbrev pub SpoiledIsDisregarded : Type 0
SpoiledIsDisregarded = (l : ℕ) (c : Customer) → IsDisregarded l c (after_frame l Spoiled c)

abbrev pub BadBlocksAreDisregarded : Type 0
BadBlocksAreDisregarded =
    (l : ℕ) (text : List ℕ) (fault : BlockFault) (c : Customer) → read_block text ≡ Err fault
    → IsDisregarded l c (after_frame l (Text text) c)

abbrev pub GarbledIsDisregarded : Type 0
GarbledIsDisregarded = (l : ℕ) (c : Customer) → IsDisregarded l c (after_signal l Garbled c)
