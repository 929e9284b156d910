-- A line that waits for the hub to send: the hub may answer with a block at once, and needs no byte for it.
use Rattle.std.specs.Prelude.{◌≡◌, Bool, true, List}
use Rattle.njh_bisync.specs.Reading.{Nothing}
use Rattle.njh_line.specs.declared.Phase.TheVariants.{Up}
use Rattle.njh_table.specs.declared.LineId.{LineId}
use Rattle.njh_customer.specs.Part.{rest_on}
use Rattle.njh_customer.specs.Having.{has_next}
use Rattle.njh_hub.specs.Views.{hub_line}
use Rattle.njh_hub.specs.WholeHub.{Part, part, HasLine}

-- A line rests: its session is up, the turn is the hub's, and no frame has begun to come.
pub record IsResting (parts : List Part) (id : LineId) : Type 0 where
  pub there : HasLine parts id
  pub phase : (hub_line id parts).state.session.phase ≡ Up
  pub turn : (hub_line id parts).state.session.has_turn ≡ true
  pub rest : rest_on id.number (part id.customer parts) ≡ Nothing

-- whether a line's next block would be sent, were it asked for now
abbrev pub has_next_on : LineId → List Part → Bool
has_next_on id parts =
    let c = (part id.customer parts).customer in has_next c.entry id.number c.spool (hub_line id parts)

-- A line of the hub has a block to send.
pub record HasNext (parts : List Part) (id : LineId) : Type 0 where
  pub there : HasLine parts id
  pub next : has_next_on id parts ≡ true
