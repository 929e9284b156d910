-- Why a record ends a session that is up (IBM SC23-0070, multileaving).
use Rattle.std.specs.Prelude.{ℕ, Option, Some, None, ◌==◌, ◌||◌, cond}
use Rattle.njh_block.specs.Blocks.{Item, Control, General, control_byte}
use Rattle.njh_block.specs.declared.rcb.ControlRcb.TheVariants.{SequenceError}
use Rattle.njh_line.specs.declared.ending.SessionEnd.{SessionEnd}
use Rattle.njh_line.specs.declared.ending.SessionEnd.TheVariants as ends

-- the sign-off B; the sign-ons I, J and K
abbrev pub general_end : (srcb : ℕ) → Option SessionEnd
general_end srcb =
    cond (srcb == 0xc2) (Some ends.SignOff)
    (cond ((srcb == 0xc9) || ((srcb == 0xd1) || (srcb == 0xd2))) (Some ends.SignOn) None)

-- the end that a record makes, if it makes one
abbrev pub record_end : Item → Option SessionEnd
record_end (Control rcb srcb) = cond (rcb == control_byte SequenceError) (Some ends.SequenceError) None
record_end (General srcb rest) = general_end srcb
record_end _ = None
