-- How long a line is up, and what is done only where it is.
use Rattle.std.specs.Prelude.{◌≡◌, Bool, true, false}
use Rattle.njh_line.specs.declared.config.Config.{Config}
use Rattle.njh_line.specs.declared.session.Session.{Session}
use Rattle.njh_line.specs.declared.verdict.LineReply.{LineReply}
use Rattle.njh_line.specs.declared.verdict.LineReply.TheVariants.{Next}
use Rattle.njh_line.specs.Laws.{is_up}
use Rattle.njh_line.specs.LineTable.{Input, table_outcome}

-- whether the next block goes
abbrev pub is_next : LineReply → Bool
is_next (Next or_ack0) = true
is_next _ = false

-- An input that ends a session leaves a line that isn't up, and any other leaves one up that was. Records act, and the
-- next block goes, only where the line is up afterwards.
pub record KeepsUp (line : Config) (input : Input) (s : Session) : Type 0 where
  pub over : (table_outcome line input s).verdict.ended ≡ true
      → is_up (table_outcome line input s).session.phase ≡ false
  pub on : (table_outcome line input s).verdict.ended ≡ false → is_up s.phase ≡ true
      → is_up (table_outcome line input s).session.phase ≡ true
  pub acts : (table_outcome line input s).verdict.acts ≡ true
      → is_up (table_outcome line input s).session.phase ≡ true
  pub next : is_next (table_outcome line input s).verdict.reply ≡ true
      → is_up (table_outcome line input s).session.phase ≡ true

abbrev pub InputsKeepUp : Type 0
InputsKeepUp = (line : Config) (s : Session) (input : Input) → KeepsUp line input s
