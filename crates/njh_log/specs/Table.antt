-- Places that have a number, and the spells of each.
use Rattle.std.specs.Prelude.{List, Option}
use Rattle.njh_log.specs.declared.heading.Place.{Place}
use Rattle.njh_log.specs.declared.spells.Spell.{Spell}

-- which place has each number; and the spells of the place 0, by kind, then those of the place 1, and so on
pub record SpellTable : Type 0 where
  pub places : List (Option Place)
  pub spells : List Spell
