-- How many lines of a kind and place are written, and what is counted instead.
use Rattle.std.specs.Prelude.{ℕ, ◌+◌, ◌-◌, ◌*◌, Bool, true, ◌&&◌, ◌==◌, nat_lt, nat_le, min}
use Rattle.std.specs.Prelude.{if◌then◌else◌, count_by, Option, Some, None, position, get_or, slice_set}
use Rattle.std.specs.Option.{option_map_or}
use Rattle.njh_log.specs.Kinds.{kind_number}
use Rattle.njh_log.specs.Places.{same_place, customer_place}
use Rattle.njh_log.specs.declared.heading.Place.{Place}
use Rattle.njh_log.specs.declared.heading.Place.TheVariants.{Hub, Customer, Line}
use Rattle.njh_log.specs.declared.event_kind.EventKind.{EventKind}
use Rattle.njh_log.specs.declared.spells.Limit.{Limit}
use Rattle.njh_log.specs.declared.spells.Spell.{Spell}
use Rattle.njh_log.specs.Table.{SpellTable}

-- ---- one spell

-- A spell begins with its first event, and lasts as long as its limit says; and beyond, until what was counted in it is
-- told.
abbrev pub begun : Limit → Spell → (now : ℕ) → Spell
begun limit spell now = if spell.more == 0 && nat_le spell.over now
    then record { over = min (now + limit.milliseconds) 18446744073709551615; room = limit.lines; more = 0 }
    else spell

-- an event is written while its spell has room
abbrev pub is_written : Limit → Spell → (now : ℕ) → Bool
is_written limit spell now = nat_lt 0 (begun limit spell now).room

-- then there is room for one less; else one more is counted
abbrev pub with_event : Spell → Spell
with_event spell = if nat_lt 0 spell.room
    then record spell { room = spell.room - 1 }
    else record spell { more = min (spell.more + 1) 18446744073709551615 }

abbrev pub after_event : Limit → Spell → (now : ℕ) → Spell
after_event limit spell now = with_event (begun limit spell now)

-- what was counted is told once the spell is over
abbrev pub is_due : Spell → (now : ℕ) → Bool
is_due spell now = nat_lt 0 spell.more && nat_le spell.over now

abbrev pub after_telling : Spell → (now : ℕ) → Spell
after_telling spell now = if is_due spell now then record spell { more = 0 } else spell

-- ---- the spells of all places

-- Of each kind and place ten lines are written in ten seconds; but of a customer's files a thousand in a second, by the
-- customer's own spell, and none further by that of a line.
abbrev pub limit_of : Place → EventKind → Limit
limit_of place kind = if kind_number kind == 9 then file_limit place else record { lines = 10; milliseconds = 10000 }
  where
    file_limit : Place → Limit
    file_limit Hub = record { lines = 1000; milliseconds = 1000 }
    file_limit (Customer customer) = record { lines = 1000; milliseconds = 1000 }
    file_limit (Line customer line) = record { lines = 0; milliseconds = 1000 }

-- no event came
abbrev pub no_spell : Spell
no_spell = record { over = 0; room = 0; more = 0 }

-- a place is that which is known so, or isn't known yet
abbrev pub is_for : Place → Option Place → Bool
is_for place None = true
is_for place (Some other) = same_place other place

-- the number of a place: its own, or the first that no place has
abbrev pub number_of : Place → SpellTable → Option ℕ
number_of place spells = position (is_for place) spells.places

-- where the spell of a kind is at the place of a number
abbrev pub index_of : (number : ℕ) → EventKind → ℕ
index_of number kind = number * 16 + kind_number kind

abbrev pub spell_at : (index : ℕ) → SpellTable → Spell
spell_at index spells = get_or spells.spells index no_spell

-- an event is written while the spell of its kind and place has room; and where the table has no place for it
abbrev pub writes : Place → EventKind → (now : ℕ) → SpellTable → Bool
writes place kind now spells = option_map_or
    (λ number. is_written (limit_of place kind) (spell_at (index_of number kind) spells) now) (number_of place spells)
    true

-- this spell is as after an event
abbrev pub spell_noted : Place → EventKind → (now : ℕ) → SpellTable → (number : ℕ) → SpellTable
spell_noted place kind now spells number = record {
  places = slice_set spells.places number (Some place);
  spells = slice_set spells.spells (index_of number kind)
      (after_event (limit_of place kind) (spell_at (index_of number kind) spells) now);
}

-- an event of a kind at a place is put to its spell
abbrev pub noted_at : Place → EventKind → (now : ℕ) → SpellTable → SpellTable
noted_at place kind now spells = option_map_or (spell_noted place kind now spells) (number_of place spells) spells

-- whose spell says whether an event is written: the place's own, and for a file the customer's
abbrev pub keeper_of : Place → EventKind → Place
keeper_of place kind = if kind_number kind == 9 then customer_place place else place

-- an event of this kind at this place is written now
abbrev pub has_room : Place → EventKind → (now : ℕ) → SpellTable → Bool
has_room place kind now spells = writes (keeper_of place kind) kind now spells

-- and is put to the spell that has room for it, or else counted at its own place
abbrev pub after_kind : Place → EventKind → (now : ℕ) → SpellTable → SpellTable
after_kind place kind now spells = if has_room place kind now spells
    then noted_at (keeper_of place kind) kind now spells else noted_at place kind now spells

-- ---- what was counted

abbrev pub due_in : (now : ℕ) → SpellTable → ℕ
due_in now spells = count_by (λ spell. is_due spell now) spells.spells
