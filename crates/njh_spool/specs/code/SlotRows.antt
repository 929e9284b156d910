-- How the slots of all files lie in memory: in a row for each customer, whose last slots may not be written yet.
use Rattle.std.specs.Prelude.{◌≡◌, ℕ, ◌-◌, List, ◌++◌, length, replicate}
use Rattle.std.specs.List.{flat_map}
use Rattle.njh_table.specs.Limits.{max_files}
use Rattle.njh_spool.specs.declared.file_slot.FileSlot.{FileSlot}
use Rattle.njh_spool.specs.code.Slots.{free_slot}

-- the slots of a row with room for so many: those that are written, and behind them free ones
abbrev pub row_of : List FileSlot → ℕ → List FileSlot
row_of written room = written ++ replicate (room - length written) free_slot

-- the slots of all rows
abbrev pub slots_in : List (List FileSlot) → List FileSlot
slots_in rows = flat_map (λ row. row) rows

-- a row has a slot for each file that a customer may have
abbrev pub IsWholeRow : List FileSlot → Type 0
IsWholeRow row = length row ≡ max_files
