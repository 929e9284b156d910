-- A block while the code fills it.
use Rattle.std.specs.Prelude.{ℕ, ◌-◌, Bool, true, false, length, not}
use Rattle.njh_block.specs.Blocks.{Item, text_of}
use Rattle.njh_block.specs.Writing.{Writing, with_last}
use Rattle.njh_spool.specs.CustomerSpool.{CustomerSpool}
use Rattle.njh_sched.specs.NextBlock.{Outlet, without_message, Filling}

-- a block, an outlet and a customer's spool, where it is told whether all had room so far
abbrev pub filling_where : Bool → Writing → Outlet → CustomerSpool → Filling
filling_where more w o s = record { block = w; outlet = o; spool = s; full = not more }

-- how many bytes more a block may have
abbrev pub room_of : Writing → ℕ
room_of w = w.limit - length (text_of w.bcb w.fcs w.items)

-- a block with one record more, where it has room
abbrev pub with_last_where : Bool → Item → Writing → Writing
with_last_where true i w = with_last i w
with_last_where false i w = w

-- a message had room, and is gone, or it waits
abbrev pub message_gone_where : Bool → Outlet → Outlet
message_gone_where true o = without_message o
message_gone_where false o = o
