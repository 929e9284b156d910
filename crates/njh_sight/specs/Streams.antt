-- Whether files are on a line's streams.
use Rattle.std.specs.Prelude.{Bool, true, false, not, ◌&&◌, List}
use Rattle.std.specs.List.{list_any}
use Rattle.njh_stream.specs.declared.receiver.Receiver.{Receiver}
use Rattle.njh_stream.specs.declared.receiver.Receiver.TheVariants as receiver
use Rattle.njh_stream.specs.declared.sender.Sender.{Sender}
use Rattle.njh_stream.specs.declared.sender.Sender.TheVariants as sender
use Rattle.njh_table.specs.declared.LineId.{LineId}
use Rattle.njh_hub.specs.Views.{hub_line}
use Rattle.njh_hub.specs.WholeHub.{Part}

-- a stream is about a file, or what is left of one
abbrev pub is_coming : Receiver → Bool
is_coming receiver.Idle = false
is_coming (receiver.Open file progress) = true
is_coming receiver.Draining = true

abbrev pub is_going : Sender → Bool
is_going sender.Idle = false
is_going (sender.Requested file) = true
is_going (sender.Sending file next) = true
is_going (sender.EofSent file) = true
is_going sender.Aborting = true

-- no file is on a line's streams
abbrev pub is_free : LineId → List Part → Bool
is_free id parts = not (list_any is_coming (hub_line id parts).receivers)
    && not (list_any is_going (hub_line id parts).senders)
