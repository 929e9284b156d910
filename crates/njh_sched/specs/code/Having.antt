-- What a line has to send, by what is looked at of it.
use Rattle.std.specs.Prelude.{ℕ, Bool, true, false, slice_get, ◌&&◌, ◌||◌}
use Rattle.std.specs.List.{list_any}
use Rattle.std.specs.Option.{is_some}
use Rattle.njh_block.specs.Blocks.{messages_on}
use Rattle.njh_block.specs.Codes.{kind_of}
use Rattle.njh_spool.specs.CustomerSpool.{CustomerSpool, WholeFile}
use Rattle.njh_stream.specs.declared.sender.Sender.{Sender}
use Rattle.njh_stream.specs.declared.sender.Sender.TheVariants.{Aborting}
use Rattle.njh_sched.specs.NextBlock.{Outlet, may_ask, next_served, oldest, sender_at, streams}

abbrev pub is_aborting : Sender → Bool
is_aborting Aborting = true
is_aborting _ = false

-- a stream's file is to be given up
abbrev pub has_abort : Outlet → Bool
has_abort o = list_any (λ k. is_aborting (sender_at k o)) streams

-- a nodal message waits, and the peer lets it
abbrev pub has_message : Outlet → Bool
has_message o = messages_on o.peer_fcs && is_some (slice_get o.messages 0)

-- what needs no look at the files
abbrev pub has_queued : Outlet → Bool
has_queued o = is_some (slice_get o.answers 0) || (has_abort o || (has_message o || is_some (next_served o)))

-- a stream may ask for a file, and there is one
abbrev pub has_file_for : (WholeFile → Bool) → Outlet → CustomerSpool → ℕ → Bool
has_file_for goes o s k = may_ask o k && is_some (oldest goes (kind_of k) s)

abbrev pub has_request : (WholeFile → Bool) → Outlet → CustomerSpool → Bool
has_request goes o s = list_any (has_file_for goes o s) streams
