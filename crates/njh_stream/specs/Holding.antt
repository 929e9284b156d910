-- A customer's files that wait to be sent, where their node has no route any more.
use Rattle.std.specs.Prelude.{ℕ, Bool, true, false, ◌&&◌, ◌||◌, not, cond, List, map, Option, Some, None}
use Rattle.njh_ebcdic.specs.Users.{User}
use Rattle.njh_ebcdic.specs.Names.{is_name}
use Rattle.njh_header.specs.FileHeaders.{destination_of}
use Rattle.njh_spool.specs.CustomerSpool.{CustomerSpool, WholeFile, whole_numbered, with_state}
use Rattle.njh_spool.specs.declared.State.{State}
use Rattle.njh_spool.specs.declared.State.TheVariants.{Ready, Held, Refused, Sending}
use Rattle.njh_table.specs.Entries.{CustomerEntry, route_of}
use Rattle.njh_table.specs.declared.Route.{Route}
use Rattle.njh_table.specs.declared.Route.TheVariants.{Here, Line, Unknown}
use Rattle.njh_stream.specs.Sending.{holds_of}

abbrev pub is_unknown : Route → Bool
is_unknown Here = false
is_unknown (Line n) = false
is_unknown Unknown = true

-- whether a node has no route; what is no name has none
abbrev pub node_unrouted : CustomerEntry → List ℕ → Bool
node_unrouted entry node = not (is_name node) || is_unknown (route_of entry node)

abbrev pub destination_unrouted : CustomerEntry → Option User → Bool
destination_unrouted entry None = false
destination_unrouted entry (Some d) = node_unrouted entry d.node

-- it may go, now or when a session has ended
abbrev pub waits_in_state : State → Bool
waits_in_state Ready = true
waits_in_state Held = false
waits_in_state Refused = true
waits_in_state Sending = false

abbrev pub has_lost_route : CustomerEntry → WholeFile → Bool
has_lost_route entry f = waits_in_state f.state && destination_unrouted entry (destination_of f.kind f.records)

abbrev pub held_file : WholeFile → WholeFile
held_file f = record f { state = Held }

-- the files that wait and whose node has no route are held, and all else stays
abbrev pub unrouted_held : CustomerEntry → CustomerSpool → CustomerSpool
unrouted_held entry s = record s { whole = map (λ f. cond (has_lost_route entry f) (held_file f) f) s.whole }

-- the whole file of a number alone
abbrev pub held_numbered : CustomerEntry → ℕ → CustomerSpool → CustomerSpool
held_numbered entry n s =
    elim (holds_of (has_lost_route entry) (whole_numbered n s)) [ true ↦ with_state n Held s | false ↦ s ]
