-- What is told of the nodal messages that wait on a line: for whom each is, and since when it waits.
use Rattle.std.specs.Prelude.{ℕ, List, length, map, codes, Option, Some, None, Result, Ok, Err, slice_get}
use Rattle.std.specs.List.{range_with_len}
use Rattle.serde_json.specs.Data.{Data, null, string, array, object, member, no_members}
use Rattle.serde_json.specs.View.{items_of}
use Rattle.njh_customer.specs.Customer.{CustomerLine}
use Rattle.njh_nmr.specs.Nodal.{Nodal, nodal_of}
use Rattle.njh_nmr.specs.declared.fault.NmrFault.{NmrFault}
use Rattle.njh_answer.specs.Fields.{field_text, name_text}
use Rattle.njh_answer.specs.Troubles.{moment_data}
use Rattle.njh_answer.specs.declared.views.LineView.{LineView}

-- {"node":"METZ","since":1790650000,"user":"PAUL"}
abbrev pub message_data : Nodal → Option ℕ → Data
message_data message since = object (
    member (codes "node") (string (name_text message.to))
    (member (codes "since") (moment_data since)
    (member (codes "user") (string (field_text message.user)) no_members)))

abbrev pub message_read : Result Nodal NmrFault → Option ℕ → Data
message_read (Ok message) since = message_data message since
message_read (Err fault) since = null

abbrev pub message_where : Option (List ℕ) → Option ℕ → Data
message_where (Some bytes) since = message_read (nodal_of bytes) since
message_where None since = null

-- since when the one at a place waits, as far as the service saw it
abbrev pub since_of : List (Option ℕ) → ℕ → Option ℕ
since_of moments index = elim (slice_get moments index) [ None ↦ None | Some since ↦ since ]

abbrev pub since_at : Option LineView → ℕ → Option ℕ
since_at None index = None
since_at (Some view) index = since_of view.messages_since.items index

abbrev pub queue_entry : List (List ℕ) → Option LineView → ℕ → Data
queue_entry messages served index = message_where (slice_get messages index) (since_at served index)

-- those that wait on a line of the hub, the one that waits longest first
abbrev pub queue_where : Option LineView → Option CustomerLine → Data
queue_where served None = null
queue_where served (Some line) =
    array (items_of (map (queue_entry line.state.messages served) (range_with_len 0 (length line.state.messages))))
