-- Another destination for a file, record by record.
use Rattle.std.specs.Prelude.{ℕ, Bool, false, List, [], ◌∷◌, Option, Some, None, ◌==◌, cond, not, ◌&&◌}
use Rattle.std.specs.Option.{option_map}
use Rattle.std.specs.Result.{result_ok}
use Rattle.njh_record.specs.Stored.{Stored, has_srcb}
use Rattle.njh_record.specs.declared.Kind.{Kind}
use Rattle.njh_record.specs.declared.Kind.TheVariants.{In, Out}
use Rattle.njh_header.specs.Headers.{job_header, data_set_header}
use Rattle.njh_header.specs.FileHeaders.{with_node_at}

-- whether the record before is a data set header, by its SRCB
abbrev pub is_after_header : Option ℕ → Bool
is_after_header None = false
is_after_header (Some before) = before == 0xe0

-- where a record names the file's destination, by the SRCB of the record before it: a job's file in its first record,
-- an output file in each data set header that is no continuation
abbrev pub destination_place : Kind → Option ℕ → Stored → Option ℕ
destination_place In None r = option_map (λ h. h.place) (result_ok (job_header r.bytes))
destination_place In (Some before) r = None
destination_place Out before r =
    cond (has_srcb 0xe0 r && not (is_after_header before))
    (option_map (λ h. h.place) (result_ok (data_set_header r.bytes))) None

-- which node it names there
abbrev pub destination_node : Kind → Option ℕ → Stored → Option (List ℕ)
destination_node In None r = option_map (λ h. h.execution.node) (result_ok (job_header r.bytes))
destination_node In (Some before) r = None
destination_node Out before r =
    cond (has_srcb 0xe0 r && not (is_after_header before))
    (option_map (λ h. h.destination.node) (result_ok (data_set_header r.bytes))) None

abbrev pub redirected_record : List ℕ → Option ℕ → Stored → Stored
redirected_record node None r = r
redirected_record node (Some place) r = with_node_at place node r

-- the records after one with this SRCB, or all of a file's, with another destination node
abbrev pub records_to_node : Kind → List ℕ → Option ℕ → List Stored → List Stored
records_to_node kind node before [] = []
records_to_node kind node before (r ∷ rs) =
    redirected_record node (destination_place kind before r) r ∷ records_to_node kind node (Some r.srcb) rs
