-- A file that is redirected record by record is the file with another destination.
use Rattle.std.proofs.Common.{◌≡◌, ℕ, Bool, true, false, List, [], ◌∷◌, Option, Some, None, Result, Ok, Err, ◌&&◌, not}
use Rattle.std.proofs.Common.{cond, refl, ◌∙◌, ap}
use Rattle.std.specs.Option.{option_map}
use Rattle.std.specs.Result.{result_ok}
use Rattle.njh_record.specs.declared.Kind.{Kind}
use Rattle.njh_record.specs.declared.Kind.TheVariants.{In, Out}
use Rattle.njh_record.specs.Stored.{Stored, has_srcb}
use Rattle.njh_header.specs.declared.fault.HeaderFault.{HeaderFault}
use Rattle.njh_header.specs.Headers.{JobHeader, job_header, DataSetHeader, data_set_header}
use Rattle.njh_header.specs.FileHeaders.{with_node_at, with_data_set_node, with_data_set_nodes, with_destination}
use Rattle.njh_header.specs.Redirecting.{is_after_header, redirected_record, records_to_node}

-- a job's file keeps its records after the first
pub kept : (node : List ℕ) (before : ℕ) (records : List Stored)
    → records_to_node In node (Some before) records ≡ records
kept node before [] = refl
kept node before (r ∷ rs) = ap (λ (more : List Stored). r ∷ more) (kept node r.srcb rs)

job_record : (node : List ℕ) (r : Stored) (rs more : List Stored) (header : Result JobHeader HeaderFault) → more ≡ rs
    → redirected_record node (option_map (λ h. h.place) (result_ok header)) r ∷ more
    ≡ elim header as (λ _. List Stored) [ Ok h ↦ with_node_at h.place node r ∷ rs | Err e ↦ r ∷ rs ]
job_record node r rs more (Ok h) same = ap (λ (m : List Stored). with_node_at h.place node r ∷ m) same
job_record node r rs more (Err e) same = ap (λ (m : List Stored). r ∷ m) same

data_set_record : (node : List ℕ) (r : Stored) (header : Result DataSetHeader HeaderFault)
    → redirected_record node (option_map (λ h. h.place) (result_ok header)) r
    ≡ elim header as (λ _. Stored) [ Ok h ↦ with_node_at h.place node r | Err e ↦ r ]
data_set_record node r (Ok h) = refl
data_set_record node r (Err e) = refl

where_tested : (node : List ℕ) (r : Stored) (test : Bool)
    → redirected_record node (cond test (option_map (λ h. h.place) (result_ok (data_set_header r.bytes))) None) r
    ≡ cond test (with_data_set_node node r) r
where_tested node r true = data_set_record node r (data_set_header r.bytes)
where_tested node r false = refl

data_sets : (node : List ℕ) (before : Option ℕ) (records : List Stored)
    → records_to_node Out node before records ≡ with_data_set_nodes node (is_after_header before) records
data_sets node before [] = refl
data_sets node before (r ∷ rs) =
    ap (λ (x : Stored). x ∷ records_to_node Out node (Some r.srcb) rs)
    (where_tested node r (has_srcb 0xe0 r && not (is_after_header before)))
    ∙ ap (λ (more : List Stored). cond (has_srcb 0xe0 r && not (is_after_header before)) (with_data_set_node node r)
    r ∷ more)
    (data_sets node (Some r.srcb) rs)

pub redirected_is : (kind : Kind) (node : List ℕ) (records : List Stored)
    → records_to_node kind node None records ≡ with_destination kind node records
redirected_is In node [] = refl
redirected_is In node (r ∷ rs) = job_record node r rs (records_to_node In node (Some r.srcb) rs) (job_header r.bytes)
    (kept node r.srcb rs)
redirected_is Out node records = data_sets node None records
