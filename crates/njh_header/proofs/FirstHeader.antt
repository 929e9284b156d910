-- The first data set header of a file, from a record on.
use Rattle.std.proofs.Common.{◌≡◌, ◌≢◌, ℕ, ◌+◌, Bool, true, false, List, ◌∷◌, drop, slice_get, ◌==◌, cond, Option, Some}
use Rattle.std.proofs.Common.{None, ◌∙◌, ap}
use Rattle.std.specs.Result.{result_ok}
use Rattle.std.proofs.lemmas.Bool.{eq-eqb, ne_eqb}
use Rattle.std.proofs.lemmas.List.{drop_more}
use Rattle.std.proofs.lemmas.Option.{slice_get_within, get_or_from_slice_get}
use Rattle.njh_record.specs.Stored.{Stored}
use Rattle.njh_header.specs.Headers.{DataSetHeader, data_set_header}
use Rattle.njh_header.specs.FileHeaders.{data_set_header_of}

drop_at_get : (records : List Stored) (n : ℕ) (r : Stored) → slice_get records n ≡ Some r
    → drop n records ≡ r ∷ drop (n + 1) records
drop_at_get records n r at =
    drop_more records n r (slice_get_within records n r at)
    ∙ ap (λ (x : Stored). x ∷ drop (n + 1) records) (get_or_from_slice_get records n r r at)

-- what the record at the front says, by the tests of its SRCB
said : (r : Stored) → Option DataSetHeader → Bool → Bool → Option DataSetHeader
said r next job data_set = elim job [ true ↦ next | false ↦ cond data_set (result_ok (data_set_header r.bytes)) None ]

pub behind_job_header : (records : List Stored) (n : ℕ) (r : Stored) → slice_get records n ≡ Some r → r.srcb ≡ 0xc0
    → data_set_header_of (drop n records) ≡ data_set_header_of (drop (n + 1) records)
unfolding said
behind_job_header records n r at job =
    ap data_set_header_of (drop_at_get records n r at)
    ∙ ap (λ (job : Bool). said r (data_set_header_of (drop (n + 1) records)) job (r.srcb == 0xe0))
    (eq-eqb r.srcb 0xc0 job)

pub at_data_set_header : (records : List Stored) (n : ℕ) (r : Stored) → slice_get records n ≡ Some r → r.srcb ≡ 0xe0
    → data_set_header_of (drop n records) ≡ result_ok (data_set_header r.bytes)
unfolding said
at_data_set_header records n r at data_set =
    ap data_set_header_of (drop_at_get records n r at)
    ∙ ap (λ (srcb : ℕ). said r (data_set_header_of (drop (n + 1) records)) (srcb == 0xc0) (srcb == 0xe0)) data_set

pub at_other : (records : List Stored) (n : ℕ) (r : Stored) → slice_get records n ≡ Some r → r.srcb ≢ 0xc0
    → r.srcb ≢ 0xe0
    → data_set_header_of (drop n records) ≡ None
unfolding said
at_other records n r at job data_set =
    ap data_set_header_of (drop_at_get records n r at)
    ∙ ap (λ (job : Bool). said r (data_set_header_of (drop (n + 1) records)) job (r.srcb == 0xe0))
    (ne_eqb r.srcb 0xc0 job)
    ∙ ap (λ (data_set : Bool). said r (data_set_header_of (drop (n + 1) records)) false data_set)
    (ne_eqb r.srcb 0xe0 data_set)
