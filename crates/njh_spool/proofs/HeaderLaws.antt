-- What a file's headers say when a record behind them is another.
use Rattle.std.proofs.Common.{◌≡◌, ℕ, zero, suc, ◌≤◌, Bool, true, false, cond, List, [], ◌∷◌, Option, None, ◌==◌, refl}
use Rattle.std.proofs.Common.{ap, ◌∙◌, arith}
use Rattle.std.specs.Option.{option_map}
use Rattle.std.specs.Result.{result_ok}
use Rattle.njh_ebcdic.specs.Users.{User}
use Rattle.njh_record.specs.Stored.{Stored}
use Rattle.njh_record.specs.declared.Kind.{Kind}
use Rattle.njh_record.specs.declared.Kind.TheVariants.{In, Out}
use Rattle.njh_header.specs.Headers.{JobHeader, DataSetHeader, data_set_header}
use Rattle.njh_header.specs.FileHeaders.{job_header_of, data_set_header_of}
use Rattle.njh_spool.specs.declared.file_headers.KeptHeaders.{KeptHeaders}
use Rattle.njh_spool.specs.CustomerSpool.{at_index}
use Rattle.njh_spool.specs.Headers.{reach_of, header_count, kept_headers, by_headers}

job_header-behind : (k : ℕ) (f : Stored → Stored) (records : List Stored) → 1 ≤ k
    → job_header_of (at_index k f records) ≡
    job_header_of records
job_header-behind k f [] some = refl
job_header-behind zero f (r ∷ rs) some = absurd (omega arith)
job_header-behind (suc k) f (r ∷ rs) some = refl

-- the records are read up to a first at least
some_reach : (r : Stored) (rs : List Stored) → 1 ≤ reach_of (r ∷ rs)
some_reach r rs = at_test (r.srcb == 0xc0)
  where
    at_test : (b : Bool) → 1 ≤ elim b [ true ↦ suc (reach_of rs) | false ↦ 1 ]
    at_test true = omega arith
    at_test false = omega arith

data_set_header-behind : (k : ℕ) (f : Stored → Stored) (records : List Stored) → reach_of records ≤ k →
    (data_set_header_of (at_index k f records) ≡ data_set_header_of records)
    × (reach_of (at_index k f records) ≡ reach_of records)
data_set_header-behind k f [] far = (refl, refl)
data_set_header-behind zero f (r ∷ rs) far = absurd (omega (arith, far, some_reach r rs))
data_set_header-behind (suc k) f (r ∷ rs) far = at_test (r.srcb == 0xc0) far (data_set_header-behind k f rs)
  where
    other : Option DataSetHeader
    other = cond (r.srcb == 0xe0) (result_ok (data_set_header r.bytes)) None

    at_test :
        (b : Bool) → elim b [ true ↦ suc (reach_of rs) | false ↦ 1 ] ≤ suc k
        → (reach_of rs ≤ k → (data_set_header_of (at_index k f rs) ≡ data_set_header_of rs)
        × (reach_of (at_index k f rs) ≡ reach_of rs))
        → (◌≡◌ {A = Option DataSetHeader} (elim b [ true ↦ data_set_header_of (at_index k f rs) | false ↦ other ])
        (elim b [ true ↦ data_set_header_of rs | false ↦ other ]))
        × (◌≡◌ {A = ℕ} (elim b [ true ↦ suc (reach_of (at_index k f rs)) | false ↦ 1 ])
        (elim b [ true ↦ suc (reach_of rs) | false ↦ 1 ]))
    at_test true few rest = ((rest (omega arith)).0, ap suc (rest (omega arith)).1)
    at_test false few rest = (refl, refl)

-- what a slot keeps, by the headers
abbrev kept_by : Option JobHeader → Option User → ℕ → KeptHeaders
kept_by job destination count = record { said = by_headers job destination; count = count }

pub kept_headers-behind : (kind : Kind) (k : ℕ) (f : Stored → Stored) (records : List Stored)
    → header_count kind records ≤ k →
    kept_headers kind (at_index k f records) ≡ kept_headers kind records
kept_headers-behind In k f records far =
    ap (λ (job : Option JobHeader). kept_by job (option_map (λ h. h.execution) job) 1)
    (job_header-behind k f records far)
kept_headers-behind Out k f [] far = refl
kept_headers-behind Out k f (r ∷ rs) far =
    let records = r ∷ rs in
    let rest = data_set_header-behind k f records far in
    ap (λ (job : Option JobHeader). kept_by job (option_map (λ h. h.destination)
    (data_set_header_of (at_index k f records)))
    (reach_of (at_index k f records))) (job_header-behind k f records (omega (arith, far, some_reach r rs)))
    ∙ ap (λ (h : Option DataSetHeader). kept_by (job_header_of records) (option_map (λ h. h.destination) h)
    (reach_of (at_index k f records))) rest.0
    ∙ ap (kept_by (job_header_of records) (option_map (λ h. h.destination) (data_set_header_of records))) rest.1
