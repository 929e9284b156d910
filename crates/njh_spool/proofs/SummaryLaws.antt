-- What the slot of a whole file tells of it.
use Rattle.std.proofs.Common.{◌≡◌, ℕ, zero, suc, ◌≤◌, true, false, Bool, cond, eqb, List, [], ◌∷◌, map}
use Rattle.std.proofs.Common.{count_by, Some, refl, sym, ap, ◌∙◌, arith, eq-eqb}
use Rattle.std.specs.Prelude.{slice_get, IsSomeAnd}
use Rattle.std.specs.Option.{option_map}
use Rattle.std.proofs.lemmas.List.Sums.{sum_by-cons}
use Rattle.njh_spool.specs.declared.file_slot.FileSlot.{FileSlot}
use Rattle.njh_spool.specs.declared.file_headers.FileHeaders.{FileHeaders}
use Rattle.njh_spool.specs.declared.file_headers.FileSummary.{FileSummary}
use Rattle.njh_spool.specs.declared.file_headers.KeptHeaders.{KeptHeaders}
use Rattle.njh_spool.specs.CustomerSpool.{CustomerSpool}
use Rattle.njh_spool.specs.Spools.{spool_at}
use Rattle.njh_spool.specs.Headers.{headers_of, summary}
use Rattle.njh_spool.specs.code.Slots.{Content, is_whole_stage, state_of, whole_file}
use Rattle.njh_spool.proofs.Calls.{Call, own_at, files_at, slot_at, chain_of_file, spools_in, has}
use Rattle.njh_spool.proofs.PackingLaws.{length-unpacked}

abbrev summary_with : ℕ → FileSlot → ℕ → FileHeaders → FileSummary
summary_with n slot records headers =
    record { id = n; kind = slot.kind; state = state_of slot.stage; records = records; headers = headers }

abbrev pub slot_summary : ℕ → FileSlot → FileSummary
slot_summary n slot =
    summary_with n slot slot.count slot.headers.said

-- a file of a list of numbers is counted there
listed : (files : ℕ → Content) (numbers : List ℕ) (i n : ℕ) → IsSomeAnd (slice_get (map (whole_file files) numbers) i)
    (λ f. n ≡ f.number) → (1 ≤ count_by (λ m. eqb m n) numbers)
    × (slice_get (map (whole_file files) numbers) i ≡ Some (whole_file files n))
listed files [] i n at = absurd (search at)
listed files (m ∷ numbers) zero n at =
    let same : n ≡ m = search at in
    let one : ◌≡◌ {A = ℕ} (cond (eqb m n) 1 0) 1 = rw (eq-eqb m n (sym same)) refl in (
      omega (arith, one, sum_by-cons (λ k. cond {A = ℕ} (eqb k n) 1 0) m numbers),
      ap (λ (k : ℕ). Some (whole_file files k)) (sym same),
    )
listed files (m ∷ numbers) (suc i) n at =
    let rest = listed files numbers i n at in
    (omega (arith, rest.0, sum_by-cons (λ k. cond {A = ℕ} (eqb k n) 1 0) m numbers), rest.1)

stage_of_one : (b : Bool) (count : ℕ) → count ≡ cond b 1 0 → 1 ≤ count → b ≡ true
stage_of_one true count is some = refl
stage_of_one false count is some = absurd (omega arith)

-- a whole file's summary is what its slot tells
pub summary_numbered : (here : Call) → is_whole_stage (slot_at here).stage ≡ true →
    summary (whole_file (files_at here) here.number) ≡ slot_summary here.number (slot_at here)
summary_numbered here whole =
    let n = here.number in
    let slot = slot_at here in
    ap (λ (k : ℕ). summary_with n slot k (headers_of slot.kind (files_at here n).records))
    (length-unpacked slot.count (chain_of_file here).bytes)
    ∙ ap (λ (h : KeptHeaders). summary_with n slot slot.count h.said) (sym (here.kept.headers here.customer n whole))

pub summary_is : (here : Call) (i : ℕ) →
    IsSomeAnd (slice_get (spool_at here.customer (spools_in here.spool)).whole i) (λ f. here.number ≡ f.number) →
    option_map summary (slice_get (spool_at here.customer (spools_in here.spool)).whole i) ≡ Some
    (slot_summary here.number (slot_at here))
summary_is here i at =
    let own = has here in
    let there = listed (files_at here) (own_at here).whole i here.number (rw own.part at at) in
    let whole =
    stage_of_one (is_whole_stage (slot_at here).stage) (count_by (λ m. eqb m here.number) (own_at here).whole)
    (own.own.whole_once here.number) there.0 in
    ap (λ (s : CustomerSpool). option_map summary (slice_get s.whole i)) own.part ∙ ap (option_map summary) there.1
    ∙ ap Some (summary_numbered here whole)
