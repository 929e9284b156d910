-- How many records a statement drops.
use Rattle.std.proofs.Common.{◌≡◌, ℕ, pos, nat_le, nat_lt, ◌&&◌, [], ◌∷◌, None, Ok, length, refl, ap, subst, ◌∙◌}
use Rattle.std.proofs.Common.{unwrap_or}
use Rattle.std.proofs.lemmas.List.{length-map}
use Rattle.sqlite.specs.declared.types.Value.TheVariants.{Int, Null}
use Rattle.sqlite.specs.Program.{overlay}
use Rattle.sqlite.specs.Command.TheVariants.{Delete}
use Rattle.sqlite.specs.Does.{Tally, Does}
use Rattle.sqlite.specs.Rows.{Written}
use Rattle.sqlite.specs.Listing.{understood}
use Rattle.sqlite.specs.Effect.{Database}
use Rattle.sqlite.specs.State.{State, mode_of, Executes}
use Rattle.sqlite.proofs.Callers.{statement_of, runs_as}
use Rattle.sqlite_rules.specs.Calls.{ids_of}
use Rattle.sqlite_rules.specs.Edit.{row_at}
use Rattle.njh_spoolfile.specs.Kept.{SpoolContents, Holds, record_number, record_row, records_between}
use Rattle.njh_spoolfile.specs.Tables.{spool_schema}
use Rattle.njh_spoolfile.proofs.Meaning.{delete_records, delete_records_is, delete_records_plain, is_between}
use Rattle.njh_spoolfile.proofs.Meaning.{rowids_where}
use Rattle.njh_spoolfile.proofs.Runs.{is_between_is, same_value, went}
use Rattle.njh_spoolfile.proofs.Deleting.{deleted_count}

-- as many are counted as are dropped
pub drops_count : (old new : State) (key first end count : ℕ) → old.now.schema ≡ spool_schema
    → Executes delete_records (Int (pos (record_number key first)) ∷ Int (pos (record_number key end)) ∷ []) old new
    (Ok count) → (spool : SpoolContents) → Holds spool old.now.trees
    → count ≡ length (records_between key first end spool)
drops_count old new key first end count has h spool held =
    let low = record_number key first in
    let high = record_number key end in
    let params = Int (pos low) ∷ Int (pos high) ∷ [] in
    let db = old.now.trees in
    let command = Delete 2 (record { lets = []; body = rowids_where 2 is_between }) in
    let w = runs_as delete_records params old new spool_schema has command delete_records_is delete_records_plain count
    h in
    let text = statement_of delete_records (understood spool_schema delete_records) in
    let done = went (subst (λ s. Does old.step_limit (mode_of old) params (record old.now { schema = s }) text None
    command (Ok (w.tally, new.now))) has w.changed) in
    let tally = ap (λ (p : Tally × Database). p.0) (same_value (went (went done.2).2).2) in
    let given = went done.1 in
    let written = went given.2 in
    w.counted ∙ ap (λ (t : Tally). unwrap_or t.rows 0) tally
    ∙ ap (λ (it : Written). length it.rows) (same_value written.2)
    ∙ length-map (ids_of given.0) (row_at (db 2))
    ∙ deleted_count record_row (λ e. refl) 2 is_between params (λ n. nat_le low n && nat_lt n high)
    (is_between_is low high) (overlay db []) spool.records given.0 held.records refl (given.1.answer Null)
