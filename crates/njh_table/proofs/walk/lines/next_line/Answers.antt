use Rattle.std.proofs.Common.{◌≡◌, ℕ, ◌<◌, false, nat_le, sym, subst, ◌∙◌}
use Rattle.std.proofs.lemmas.Bool.{lt-leb}
use Rattle.njh_table.specs.Limits.{max_lines}
use Rattle.njh_table.specs.Walk.{next_line}
use Rattle.njh_table.proofs.Loops.{goes_on, ends, passes, stops}
use Rattle.njh_table.proofs.walk.lines.next_line.Goals as goal

room : {count taken : ℕ} → count ≡ taken → count < max_lines → nat_le max_lines taken ≡ false
room {taken = taken} same below = lt-leb max_lines taken (subst (λ n. n < max_lines) same below)

pub returns-in_err-keys-clause-walk : goal.returns-in_err-keys-clause-walk
unfolding next_line
returns-in_err-keys-clause-walk c =
    stops _ _ _ _ c.from_residual.ensures.1
    (λ _. passes _ _ _ (room c.len.ensures c.if-len-ge-MAX_LINES.false)
    ∙ ends _ _ _ (sym c.in_err-keys.ensures))

pub returns-in_err-name-clause-walk : goal.returns-in_err-name-clause-walk
unfolding next_line
returns-in_err-name-clause-walk c =
    stops _ _ _ _ c.from_residual-in_err-name.ensures.1
    (λ _. passes _ _ _ (room c.len.ensures c.if-len-ge-MAX_LINES.false)
    ∙ goes_on _ _ _ (sym c.in_ok-keys.ensures)
    ∙ ends _ _ _ (sym c.in_err-name.ensures))

pub returns-in_err-line-clause-walk : goal.returns-in_err-line-clause-walk
unfolding next_line
returns-in_err-line-clause-walk c =
    stops _ _ _ _ c.from_residual-in_err-line.ensures.1
    (λ no_memory. passes _ _ _ (room c.len.ensures c.if-len-ge-MAX_LINES.false)
    ∙ goes_on _ _ _ (sym c.in_ok-keys.ensures)
    ∙ goes_on _ _ _ (sym c.in_ok-name.ensures)
    ∙ passes _ _ _ (sym c.contains.ensures ∙ c.if-contains.false)
    ∙ c.in_err-line.ensures.walk no_memory)

pub returns-clause-walk : goal.returns-clause-walk
unfolding next_line
returns-clause-walk c =
    passes _ _ _ (room c.len.ensures c.if-len-ge-MAX_LINES.false)
    ∙ goes_on _ _ _ (sym c.in_ok-keys.ensures)
    ∙ goes_on _ _ _ (sym c.in_ok-name.ensures)
    ∙ passes _ _ _ (sym c.contains.ensures ∙ c.if-contains.false)
    ∙ c.in_ok-line.ensures.walk
