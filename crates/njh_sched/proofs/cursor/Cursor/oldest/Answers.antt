use Rattle.std.proofs.Common.{◌≡◌, ◌<◌, ◌≤◌, ◌+◌, ℕ, Bool, true, false, length, sym, ap, subst, ◌∙◌, arith}
use Rattle.njh_spool.specs.Spools.{spool_at}
use Rattle.njh_table.specs.declared.LineId.{LineId}
use Rattle.njh_sched.specs.code.FileCursor.{FileCursor, GoesOn, index_of, is_known_to_go, cursor_at}
use Rattle.njh_sched.proofs.CursorLaws.{again, found_at, goes_to, known_is, moved_again, none_at_end, passes_on}
use Rattle.njh_sched.proofs.cursor.Cursor.oldest.Goals as goal
use Rattle.njh_sched.proofs.cursor.Cursor.oldest.Goals.{After-may_go}

-- what is known of the file at the index
known_there : (c : After-may_go) → is_known_to_go c.loop-kind.self c.args.kind c.summary_at-file.result
    ≡ c.may_go.result
known_there c =
    sym (known_is c.args.kind c.first_likely-index.result.0 c.first_likely-index.result.1 c.loop-kind.self
    c.summary_at-file.result)
    ∙ ap (λ (x : FileCursor). is_known_to_go x c.args.kind c.summary_at-file.result) (sym c.set.ensures)
    ∙ sym c.may_go.ensures.may

pub returns-then-index-files-clause-oldest : goal.returns-then-index-files-clause-oldest
returns-then-index-files-clause-oldest c =
    none_at_end c.args.self.now c.loop-kind.self c.loop-kind.invariant.line c.args.kind c.id-customer.result.customer
    c.first_likely-index.result.0 c.args.spool.now (ap (λ (i : LineId). i.customer) c.id-customer.ensures)
    c.first_likely-index.ensures.index c.files-files.result c.files-files.ensures c.if-index-files.true

pub returns-then-may_go-clause-oldest : goal.returns-then-may_go-clause-oldest
returns-then-may_go-clause-oldest c =
    found_at c.args.self.now c.loop-kind.self c.loop-kind.invariant.line c.args.kind c.id-customer.result.customer
    c.first_likely-index.result.0 c.args.spool.now (ap (λ (i : LineId). i.customer) c.id-customer.ensures)
    c.first_likely-index.ensures.index c.summary_at-file.result c.summary_at-file.ensures
    (known_there (goal.at.returns-then-may_go-clause-oldest c).After-may_go ∙ c.if-may_go.true)

pub returns-then-may_go-clause-cursor : goal.returns-then-may_go-clause-cursor
returns-then-may_go-clause-cursor c =
    subst (λ (x : FileCursor). GoesOn c.args.self.now x c.args.spool.now)
    (sym (c.may_go.ensures.cursor ∙ c.set.ensures))
    (again c.args.self.now c.loop-kind.self c.loop-kind.invariant.line
    (cursor_at c.args.kind c.first_likely-index.result.0 c.first_likely-index.result.1 c.loop-kind.self)
    c.args.spool.now
    (goes_to c.loop-kind.self c.args.kind c.first_likely-index.result.0 c.first_likely-index.result.1 c.args.spool.now
    c.loop-kind.invariant.over.range c.first_likely-index.ensures.index c.first_likely-index.ensures.others))

pub loop-kind-preserved : goal.loop-kind-preserved
loop-kind-preserved c =
    let within : c.first_likely-index.result.0 < length (spool_at c.id-customer.result.customer c.args.spool.now).whole
    = omega (arith, c.files-files.ensures) in
    subst (λ (x : FileCursor). GoesOn c.args.self.now x c.args.spool.now)
    (sym (c.set-in-loop-kind.ensures
    ∙ ap (cursor_at c.args.kind (c.first_likely-index.result.0 + 1) c.first_likely-index.result.1)
    (c.may_go.ensures.cursor ∙ c.set.ensures)
    ∙ moved_again c.args.kind (c.first_likely-index.result.0 + 1) c.first_likely-index.result.1
    c.first_likely-index.result.0
    c.first_likely-index.result.1 c.loop-kind.self))
    (passes_on c.args.self.now c.loop-kind.self c.loop-kind.invariant.line c.args.kind c.id-customer.result.customer
    c.first_likely-index.result.0 c.args.spool.now (ap (λ (i : LineId). i.customer) c.id-customer.ensures)
    c.first_likely-index.ensures.index c.summary_at-file.result c.summary_at-file.ensures c.first_likely-index.result.1
    c.loop-kind.invariant.over within c.first_likely-index.ensures.others
    (known_there (goal.at.loop-kind-preserved c).After-may_go ∙ c.if-may_go.false))

pub returns-clause-oldest : goal.returns-clause-oldest
returns-clause-oldest c =
    let past : c.files-files.result ≤ index_of c.args.kind c.loop-kind.self = omega (arith, c.index.ensures) in
    none_at_end c.args.self.now c.loop-kind.self c.loop-kind.invariant.line c.args.kind c.id-customer.result.customer
    (index_of c.args.kind c.loop-kind.self) c.args.spool.now (ap (λ (i : LineId). i.customer) c.id-customer.ensures)
    (c.loop-kind.invariant.over.passed c.args.kind) c.files-files.result c.files-files.ensures past
