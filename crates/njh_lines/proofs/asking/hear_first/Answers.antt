use Rattle.std.proofs.Common.{◌⊎◌, inl, inr, refl, sym, ⊎_elim}
use Rattle.njh_lines.proofs.AskingLaws.{allowed_behind, allowed_without_first, given_by_open, keeps_at}
use Rattle.njh_lines.proofs.AskingLaws.{same_if_stopped, ungiven_unless_free}
use Rattle.njh_lines.proofs.asking.hear_first.Goals as goal

-- it was answered by how the line is to it
pub returns-in-Answered-clause-stopped : goal.returns-in-Answered-clause-stopped
returns-in-Answered-clause-stopped g c = λ stopped.
    let told = c.in-Answered.ensures.answer.1 in
    same_if_stopped c.args.label.now.node c.args.label.now.hub c.vacancy_on-vacancy.result c.hear.new.self.asker.came
    c.in-Answered.verdict c.judge.result c.args.wire.now c.judge.new.wire (c.vacancy_on-vacancy.ensures.stopped stopped)
    told.0 c.judge.ensures.right c.judge.ensures.kept

pub returns-in-Answered-clause-keeps : goal.returns-in-Answered-clause-keeps
returns-in-Answered-clause-keeps g c = λ keeps.
    let told = c.in-Answered.ensures.answer.1 in
    ungiven_unless_free c.args.label.now.node c.args.label.now.hub c.vacancy_on-vacancy.result
    c.hear.new.self.asker.came c.in-Answered.verdict c.judge.result told.0 c.judge.ensures.right
    (λ free. c.vacancy_on-vacancy.ensures.free free
    (keeps_at c.args.wire.now c.args.label.now _ _ c.first_of.ensures.now keeps))

pub returns-in-Answered-clause-kept : goal.returns-in-Answered-clause-kept
returns-in-Answered-clause-kept g c = λ none.
    ⊎_elim (λ same. inl same) (λ said. inr said.1) (c.judge.ensures.kept none)

pub returns-in-Answered-clause-given : goal.returns-in-Answered-clause-given
returns-in-Answered-clause-given g c = λ given.
    let told = c.in-Answered.ensures.answer.1 in (
      c.in-Some.guest,
      (
        sym c.in-Some.ensures.guest,
        given_by_open _ _ c.args.label.now.node
            c.args.label.now.hub c.vacancy_on-vacancy.result c.in-Answered.verdict c.in-Some.guest.connection
            c.hear.new.self c.args.wire.now c.judge.new.wire (c.judge.ensures.right given) told.0 told.1
            (c.judge.ensures.given given),
      ),
    )

-- who waits came from where the line takes connections
pub returns-in-Waits-clause-allowed : goal.returns-in-Waits-clause-allowed
returns-in-Waits-clause-allowed g c =
    allowed_behind c.args.entrance.now (record c.args.entrance.now { anteroom = c.put_back.new.anteroom }) _ _ _
    (sym c.in-Some.ensures.guest) refl c.first_of.ensures.waiting refl c.put_back.ensures.waiting

pub returns-in-Gone-clause-allowed : goal.returns-in-Gone-clause-allowed
returns-in-Gone-clause-allowed g c =
    allowed_without_first c.args.entrance.now (record c.args.entrance.now { anteroom = c.first_of.new.anteroom }) _
    c.first_of.ensures.waiting refl refl

pub returns-in-Answered-clause-allowed : goal.returns-in-Answered-clause-allowed
returns-in-Answered-clause-allowed g c = allowed_without_first c.args.entrance.now c.judge.new.entrance _
    c.first_of.ensures.waiting c.judge.ensures.from c.judge.ensures.waiting
