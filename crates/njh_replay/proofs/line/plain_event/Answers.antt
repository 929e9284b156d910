use Rattle.std.proofs.Common.{List, ℕ, sym, ap, ◌∙◌, ◌++◌}
use Rattle.njh_replay.proofs.PlainLines.{plain_line}
use Rattle.njh_replay.proofs.line.plain_event.Goals as goal

pub returns-in-Some-clause-event : goal.returns-in-Some-clause-event
returns-in-Some-clause-event c =
    let start = c.args.start in
    let read = sym c.in_ok-piece.ensures ∙ c.in-Some.is in
    let whole = c.requires.begins ∙ ap (λ (d : List ℕ). start.front.now ++ d) (sym c.split_at.ensures.back) in
    rw whole (plain_line c.args.tables.now start.front.now c.split_at.result.1.now start.line c.in-Some.piece
    c.requires.start read)
