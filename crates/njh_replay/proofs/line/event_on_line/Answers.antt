use Rattle.std.proofs.Common.{sym, ◌∙◌, rules}
use Rattle.njh_table.specs.TableFile.{line_named}
use Rattle.njh_replay.proofs.LineForms.{event_on_line-two, event_on_line-three}
use Rattle.njh_replay.proofs.line.event_on_line.Goals as goal

pub returns-in-None-clause-event : goal.returns-in-None-clause-event
returns-in-None-clause-event c =
    let same = event_on_line-two (line_named c.args.tables.now) c.args.word.now c.args.rest.now c.in-None.ensures.cases
    in
    search (rules, same)

pub returns-in-None-line_owner-clause-event : goal.returns-in-None-line_owner-clause-event
returns-in-None-line_owner-clause-event c =
    let known = sym c.in-None-line_owner.is ∙ c.line_owner-in-Some.ensures.owner in
    sym (event_on_line-three (line_named c.args.tables.now) c.args.word.now c.args.rest.now c.in-Some.name
    c.in-Some.digits _
    c.in-Some.ensures.cases known)

pub returns-in-Some-line_owner-clause-event : goal.returns-in-Some-line_owner-clause-event
returns-in-Some-line_owner-clause-event c =
    let known = sym c.in-Some-line_owner.is ∙ c.line_owner-in-Some.ensures.owner in
    let same = event_on_line-three (line_named c.args.tables.now) c.args.word.now c.args.rest.now c.in-Some.name
    c.in-Some.digits _
    c.in-Some.ensures.cases known in
    rw same c.bytes_on.ensures.event
