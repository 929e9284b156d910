use Rattle.std.proofs.Common.{sym, subst, ◌∙◌}
use Rattle.std.specs.Str.{IsUtf8}
use Rattle.njh_replay.proofs.StartLaws.{found_start}
use Rattle.njh_replay.proofs.line_starts.found_start.Goals as goal

pub returns-clause-start : goal.returns-clause-start
returns-clause-start c =
    let same = c.in-Ok.ensures.cases.0 in
    let text = subst IsUtf8 (sym same) c.in-Ok.ensures.cases.1 in
    rw c.split_at-2.ensures.front
    (found_start c.args.tables.now c.args.line.now c.in_ok-rest.rest.now c.in-Ok.name.now c.in_ok-len.len
    c.in_ok-owner.owner
    c.in_ok-rest.ensures c.in_ok-len.ensures (same ∙ c.split_at.ensures.front) text c.in_ok-owner.ensures.owner
    c.in_ok-owner.ensures.found.0)
