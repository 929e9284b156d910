use Rattle.std.proofs.Common.{◌∙◌, sym}
use Rattle.njh_sched.specs.code.FileCursor.{files_of, goes_of}
use Rattle.njh_sched.proofs.CursorLaws.{stays}
use Rattle.njh_sched.proofs.HavingLaws.{file_found, not_idle}
use Rattle.njh_sched.proofs.having.has_file_for.Goals as goal

pub returns-then-not-may_ask-clause-has : goal.returns-then-not-may_ask-clause-has
returns-then-not-may_ask-clause-has g c =
    sym (not_idle (goes_of c.args.cursor.now) (g.L.Outgoing.outlet c.args.line.now)
    (files_of c.args.cursor.now c.args.spool.now) c.args.stream (sym c.may_ask.ensures ∙ c.if-not-may_ask.true))

pub returns-then-not-may_ask-clause-cursor : goal.returns-then-not-may_ask-clause-cursor
returns-then-not-may_ask-clause-cursor g c = stays c.args.cursor.now c.args.spool.now c.requires

pub returns-clause-has : goal.returns-clause-has
returns-clause-has g c =
    c.is_some.ensures
    ∙ sym (file_found (goes_of c.args.cursor.now) (g.L.Outgoing.outlet c.args.line.now)
    (files_of c.args.cursor.now c.args.spool.now) c.args.stream c.kind.result c.oldest.result
    (sym c.may_ask.ensures ∙ c.if-not-may_ask.false) c.kind.ensures c.oldest.ensures.oldest)
