-- One line more was told.
use Rattle.std.proofs.{Common.{set, ap, ◌∙◌, arith}, lemmas.List.Edits.map_over_more}
use Rattle.{njh_command.specs.Commands.without_file, njh_customer.specs.Acting.with_senders_by}
use Rattle.njh_customer.proofs.customer_lines.CustomerLinesSenders.abort.Goals as goal

pub loop-line-preserved : goal.loop-line-preserved
loop-line-preserved c =
    let lines = c.loop-line.self-inside.lines.items in
    ap (set lines c.loop-line.line) c.give_up.ensures
    ∙ map_over_more (with_senders_by (without_file c.args.file)) c.self.inside.lines.items lines c.loop-line.line
    c.index_mut.result.now (omega (arith, c.len-line-end.ensures)) c.loop-line.invariant c.index_mut.ensures.value
