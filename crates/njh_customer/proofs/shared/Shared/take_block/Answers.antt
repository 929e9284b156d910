-- The line table's verdict, the records, and what follows them.
use Rattle.{std.proofs.Common.{◌≡◌, Some, None, sym, ◌∙◌, rules}, njh_line.specs.LineTable.Block}
use Rattle.{njh_line.specs.Openings.shown_first, njh_customer.{proofs.ReadyLaws.left_by_block, specs.Alone.block_input}}
use Rattle.njh_customer.proofs.shared.Shared.take_block.Goals as goal

pub returns-in-Some : goal.returns-in-Some
returns-in-Some c =
    let accepted = c.accept-verdict in
    let acted = c.act_where in
    let input : Block c.bcb.result c.fcs.result (shown_first c.first_general.result) ≡ block_input c.args.read = search
    rules in
    left_by_block (Some c.in-Some.end) c.args.id c.args.self.now accepted.new.self acted.new.self _ c.args.lines.now
    accepted.new.lines acted.new.lines _ _ c.args.read _ accepted.result c.requires.ready input
    accepted.ensures.verdict accepted.ensures.after (sym c.in-Some.is ∙ acted.ensures.end_is) acted.ensures.after
    (record { after = c.end_session.ensures; frame = c.clear.ensures })

pub returns-in-None : goal.returns-in-None
returns-in-None c =
    let accepted = c.accept-verdict in
    let acted = c.act_where in
    let input : Block c.bcb.result c.fcs.result (shown_first c.first_general.result) ≡ block_input c.args.read = search
    rules in
    left_by_block None c.args.id c.args.self.now accepted.new.self acted.new.self _ c.args.lines.now
    accepted.new.lines acted.new.lines _ _ c.args.read _ accepted.result c.requires.ready input
    accepted.ensures.verdict accepted.ensures.after (sym c.in-None.is ∙ acted.ensures.end_is)
    acted.ensures.after c.carry_out.ensures
