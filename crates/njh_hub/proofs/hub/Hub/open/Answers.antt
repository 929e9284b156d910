use Rattle.std.proofs.Common.{subst, sym}
use Rattle.njh_table.specs.Accepted.{IsAccepted}
use Rattle.njh_hub.proofs.OpenLaws.{AreOpened, hub-opened, parts-opened}
use Rattle.njh_hub.proofs.hub.Hub.open.Goals.{After-new}
use Rattle.njh_hub.proofs.hub.Hub.open.Goals as goal

-- what all share is what was opened
opened : (c : After-new) → AreOpened c.args.tables c.new.result.tables c.new.result.spool c.in_ok-lines.lines.items
opened c =
    let o : AreOpened c.args.tables c.all_down-tables.result c.in_ok-spool.spool c.in_ok-lines.lines.items = record {
      down = c.all_down-tables.ensures;
      empty = c.in_ok-spool.ensures.empty;
      count = c.in_ok-lines.ensures.count;
      each = c.in_ok-lines.ensures.opened;
    } in
    subst (λ t. AreOpened c.args.tables t c.new.result.spool c.in_ok-lines.lines.items) (sym c.new.ensures.tables)
    (subst (λ s. AreOpened c.args.tables c.all_down-tables.result s c.in_ok-lines.lines.items) (sym c.new.ensures.spool)
    o)

pub invariant_of-result : goal.invariant_of-result
invariant_of-result c =
    hub-opened (opened c) (subst IsAccepted (sym c.new.ensures.tables) c.open_lines.ensures.accepted)

pub returns-clause-opened : goal.returns-clause-opened
returns-clause-opened c = parts-opened (opened c)
