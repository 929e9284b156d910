-- The tables with a mark more or less are accepted.
use Rattle.std.proofs.Common.{sym, ap, subst, ◌∙◌}
use Rattle.njh_table.specs.Accepted.{IsAccepted}
use Rattle.njh_table.specs.TableFile.{TableFile, owners_from, HasLine}
use Rattle.njh_table.proofs.MarkLaws.{marked_accepted, marked_owners}
use Rattle.njh_table.proofs.tables.Tables.set_up.Goals as goal

pub invariant_of-self : goal.invariant_of-self
invariant_of-self c =
    let t : TableFile = record { capacity = c.self.inside.capacity; customers = c.self.inside.customers.items } in
    let has : HasLine t c.args.id = subst (λ t. HasLine t c.args.id) (sym c.self.view_is) c.requires in (
      subst (λ customers. IsAccepted (record t { customers = customers })) (sym c.mark_line.ensures)
          (marked_accepted t c.args.id c.args.up has c.self.invariant.0),
      c.self.invariant.1 ∙ sym (ap (owners_from 0) c.mark_line.ensures ∙ marked_owners t c.args.id c.args.up),
    )
