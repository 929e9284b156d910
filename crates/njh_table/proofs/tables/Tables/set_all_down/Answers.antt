-- The tables without marks are accepted.
use Rattle.std.proofs.Common.{sym, ap, subst, ◌∙◌}
use Rattle.njh_table.specs.Accepted.{IsAccepted}
use Rattle.njh_table.specs.TableFile.{TableFile, owners_from}
use Rattle.njh_table.proofs.MarkLaws.{unmarked_accepted, unmarked_owners}
use Rattle.njh_table.proofs.tables.Tables.set_all_down.Goals as goal

pub invariant_of-self : goal.invariant_of-self
invariant_of-self c =
    let t : TableFile = record { capacity = c.self.inside.capacity; customers = c.self.inside.customers.items } in (
      subst (λ customers. IsAccepted (record t { customers = customers })) (sym c.take_marks.ensures)
          (unmarked_accepted t c.self.invariant.0),
      c.self.invariant.1 ∙ sym (ap (owners_from 0) c.take_marks.ensures ∙ unmarked_owners t),
    )
