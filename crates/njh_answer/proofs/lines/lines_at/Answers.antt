use Rattle.std.proofs.Common.{◌∙◌, ap, get_or, List}
use Rattle.njh_table.specs.TableFile.{NamedCustomer}
use Rattle.njh_answer.proofs.TableBounds.{few_lines_at}
use Rattle.njh_answer.proofs.lines.lines_at.Goals as goal

pub returns-clause-few : goal.returns-clause-few
returns-clause-few c =
    let named = c.index-customers-place.result in
    let is = c.index-customers-place.is
    ∙ ap (λ (xs : List NamedCustomer). get_or xs c.args.place named) c.customers-customers.ensures.all in
    let accepted = c.customers-customers.ensures.accepted in
    rw c.lines.ensures (few_lines_at c.args.tables.now c.args.place named accepted c.requires is)
