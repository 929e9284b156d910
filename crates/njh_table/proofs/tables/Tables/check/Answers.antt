use Rattle.toml.specs.View.{table_view}
use Rattle.njh_table.proofs.WalkedTables.{told_of_toml}
use Rattle.njh_table.proofs.tables.Tables.check.Goals as goal

pub returns-in-Ok-clause-no_toml : goal.returns-in-Ok-clause-no_toml
returns-in-Ok-clause-no_toml c =
    told_of_toml c.walk_in.result (λ t. t) c.args.text.now (table_view c.in-Ok.document) c.in-Ok.ensures.ok
    c.walk_in.ensures
