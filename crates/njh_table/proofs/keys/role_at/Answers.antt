use Rattle.std.proofs.Common.{sym}
use Rattle.toml.specs.Data.{get_member}
use Rattle.toml.specs.View.{table_view}
use Rattle.njh_table.specs.Keys.{role_of}
use Rattle.njh_table.specs.Places.{key_name}
use Rattle.njh_table.proofs.Loops.{text_fails, leaves}
use Rattle.njh_table.proofs.keys.role_at.Goals as goal

pub returns-in_err-text_at : goal.returns-in_err-text_at
returns-in_err-text_at c =
    leaves _ _ _ c.from_residual.ensures.1
    (text_fails role_of c.args.part c.args.key (get_member (key_name c.args.key) (table_view c.args.keys.now)) _
    (sym c.in_err-text_at.ensures))
