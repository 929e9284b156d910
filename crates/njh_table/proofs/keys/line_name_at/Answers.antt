use Rattle.std.proofs.Common.{sym}
use Rattle.toml.specs.Data.{get_member}
use Rattle.toml.specs.View.{table_view}
use Rattle.njh_table.specs.Keys.{line_name_of}
use Rattle.njh_table.specs.Places.{key_name}
use Rattle.njh_table.proofs.Loops.{text_fails, leaves_seen}
use Rattle.njh_table.proofs.keys.line_name_at.Goals as goal

pub returns-in_err-name : goal.returns-in_err-name
returns-in_err-name c =
    leaves_seen _ _ _ _ c.from_residual.ensures.1
    (text_fails line_name_of c.args.part c.args.key (get_member (key_name c.args.key) (table_view c.args.keys.now)) _
    (sym c.in_err-name.ensures))
