use Rattle.std.proofs.Common.{sym}
use Rattle.toml.specs.Data.{get_member}
use Rattle.toml.specs.View.{table_view}
use Rattle.std.specs.Result.{result_ok}
use Rattle.njh_ebcdic.specs.Reading.{name_of_text}
use Rattle.njh_table.specs.Places.{key_name}
use Rattle.njh_table.proofs.Loops.{text_fails, leaves}
use Rattle.njh_table.proofs.keys.name_at.Goals as goal

pub returns-in_err-text : goal.returns-in_err-text
returns-in_err-text c =
    leaves _ _ _ c.from_residual.ensures.1
    (text_fails (λ text. result_ok (name_of_text text)) c.args.part c.args.key
    (get_member (key_name c.args.key) (table_view c.args.keys.now)) _
    (sym c.in_err-text.ensures))
