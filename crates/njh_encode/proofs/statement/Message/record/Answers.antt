use Rattle.std.proofs.Common.{rules}
use Rattle.njh_encode.proofs.FrameLaws.{nodal_back}
use Rattle.njh_encode.proofs.statement.Message.record.Goals as goal

pub returns-clause-reads : goal.returns-clause-reads
returns-clause-reads c =
    nodal_back _
    (record { to_named = search rules; origin_named = search rules; user_size = search rules; fits = search rules })
