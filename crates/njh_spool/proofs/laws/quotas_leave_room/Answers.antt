use Rattle.njh_spool.proofs.QuotaLaws.{room_within}
use Rattle.njh_spool.proofs.laws.quotas_leave_room.Goals as goal

pub returns : goal.returns
returns c = room_within
