use Rattle.njh_tcp.proofs.ControlLaws.{control_back, control_unread}
use Rattle.njh_tcp.proofs.laws.control_record_reads_back.Goals as goal

pub returns-clause-back : goal.returns-clause-back
returns-clause-back c = control_back

pub returns-clause-unread : goal.returns-clause-unread
returns-clause-unread c = control_unread
