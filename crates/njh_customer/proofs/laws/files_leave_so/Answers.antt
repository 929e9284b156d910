use Rattle.njh_customer.proofs.RecordsChange.{leaves_so, leaves_so_between}
use Rattle.njh_customer.proofs.laws.files_leave_so.Goals as goal

pub returns-clause-one : goal.returns-clause-one
returns-clause-one c = leaves_so

pub returns-clause-between : goal.returns-clause-between
returns-clause-between c = leaves_so_between
