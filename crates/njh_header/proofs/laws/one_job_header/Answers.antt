use Rattle.njh_header.specs.Headers.{job_fields}
use Rattle.njh_header.proofs.HeadersLaw.{header_law, fault_law}
use Rattle.njh_header.proofs.laws.one_job_header.Goals as goal

pub returns-clause-header : goal.returns-clause-header
returns-clause-header c = header_law 96 64 job_fields

pub returns-clause-fault : goal.returns-clause-fault
returns-clause-fault c = fault_law 96 64 job_fields
