use Rattle.njh_header.specs.Headers.{job_fields}
use Rattle.njh_header.proofs.HeadersLaw.{header_law, fault_law}
use Rattle.njh_header.proofs.job_header.JobHeader.read.Goals as goal

pub returns-clause-read : goal.returns-clause-read
returns-clause-read c = rw c.of_sections.ensures.header (header_law 96 64 job_fields c.args.bytes.now)

pub returns-clause-fault : goal.returns-clause-fault
returns-clause-fault c = rw c.of_sections.ensures.header (fault_law 96 64 job_fields c.args.bytes.now)
