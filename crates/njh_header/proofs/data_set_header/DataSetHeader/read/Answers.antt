use Rattle.njh_header.specs.Headers.{data_set_fields}
use Rattle.njh_header.proofs.HeadersLaw.{header_law, fault_law}
use Rattle.njh_header.proofs.data_set_header.DataSetHeader.read.Goals as goal

pub returns-clause-read : goal.returns-clause-read
returns-clause-read c = rw c.of_sections.ensures.header (header_law 20 4 data_set_fields c.args.bytes.now)

pub returns-clause-fault : goal.returns-clause-fault
returns-clause-fault c = rw c.of_sections.ensures.header (fault_law 20 4 data_set_fields c.args.bytes.now)
