use Rattle.njh_tcp.proofs.RunLaws.{shut-on}
use Rattle.njh_tcp.proofs.scanner.Scanner.take_some.Goals as goal

pub returns-in-Err-clause-goes_on : goal.returns-in-Err-clause-goes_on
returns-in-Err-clause-goes_on c = rw c.in-Err.is (shut-on c.in-Err.field-0 c.args.bytes.now)
