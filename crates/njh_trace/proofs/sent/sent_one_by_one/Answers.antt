use Rattle.njh_trace.proofs.SentLaws.{trace_told-sent}
use Rattle.njh_trace.proofs.sent.sent_one_by_one.Goals as goal

pub returns : goal.returns
returns c = trace_told-sent
