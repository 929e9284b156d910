use Rattle.std.proofs.Common.{eqb}
use Rattle.njh_request.proofs.QuoteLaws.{end-none, end-some}
use Rattle.njh_request.proofs.quote.end_of.Goals as goal

pub returns-in-Some-clause-end : goal.returns-in-Some-clause-end
returns-in-Some-clause-end c =
    end-some (λ b. eqb b 0) c.args.bytes.now c.zero_in.result c.in-Some.place c.zero_in.ensures.place c.in-Some.is

pub returns-in-None-clause-end : goal.returns-in-None-clause-end
returns-in-None-clause-end c =
    end-none (λ b. eqb b 0) c.args.bytes.now c.zero_in.result c.zero_in.ensures.place c.in-None.is
