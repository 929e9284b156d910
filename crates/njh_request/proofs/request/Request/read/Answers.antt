use Rattle.std.proofs.Common.{option_map}
use Rattle.njh_request.proofs.ReadLaws.{reads-there}
use Rattle.njh_request.proofs.request.Request.read.Goals as goal

pub returns-clause-there : goal.returns-clause-there
returns-clause-there c =
    reads-there c.args.tables.now c.asked_where.result c.in_ok-named.named c.args.method.now
    (option_map (λ q. q.now) c.args.query) c.args.body.now c.asked_where.ensures c.in_ok-named.ensures.there
