use Rattle.std.proofs.Common.{lit<}
use Rattle.njh_request.proofs.Parting.{parts-first, parts-whole}
use Rattle.njh_request.proofs.parts.first_part.Goals as goal

pub returns-in-Some : goal.returns-in-Some
returns-in-Some c =
    (parts-first 47 c.args.path.now c.in-Some.part c.in-Some.behind (lit< tt) c.in-Some.ensures.cases).0

pub returns-in-None : goal.returns-in-None
returns-in-None c = parts-whole 47 c.args.path.now (lit< tt) c.in-None.ensures.cases
