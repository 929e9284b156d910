use Rattle.njh_replay.proofs.Parting.{parts-first, parts-whole}
use Rattle.njh_replay.proofs.script_routes.first_part.Goals as goal

pub returns-in-Some-clause-parts : goal.returns-in-Some-clause-parts
returns-in-Some-clause-parts c =
    (parts-first c.args.separator c.args.text.now c.in-Some.part c.in-Some.behind c.requires c.in-Some.ensures.cases).0

pub returns-in-None-clause-parts : goal.returns-in-None-clause-parts
returns-in-None-clause-parts c = parts-whole c.args.separator c.args.text.now c.requires c.in-None.ensures.cases
