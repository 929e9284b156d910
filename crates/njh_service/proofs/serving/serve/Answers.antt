use Rattle.njh_turns.proofs.ServiceLaws.{rounds_within}
use Rattle.njh_service.proofs.serving.serve.Goals as goal

-- the story of the service that was opened, and what its depot keeps behind it
pub returns-in-Ok-run : goal.returns-in-Ok-run
returns-in-Ok-run g c =
    let opened = c.in-Ok.ensures.opened in
    let ran = c.in-Ok-run.ensures.served.attended in
    let kept = c.in-Ok-run.ensures.keeps.settled in
    record {
      opened = c.in-Ok.service.depot;
      served = record {
        apart = opened.apart;
        hub = c.in-Ok.service.hub;
        lines = c.in-Ok.service.lines;
        quiets = c.in-Ok.service.quiets;
        story = ran.story;
        hub_of = (opened.hub, c.in-Ok.ensures.settled);
        lines_of_tables = opened.lines;
        calm = opened.calm;
        many = rounds_within ran;
        each = ran.each;
        possible = ran.possible;
      };
      kept = rw (c.ended-depot.ensures, ← ran.hub) kept;
    }
