use Rattle.njh_anteroom.proofs.QueueLaws.{due_law, first_law, in_time_law}
use Rattle.njh_anteroom.proofs.anteroom.Anteroom.next.Goals as goal

pub returns-in-Some-clause-first : goal.returns-in-Some-clause-first
returns-in-Some-clause-first g c =
    rw (← c.self.view_is)
    (first_law c.args.now c.self.inside.memory c.self.inside.queue c.in-Some.place c.take.result c.in-Some.ensures.place
    c.take.ensures.guest)

pub returns-in-Some-clause-due : goal.returns-in-Some-clause-due
returns-in-Some-clause-due g c =
    rw (← c.self.view_is)
    (λ some. due_law c.args.now c.self.inside.memory c.self.inside.queue c.in-Some.place c.in-Some.ensures.place)

pub returns-in-None-clause-in_time : goal.returns-in-None-clause-in_time
returns-in-None-clause-in_time g c =
    rw (← c.self.view_is)
    (λ due late. absurd (in_time_law c.args.now c.self.inside.memory c.self.inside.queue
    c.in-None.ensures.place due late))
