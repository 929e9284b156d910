use Rattle.njh_log.proofs.LoggingLaws.{begins_out, begins_not}
use Rattle.njh_log.proofs.log.Log.hand_on.Goals as goal

pub returns-then-make_way-clause-out : goal.returns-then-make_way-clause-out
returns-then-make_way-clause-out g c =
    begins_out g.L.Write.contents c.args.self.now c.make_way.new.self c.begin.new.self c.begin.result
    c.if-make_way.ensures.free c.begin.ensures.begun c.begin.ensures.dropped

pub returns-then-make_way-clause-dropped : goal.returns-then-make_way-clause-dropped
returns-then-make_way-clause-dropped g c =
    begins_not g.L.Write.contents c.args.self.now c.make_way.new.self c.begin.new.self c.begin.result
    c.if-make_way.ensures.free c.begin.ensures.gone c.begin.ensures.dropped
