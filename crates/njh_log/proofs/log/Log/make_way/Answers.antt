use Rattle.njh_log.proofs.LoggingLaws.{tells_after, not_free}
use Rattle.njh_log.proofs.log.Log.make_way.Goals as goal

pub returns-then-tell_dropped-clause-dropped : goal.returns-then-tell_dropped-clause-dropped
returns-then-tell_dropped-clause-dropped g c =
    let old = c.args.self.now in
    let told = c.if-tell_dropped.ensures.told in
    let after = tells_after g.L.Write.contents old c.go_on.new.self c.tell_dropped.new.self told.0 c.go_on.ensures.out
    c.go_on.ensures.dropped told.1 in
    let last = c.go_on-then-tell_dropped in
    not_free g.L.Write.contents old c.tell_dropped.new.self last.new.self last.result (told.0, after) last.ensures.out
    last.ensures.left last.ensures.dropped
