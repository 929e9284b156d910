use Rattle.std.proofs.Common.{refl}
use Rattle.njh_log.proofs.SpellLaws.{told_when_written}
use Rattle.njh_log.proofs.limited.LimitedLog.tell_text.Goals as goal

-- there is room for it
pub returns-then-note : goal.returns-then-note
returns-then-note g c =
    told_when_written g.L.Write.contents c.args.heading.place c.args.kind c.args.now c.args.self.now
    (record c.args.self.now { log = c.write.new.self; spells = c.note.new.self }) c.note.result c.note.ensures.written
    c.if-note.true c.note.ensures.noted (record { none = c.write.ensures.none; logged = c.write.ensures.logged }) refl
