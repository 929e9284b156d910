use Rattle.std.proofs.Common.{◌<◌, length, rules}
use Rattle.njh_encode.proofs.ReadingLaws.{last-bad, last-taken}
use Rattle.njh_encode.proofs.reading.Reading.end.Goals as goal

pub returns-else-is_empty-clause-taken : goal.returns-else-is_empty-clause-taken
returns-else-is_empty-clause-taken g c =
    let some : 0 < length c.args.self.now.front = search rules in
    last-taken (g.L.Letters.texts c.args.letters.now) c.take_front.result c.args.self.now c.take_front.new.self
    c.args.script.now.items c.take_front.new.script.items some c.take_front.ensures.taken

pub returns-else-is_empty-clause-bad : goal.returns-else-is_empty-clause-bad
returns-else-is_empty-clause-bad g c = λ fault same.
    let some : 0 < length c.args.self.now.front = search rules in
    let bad = c.take_front.ensures.bad fault same in
    (bad.0, last-bad (g.L.Letters.texts c.args.letters.now) c.args.self.now _ some bad.1)
