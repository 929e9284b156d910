use Rattle.std.proofs.Common.{◌≡◌, ◌<◌, length, get_or, arith, rules}
use Rattle.njh_bisync.specs.code.Scanner.{good_data}
use Rattle.njh_bisync.proofs.PlainLaws.{fed-front}
use Rattle.njh_bisync.proofs.RunLaws.{fed-behind, fed-dle, run-some}
use Rattle.njh_bisync.proofs.scanner.Scanner.take_inside.Goals as goal

pub returns-then-bytes-ne-DLE-clause-some : goal.returns-then-bytes-ne-DLE-clause-some
returns-then-bytes-ne-DLE-clause-some c =
    rw c.take_run.ensures.count (run-some c.args.bytes.now c.requires.some c.if-bytes-ne-DLE.true)

pub returns-then-bytes-ne-DLE-clause-goes_on : goal.returns-then-bytes-ne-DLE-clause-goes_on
returns-then-bytes-ne-DLE-clause-goes_on c =
    let scanner = c.args.self.now in
    let some = run-some c.args.bytes.now c.requires.some c.if-bytes-ne-DLE.true in
    rw (c.requires.place, c.take_run.ensures.rest, c.take_run.ensures.count)
    (fed-front (good_data scanner.spoiled scanner.held.items) c.args.bytes.now some)

pub returns-in-Some-clause-goes_on : goal.returns-in-Some-clause-goes_on
returns-in-Some-clause-goes_on c =
    let scanner = c.args.self.now in
    let long : 1 < length c.args.bytes.now = omega (arith, c.in-Some.ensures.lookup) in
    let at : c.in-Some.byte.now ≡ get_or c.args.bytes.now 1 0 = search rules in
    rw (c.requires.place, c.take_control.ensures.frame, c.take_control.ensures.rest)
    (fed-behind (good_data scanner.spoiled scanner.held.items) c.args.bytes.now c.in-Some.byte.now
    c.if-bytes-ne-DLE.false long at)

pub returns-in-None-clause-goes_on : goal.returns-in-None-clause-goes_on
returns-in-None-clause-goes_on c =
    let scanner = c.args.self.now in
    rw (c.requires.place, c.go_on.ensures.none, c.go_on.ensures.place, c.go_on.ensures.spoiled, c.go_on.ensures.held)
    (fed-dle (good_data scanner.spoiled scanner.held.items) c.args.bytes.now c.if-bytes-ne-DLE.false)
