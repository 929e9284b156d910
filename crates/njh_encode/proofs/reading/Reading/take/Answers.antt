use Rattle.std.proofs.Common.{◌≡◌, ℕ, List, ◌∷◌, ◌++◌, rules}
use Rattle.njh_io.specs.Lines.{lines_from, lines_of}
use Rattle.njh_encode.proofs.ReadingLaws.{read-all, read-bad, read-line, read-long, read-none}
use Rattle.njh_encode.proofs.reading.Reading.take.Goals as goal

pub loop-behind-init : goal.loop-behind-init
loop-behind-init g c =
    read-none (g.L.Letters.texts c.args.letters.now) c.args.self.now c.args.piece.now c.args.script.now.items

pub loop-behind-preserved : goal.loop-behind-preserved
loop-behind-preserved g c =
    let at = c.loop-behind.self in
    let line : (more : List ℕ) → lines_from at.front (c.loop-behind.left.now ++ more)
    ≡ c.read.new.self.front ∷ lines_of (c.in-Some.behind.now ++ more) =
    rw c.in-Some.is at c.in_ok-behind.ensures.lines in
    read-line (g.L.Letters.texts c.args.letters.now) c.args.self.now at c.read.new.self c.take_front.new.self
    c.args.piece.now c.args.script.now.items c.loop-behind.left.now c.loop-behind.script.items c.in-Some.behind.now
    c.take_front.new.script.items c.loop-behind.invariant line
    (record { states = c.in_ok-behind.ensures.states; number = c.in_ok-behind.ensures.number })
    c.in_ok-take_front.ensures.taken c.in_ok-take_front.ensures.cleared

pub returns-clause-taken : goal.returns-clause-taken
returns-clause-taken g c =
    let at = c.loop-behind.self in
    let kept : (more : List ℕ) → lines_from at.front (c.loop-behind.left.now ++ more) ≡ lines_from c.read.new.self.front
    more
    = rw c.in_default.is at c.in_ok-behind.ensures.lines in
    read-all (g.L.Letters.texts c.args.letters.now) c.args.self.now at c.read.new.self c.args.piece.now
    c.args.script.now.items c.loop-behind.left.now c.loop-behind.script.items c.loop-behind.invariant kept
    (record { states = c.in_ok-behind.ensures.states; number = c.in_ok-behind.ensures.number })

pub returns-in_err-behind-clause-bad : goal.returns-in_err-behind-clause-bad
returns-in_err-behind-clause-bad g c = λ fault same.
    let bad = c.read.ensures.bad fault (first_of (search (rules, same), cc same)) in
    read-long (g.L.Letters.texts c.args.letters.now) c.args.self.now c.loop-behind.self c.args.piece.now
    c.args.script.now.items c.loop-behind.left.now c.loop-behind.script.items fault c.loop-behind.invariant bad.0 bad.1

pub returns-in_err-take_front-clause-bad : goal.returns-in_err-take_front-clause-bad
returns-in_err-take_front-clause-bad g c = λ fault same.
    let at = c.loop-behind.self in
    let line : (more : List ℕ) → lines_from at.front (c.loop-behind.left.now ++ more)
    ≡ c.read.new.self.front ∷ lines_of (c.in-Some.behind.now ++ more) =
    rw c.in-Some.is at c.in_ok-behind.ensures.lines in
    let bad = c.take_front.ensures.bad fault (first_of (search (rules, same), cc same)) in
    read-bad (g.L.Letters.texts c.args.letters.now) c.args.self.now at c.read.new.self c.args.piece.now
    c.args.script.now.items c.loop-behind.left.now c.loop-behind.script.items c.in-Some.behind.now
    c.take_front.new.script.items fault c.loop-behind.invariant line
    (record { states = c.in_ok-behind.ensures.states; number = c.in_ok-behind.ensures.number }) bad.0 bad.1
