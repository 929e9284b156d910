use Rattle.std.proofs.Common.{◌≡◌, ℕ, List, ◌∷◌, ◌++◌, rules}
use Rattle.njh_io.specs.Lines.{lines_from, lines_of}
use Rattle.njh_trace.proofs.ReadingLaws.{any_long-later, read-all, read-line, read-none}
use Rattle.njh_trace.proofs.reading.Reading.take.Goals as goal

pub loop-behind-init : goal.loop-behind-init
loop-behind-init c = read-none c.args.hex c.args.self.now c.args.piece.now c.args.lines.now.items

pub loop-behind-preserved : goal.loop-behind-preserved
loop-behind-preserved c =
    let at = c.loop-behind.self in
    let line : (more : List ℕ) → lines_from at.front (c.loop-behind.left.now ++ more)
    ≡ c.read.new.self.front ∷ lines_of (c.in-Some.behind.now ++ more) =
    rw c.in-Some.is at c.in_ok-behind.ensures.lines in
    read-line c.args.hex c.args.self.now at c.read.new.self c.end_line.new.self c.args.piece.now c.args.lines.now.items
    c.loop-behind.left.now c.loop-behind.lines.items c.in-Some.behind.now c.end_line.new.lines.items
    c.loop-behind.invariant
    line c.in_ok-behind.ensures.sources c.end_line.ensures.short c.in_ok-end_line.ensures.told
    c.in_ok-end_line.ensures.ended

pub returns-clause-taken : goal.returns-clause-taken
returns-clause-taken c =
    let at = c.loop-behind.self in
    let kept : (more : List ℕ) → lines_from at.front (c.loop-behind.left.now ++ more) ≡ lines_from c.read.new.self.front
    more
    = rw c.in_default.is at c.in_ok-behind.ensures.lines in
    read-all c.args.hex c.args.self.now at c.read.new.self c.args.piece.now c.args.lines.now.items
    c.loop-behind.left.now
    c.loop-behind.lines.items c.loop-behind.invariant kept c.in_ok-behind.ensures.sources

pub returns-in_err-behind-clause-long : goal.returns-in_err-behind-clause-long
returns-in_err-behind-clause-long c = λ same more.
    any_long-later c.args.hex c.args.self.now c.loop-behind.self c.args.piece.now c.args.lines.now.items
    c.loop-behind.left.now c.loop-behind.lines.items more c.loop-behind.invariant
    (c.read.ensures.long (first_of (search (rules, same), cc same)) more)
