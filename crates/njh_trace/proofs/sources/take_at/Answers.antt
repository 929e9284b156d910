use Rattle.std.proofs.Common.{◌∙◌, List, ℕ, ap, get_or, set}
use Rattle.njh_bisync.specs.ByteSteps.{frames_after, rest_after}
use Rattle.njh_trace.specs.Trace.{frames_told}
use Rattle.njh_trace.proofs.SourceLaws.{found, found-after, found-told, set_on, told_on, view}
use Rattle.njh_trace.proofs.sources.take_at.Goals as goal

pub returns-clause-told : goal.returns-clause-told
returns-clause-told c =
    let sources = c.args.sources.now in
    let mark = c.args.piece.now.mark in
    let s = get_or sources c.args.place c.index-sources-place.result in
    told_on c.take.result c.args.lines.now.items c.take.new.lines.items _ _
    (ap (λ (bytes : List ℕ). frames_told c.args.hex s.mark (frames_after s.rest bytes)) c.bytes.ensures
    ∙ found-told mark sources s c.args.hex c.args.piece.now.bytes
    (found mark sources c.args.place c.index-sources-place.result c.requires.place))
    c.take.ensures.lines

pub returns-clause-sources : goal.returns-clause-sources
returns-clause-sources c =
    let sources = c.args.sources.now in
    let s = get_or sources c.args.place c.index-sources-place.result in
    set_on c.take.result sources c.args.place c.take.new.self _ _
    (ap (λ (bytes : List ℕ). set sources c.args.place (view s.mark (rest_after s.rest bytes))) c.bytes.ensures
    ∙ found-after c.args.piece.now sources c.args.place s c.requires.place
    (found c.args.piece.now.mark sources c.args.place c.index-sources-place.result c.requires.place))
    c.take.ensures.after
