use Rattle.std.proofs.Common.{◌<◌, List, length, ap, arith}
use Rattle.njh_table.specs.declared.address_range.AddressRange.{AddressRange}
use Rattle.njh_lines.specs.LineStates.{with_from}
use Rattle.njh_lines.specs.Watching.{served_line, ServedLine}
use Rattle.njh_lines.specs.declared.post.Post.{Post}
use Rattle.njh_lines.proofs.StateLaws.{as_made, line_at, none_made, none_there}
use Rattle.njh_service.specs.Revising.{line_reread}
use Rattle.njh_service.proofs.revising.take_from_at.Goals as goal

-- the line there is as the tables say
pub returns-clause-lines : goal.returns-clause-lines
returns-clause-lines g c =
    let P : Type 0 = Post g.row.N-Listener.Denot g.row.N-Connection.Denot in
    let line_of : P → ServedLine = λ post. served_line g.N.Network.address_of post in
    let post = c.in-Some.post.now in
    let there : c.args.place < length c.posts.result.now = omega (arith, c.in-Some.ensures.lookup) in
    let found = line_at line_of c.posts.result.now c.args.exchange.now.lines c.args.place post c.posts.ensures.lines
    there c.in-Some.ensures.lookup.1 in
    as_made (with_from c.new_from-from.result) (line_reread c.args.revision.now c.args.outcome.now) c.args.place
    c.args.exchange.now.lines c.take_from.new.self.lines (line_of post) found
    (ap (λ (from : List AddressRange). with_from from (line_of post)) c.new_from-from.ensures)
    c.take_from.ensures.lines

-- no line is where no post is
pub returns-in_default-clause-lines : goal.returns-in_default-clause-lines
returns-in_default-clause-lines g c =
    let P : Type 0 = Post g.row.N-Listener.Denot g.row.N-Connection.Denot in
    none_made (line_reread c.args.revision.now c.args.outcome.now) c.args.exchange.now.lines c.args.place
    (none_there (λ (post : P). served_line g.N.Network.address_of post) c.posts.result.now
    c.args.exchange.now.lines c.args.place c.posts.ensures.lines (omega (arith, c.in_default.ensures.lookup)))
