use Rattle.std.proofs.Common.{◌≡◌, length, ap, sym, ◌∙◌, arith}
use Rattle.std.proofs.lemmas.List.{length-map}
use Rattle.njh_lines.specs.LineStates.{line_wished}
use Rattle.njh_lines.specs.Watching.{served_line, Watched}
use Rattle.njh_lines.specs.declared.post.Post.{Post}
use Rattle.njh_lines.proofs.StateLaws.{all_made, made_more, none_so_far}
use Rattle.njh_lines.proofs.exchange.Exchange.wish.Goals as goal

pub loop-place-init : goal.loop-place-init
loop-place-init g c = none_so_far (line_wished c.args.id c.args.wish) c.args.self.now.lines

pub loop-place-preserved : goal.loop-place-preserved
loop-place-preserved g c =
    made_more c.loop-place.place (line_wished c.args.id c.args.wish) c.args.self.now.lines c.loop-place.self.lines
    c.wish_at.new.exchange.lines c.loop-place.invariant c.wish_at.ensures

-- all lines are as the operator wants them
pub returns : goal.returns
returns g c =
    let lines : length c.args.self.now.lines ≡ length c.self.inside.posts.items =
    sym (ap (λ (seen : Watched). length seen.lines) c.self.view_is)
    ∙ length-map c.self.inside.posts.items
    (λ (post : Post g.row.N-Listener.Denot g.row.N-Connection.Denot). served_line g.N.Network.address_of post) in
    all_made c.loop-place.place (line_wished c.args.id c.args.wish) c.args.self.now.lines c.loop-place.self.lines
    (omega (arith, lines, c.loop-place-test.false)) c.loop-place.invariant
