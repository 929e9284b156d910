use Rattle.std.proofs.Common.{◌≡◌, ◌∙◌, length, ap, refl, sym, arith}
use Rattle.std.proofs.lemmas.List.{length-map}
use Rattle.njh_lines.specs.Watching.{served_line, Watched}
use Rattle.njh_lines.specs.declared.post.Post.{Post}
use Rattle.njh_lines.proofs.StateLaws.{all_made, made_more, none_so_far}
use Rattle.njh_service.specs.Revising.{line_reread}
use Rattle.njh_service.proofs.revising.take_from.Goals as goal

pub loop-place-init : goal.loop-place-init
loop-place-init g c = record {
  same = refl;
  made = none_so_far (line_reread c.args.revision.now c.args.outcome.now) c.args.exchange.now.lines;
}

pub loop-place-preserved : goal.loop-place-preserved
loop-place-preserved g c = record {
  same = c.take_from_at.ensures.same
      ∙ ap (λ (seen : Watched). record seen { lines = c.take_from_at.new.exchange.lines })
      c.loop-place.invariant.same;
  made = made_more c.loop-place.place (line_reread c.args.revision.now c.args.outcome.now)
      c.args.exchange.now.lines c.loop-place.exchange.lines c.take_from_at.new.exchange.lines
      c.loop-place.invariant.made c.take_from_at.ensures.lines;
}

-- all lines are as the tables say
pub returns-clause-lines : goal.returns-clause-lines
returns-clause-lines g c =
    let lines : length c.args.exchange.now.lines ≡ length c.posts-place-end.result.now =
    sym (ap length c.posts-place-end.ensures.lines)
    ∙ length-map c.posts-place-end.result.now
    (λ (post : Post g.row.N-Listener.Denot g.row.N-Connection.Denot). served_line g.N.Network.address_of post) in
    all_made c.loop-place.place (line_reread c.args.revision.now c.args.outcome.now) c.args.exchange.now.lines
    c.loop-place.exchange.lines (omega (arith, lines, c.loop-place-test.false)) c.loop-place.invariant.made
