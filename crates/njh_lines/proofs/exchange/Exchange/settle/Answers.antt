use Rattle.std.proofs.Common.{◌≡◌, length, ap, sym, ◌∙◌, arith}
use Rattle.std.proofs.lemmas.List.{length-map}
use Rattle.njh_lines.specs.LineStates.{line_settled}
use Rattle.njh_lines.specs.Watching.{served_line, Watched}
use Rattle.njh_lines.specs.declared.post.Post.{Post}
use Rattle.njh_lines.proofs.StateLaws.{all_made, made_more, none_drains, none_more, none_so_far}
use Rattle.njh_lines.proofs.exchange.Exchange.settle.Goals as goal

pub loop-place-init : goal.loop-place-init
loop-place-init g c = record {
  made = none_so_far (line_settled c.args.hub.now) c.args.self.now.lines;
  drains = λ is p line before found. let none : ⊥ = omega (arith, before) in absurd none;
}

pub loop-place-preserved : goal.loop-place-preserved
loop-place-preserved g c =
    let one = c.settle_at-state.ensures.made in record {
      made = made_more c.loop-place.place (line_settled c.args.hub.now) c.args.self.now.lines c.loop-place.self.lines
          c.settle_at-state.new.exchange.lines c.loop-place.invariant.made one;
      drains = none_more c.loop-place.place (line_settled c.args.hub.now) c.loop-place.self.lines
          c.settle_at-state.new.exchange.lines c.settle_at-state.result c.loop-place.drains c.is_draining-drains.result
          c.loop-place.invariant.drains one c.settle_at-state.ensures.state c.is_draining-drains.ensures;
    }

-- all lines are as a round leaves them, and whether one drains is known
pub returns : goal.returns
returns g c =
    let lines : length c.args.self.now.lines ≡ length c.self.inside.posts.items =
    sym (ap (λ (seen : Watched). length seen.lines) c.self.view_is)
    ∙ length-map c.self.inside.posts.items
    (λ (post : Post g.row.N-Listener.Denot g.row.N-Connection.Denot). served_line g.N.Network.address_of post) in
    let made = c.loop-place.invariant.made in record {
      settled = all_made c.loop-place.place (line_settled c.args.hub.now) c.args.self.now.lines c.loop-place.self.lines
          (omega (arith, lines, c.loop-place-test.false)) made;
      drains = λ none. none_drains c.loop-place.place (line_settled c.args.hub.now) c.args.self.now.lines
          c.loop-place.self.lines (omega (arith, lines, c.loop-place-test.false)) made
          (c.loop-place.invariant.drains none);
    }
