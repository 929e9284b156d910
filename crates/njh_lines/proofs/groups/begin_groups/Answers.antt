use Rattle.std.proofs.Common.{◌≡◌, ℕ, ◌+◌, ◌*◌, ◌<◌, ◌≤◌, length, min, ◌∙◌, ap, sym, subst, arith, refl}
use Rattle.std.proofs.Common.{⊎_elim, inl, inr}
use Rattle.std.proofs.lemmas.Bool.{cases_lt}
use Rattle.std.proofs.lemmas.List.{length-map}
use Rattle.njh_lines.specs.Watching.{served_line, HaveBegun, Watched}
use Rattle.njh_lines.specs.declared.post.Post.{Post}
use Rattle.njh_lines.proofs.RoundLaws.{begun_after, none_begun}
use Rattle.njh_lines.proofs.StillLaws.{still_after, still_same}
use Rattle.njh_lines.specs.Wires.{AreHeld}
use Rattle.njh_lines.proofs.WireLaws.{all_held, held_after, none_held}
use Rattle.njh_lines.proofs.groups.begin_groups.Goals as goal

pub loop-group-init : goal.loop-group-init
loop-group-init g c = record {
  still = still_same c.args.wires.now;
  lines = refl;
  now = refl;
  customers = refl;
  begun = let none : 0 ≡ min (16 * 0) (length c.args.wires.now) = omega arith in
      let P : ℕ → Type 0 = λ end. HaveBegun c.args.exchange.now.now 0 end c.args.exchange.now.ready c.args.exchange.now.ready
      c.args.exchange.now.watches c.args.exchange.now.watches in
      subst P none (none_begun c.args.exchange.now.now 0 c.args.exchange.now.ready c.args.exchange.now.watches);
  held = none_held 0 c.args.exchange.now.lines c.args.exchange.now.watches c.args.wires.now;
}

pub loop-group-preserved : goal.loop-group-preserved
loop-group-preserved g c =
    let now = c.loop-group.invariant.now in
    let wires : length c.loop-group.wires ≡ length c.args.wires.now = c.loop-group.auto.wires in
    let end : min (16 * c.loop-group.group + 16) (length c.loop-group.wires)
    ≡ min (16 * (c.loop-group.group + 1)) (length c.args.wires.now) = omega (arith, wires) in
    let from : min (16 * c.loop-group.group) (length c.loop-group.wires)
    ≡ min (16 * c.loop-group.group) (length c.args.wires.now) = omega (arith, wires) in
    let P : ℕ → ℕ → ℕ → Type 0 = λ moment a b. HaveBegun moment a b c.loop-group.exchange.ready
    c.begin_group.new.exchange.ready c.loop-group.exchange.watches c.begin_group.new.exchange.watches in
    let At : ℕ → Type 0 = λ moment. P moment (min (16 * c.loop-group.group) (length c.loop-group.wires))
    (min (16 * c.loop-group.group + 16) (length c.loop-group.wires)) in
    let From : ℕ → Type 0 = λ a. P c.args.exchange.now.now a
    (min (16 * c.loop-group.group + 16) (length c.loop-group.wires)) in
    let next : 16 * c.loop-group.group + 16 ≡ 16 * (c.loop-group.group + 1) = omega arith in
    let Ends : ℕ → Type 0 = λ last. AreHeld (16 * c.loop-group.group) last c.loop-group.exchange.lines
    c.begin_group.new.exchange.watches c.loop-group.wires c.begin_group.new.wires in
    let more = subst (P c.args.exchange.now.now (min (16 * c.loop-group.group) (length c.args.wires.now))) end
    (subst From from (subst At now c.begin_group.ensures.begun)) in record {
      still = still_after c.args.wires.now c.loop-group.wires
          c.begin_group.new.wires (sym wires) c.loop-group.invariant.still c.begin_group.ensures.still;
      lines = c.begin_group.ensures.lines ∙ c.loop-group.invariant.lines;
      now = c.begin_group.ensures.now ∙ now;
      customers = c.begin_group.ensures.customers ∙ c.loop-group.invariant.customers;
      begun = begun_after c.args.exchange.now.now 0 _ _ _ _ _ _ _ _ (omega arith) (omega arith)
          c.loop-group.invariant.begun more;
      held = held_after 0 (16 * c.loop-group.group) (16 * (c.loop-group.group + 1)) c.args.exchange.now.lines
          c.loop-group.exchange.lines c.loop-group.exchange.watches c.begin_group.new.exchange.watches
          c.args.wires.now c.loop-group.wires c.begin_group.new.wires (omega arith) (omega arith)
          c.loop-group.invariant.lines wires
          (λ p earlier. c.begin_group.ensures.begun.same_watch p (⊎_elim
          (λ (within : p < length c.loop-group.wires). inl (omega (arith, earlier, within)))
          (λ (past : length c.loop-group.wires ≤ p). inr (omega (arith, past)))
          (cases_lt p (length c.loop-group.wires)))) c.loop-group.invariant.held
          (subst Ends next c.begin_group.ensures.held);
    }

-- all lines are in groups
pub returns-clause-begun : goal.returns-clause-begun
returns-clause-begun g c =
    let lines : length c.args.exchange.now.lines ≡ length c.exchange.inside.posts.items =
    sym (ap (λ (seen : Watched). length seen.lines) c.exchange.view_is)
    ∙ length-map c.exchange.inside.posts.items
    (λ (post : Post g.row.N-Listener.Denot g.row.N-Connection.Denot). served_line g.N.Network.address_of post) in
    λ p before. c.loop-group.invariant.begun.each p (omega arith)
    (omega (arith, before, lines, c.exchange.invariant.many_groups, c.loop-group-test.false))

pub returns-clause-held : goal.returns-clause-held
returns-clause-held g c =
    let lines : length c.args.exchange.now.lines ≡ length c.exchange.inside.posts.items =
    sym (ap (λ (seen : Watched). length seen.lines) c.exchange.view_is)
    ∙ length-map c.exchange.inside.posts.items
    (λ (post : Post g.row.N-Listener.Denot g.row.N-Connection.Denot). served_line g.N.Network.address_of post) in
    all_held (16 * c.loop-group.group) c.args.exchange.now.lines c.loop-group.exchange.watches c.args.wires.now
    c.loop-group.wires (omega (arith, lines, c.exchange.invariant.many_groups, c.loop-group-test.false))
    c.loop-group.auto.wires c.loop-group.invariant.held
