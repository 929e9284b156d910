use Rattle.std.proofs.Common.{◌≡◌, ℕ, ◌+◌, ◌*◌, ◌<◌, ◌≤◌, length, ap, ◌∙◌, sym, subst, arith, refl, inl, inr, ⊎_elim}
use Rattle.std.proofs.lemmas.Bool.{cases_lt}
use Rattle.std.proofs.lemmas.List.{length-map}
use Rattle.njh_lines.specs.Attention.{watch_at}
use Rattle.njh_lines.specs.Watching.{served_line, Watched}
use Rattle.njh_lines.specs.declared.attention.Watch.{Watch}
use Rattle.njh_lines.specs.declared.post.Post.{Post}
use Rattle.njh_lines.specs.Resting.{HaveRested, IsLinesMoment}
use Rattle.njh_lines.proofs.CallLaws.{all_woken}
use Rattle.njh_lines.proofs.GroupLaws.{waits_until}
use Rattle.njh_lines.proofs.MomentLaws.{first_among, moment_among}
use Rattle.njh_lines.proofs.RestLaws.{ended_so, none_rested, rested_after}
use Rattle.njh_lines.proofs.StillLaws.{still_after, still_same}
use Rattle.njh_lines.specs.Wires.{AreMadeSo, IsDone}
use Rattle.njh_lines.proofs.WireLaws.{all_made, done_as, made_after, none_made}
use Rattle.njh_lines.proofs.exchange.Exchange.end_round.Goals as goal

pub loop-group-init : goal.loop-group-init
loop-group-init g c = record {
  still = still_same c.args.wires.now;
  lines = refl;
  waits = λ p before within. let none : ⊥ = omega (arith, before) in absurd none;
  done = none_made _ (length c.args.self.now.lines) 0 c.args.self.now.watches c.args.wires.now;
  now = refl;
  rested = none_rested 0 c.args.self.now c.args.wires.now;
  wanted = inl refl;
}

pub loop-group-preserved : goal.loop-group-preserved
loop-group-preserved g c = record {
  still = still_after c.args.wires.now c.loop-group.wires
      c.end_group-moment.new.wires (sym c.loop-group.auto.wires) c.loop-group.invariant.still
      c.end_group-moment.ensures.still;
  lines = c.end_group-moment.ensures.lines ∙ c.loop-group.invariant.lines;
  waits = λ p before within. ⊎_elim
      (λ (earlier : p < 16 * c.loop-group.group).
      let same = ap (λ (w : Watch). w.moment) (c.end_group-moment.ensures.rested.others p (inl earlier)).watch in
      let old = c.loop-group.invariant.waits p earlier
      (omega (arith, within, ap length c.end_group-moment.ensures.lines)) in
      omega (arith, same, old, c.min-next.ensures))
      (λ (later : 16 * c.loop-group.group ≤ p).
      let first = c.end_group-moment.ensures.first p (later, omega (arith, before)) within in
      omega (arith, first, c.min-next.ensures))
      (cases_lt p (16 * c.loop-group.group));
  done = let next : 16 * c.loop-group.group + 16 ≡ 16 * (c.loop-group.group + 1) = omega arith in
      let many = ap length c.loop-group.invariant.lines in
      let Of : ℕ → ℕ → Type 0 = λ lines last. AreMadeSo
      (λ place s new. IsDone g.N.Connection.Connection.moved c.loop-group.self c.args.hub.now place s new) lines
      (16 * c.loop-group.group) last c.loop-group.self.watches c.loop-group.wires c.end_group-moment.new.wires in
      made_after _ (λ place s new. IsDone g.N.Connection.Connection.moved c.loop-group.self c.args.hub.now place s new)
      (length c.args.self.now.lines) 0 (16 * c.loop-group.group) (16 * (c.loop-group.group + 1))
      c.args.self.now.watches c.loop-group.self.watches c.args.wires.now c.loop-group.wires
      c.end_group-moment.new.wires (omega arith) (omega arith) c.loop-group.auto.wires
      (λ p from. (c.loop-group.invariant.rested.others p (inr from)).watch)
      (λ p s new from. done_as _ c.args.self.now c.loop-group.self c.args.hub.now p s new c.loop-group.invariant.lines
      (c.loop-group.invariant.rested.others p (inr from)).refusals)
      c.loop-group.invariant.done
      (subst (Of (length c.args.self.now.lines)) next
      (subst (λ (n : ℕ). Of n (16 * c.loop-group.group + 16)) many c.end_group-moment.ensures.done));
  now = c.end_group-moment.ensures.now ∙ c.loop-group.invariant.now;
  rested = let next : 16 * c.loop-group.group + 16 ≡ 16 * (c.loop-group.group + 1) = omega arith in
      let Of : ℕ → Type 0 = λ last. HaveRested (16 * c.loop-group.group) last c.loop-group.self
      c.end_group-moment.new.exchange c.end_group-moment.new.wires in
      rested_after 0 (16 * c.loop-group.group) (16 * (c.loop-group.group + 1)) c.args.self.now c.loop-group.self
      c.end_group-moment.new.exchange c.loop-group.wires c.end_group-moment.new.wires (omega arith) (omega arith)
      (ap length c.loop-group.invariant.lines) c.end_group-moment.ensures.now c.end_group-moment.auto.wires
      (λ p d before. c.end_group-moment.ensures.done.same p d (inl before)) c.loop-group.invariant.rested
      (subst Of next c.end_group-moment.ensures.rested);
  wanted = let lines = ap length c.end_group-moment.ensures.lines in
      first_among (λ p. (p < 16 * c.loop-group.group) × (p < length c.loop-group.self.lines)) _ _
      c.end_group-moment.new.exchange.watches c.loop-group.next c.end_group-moment.result c.min-next.result
      c.min-next.ensures
      (λ p its. (omega (arith, its.0), omega (arith, its.1, lines)))
      (λ p its. let within = its.0 in (omega (arith, within.1), its.1))
      (moment_among _ _ c.loop-group.self.watches c.end_group-moment.new.exchange.watches c.loop-group.next
      (λ p its. its)
      (λ p its. ap (λ (w : Watch). w.moment) (c.end_group-moment.ensures.rested.others p (inl its.0)).watch)
      c.loop-group.invariant.wanted)
      c.end_group-moment.ensures.wanted;
}

-- the next moment isn't behind that of a line
pub invariant_of-self : goal.invariant_of-self
invariant_of-self g c =
    let line = λ (post : Post g.row.N-Listener.Denot g.row.N-Connection.Denot).
    served_line g.N.Network.address_of post in
    let Waits : Watched → Type 0 = λ seen. (p : ℕ) → p < 16 * c.loop-group.group → p < length seen.lines
    → c.loop-group.next ≤ (watch_at seen.watches p).moment in
    let waits = subst Waits (sym c.self-2.view_is) c.loop-group.invariant.waits in
    let many : length c.self.inside.posts.items ≡ length c.args.self.now.lines =
    sym (length-map c.self.inside.posts.items line) ∙ ap (λ (seen : Watched). length seen.lines) c.self.view_is in
    let many_now : length c.self-2.inside.posts.items ≡ length c.loop-group.self.lines =
    sym (length-map c.self-2.inside.posts.items line) ∙ ap (λ (seen : Watched). length seen.lines) c.self-2.view_is in
    let same = ap length c.loop-group.invariant.lines in
    waits_until _ c.self-2.inside.ready.items c.self-2.inside.watches.items c.self-2.inside.groups.items
    c.self-2.inside.next c.loop-group.next
    (λ place before. waits place
    (omega (arith, before, many, many_now, same, c.self.invariant.many_groups, c.loop-group-test.false))
    (omega (arith, before, length-map c.self-2.inside.posts.items line))) c.self-2.invariant

-- all lines are in groups
pub returns-clause-done : goal.returns-clause-done
returns-clause-done g c =
    let many : length c.self.inside.posts.items ≡ length c.args.self.now.lines =
    sym (length-map c.self.inside.posts.items (λ (post : Post g.row.N-Listener.Denot g.row.N-Connection.Denot).
    served_line g.N.Network.address_of post))
    ∙ ap (λ (seen : Watched). length seen.lines) c.self.view_is in
    all_made _ (length c.args.self.now.lines) (16 * c.loop-group.group) c.args.self.now.watches c.args.wires.now
    c.loop-group.wires (omega (arith, many, c.self.invariant.many_groups, c.loop-group-test.false))
    c.loop-group.auto.wires c.loop-group.invariant.done

pub returns-clause-now : goal.returns-clause-now
returns-clause-now g c =
    c.wake.ensures.now ∙ (ap (λ (seen : Watched). seen.now) c.self-2.view_is ∙ c.loop-group.invariant.now)

-- until the first of the moments
pub returns-clause-waits : goal.returns-clause-waits
returns-clause-waits g c =
    let First : Watched → Type 0 = λ seen. IsLinesMoment seen c.loop-group.next in
    c.wake.ensures.waits (subst First (sym c.self-2.view_is)
    (moment_among _ (λ p. p < length c.loop-group.self.lines) c.loop-group.self.watches c.loop-group.self.watches
    c.loop-group.next (λ p its. its.1) (λ p its. refl) c.loop-group.invariant.wanted))

-- those that were looked at rest, and those are woken that are to be
pub returns-clause-ended : goal.returns-clause-ended
returns-clause-ended g c = λ place d there line.
    let mid = c.loop-group.self in
    let new = c.wake.new.exchange in
    let many : length c.self.inside.posts.items ≡ length c.args.self.now.lines =
    sym (length-map c.self.inside.posts.items (λ (post : Post g.row.N-Listener.Denot g.row.N-Connection.Denot).
    served_line g.N.Network.address_of post))
    ∙ ap (λ (seen : Watched). length seen.lines) c.self.view_is in
    let lines = ap (λ (seen : Watched). seen.lines) c.self-2.view_is in
    let noted = ap (λ (seen : Watched). seen.noted) c.self-2.view_is in
    let time = ap (λ (seen : Watched). seen.now) c.self-2.view_is in
    let watches = ap (λ (seen : Watched). seen.watches) c.self-2.view_is in
    ended_so (16 * c.loop-group.group) place d c.args.self.now mid new c.args.hub.now c.loop-group.wires
    c.loop-group.invariant.rested
    (omega (arith, line, many, c.self.invariant.many_groups, c.loop-group-test.false))
    (omega (arith, there, c.loop-group.auto.wires)) line (c.wake.ensures.lines ∙ lines)
    (c.wake.ensures.noted ∙ noted) (c.wake.ensures.now ∙ time)
    (all_woken _ mid c.args.hub.now new.watches (sym lines) (sym noted) (sym time) (sym watches)
    c.wake.ensures.calls)
