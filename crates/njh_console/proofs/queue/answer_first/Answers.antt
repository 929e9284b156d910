use Rattle.std.proofs.Common.{◌≡◌, ◌∙◌, ap, inl, inr, refl, rules, subst}
use Rattle.std.specs.Prelude.{false, ◌∷◌}
use Rattle.http_server.specs.Exchange.{Chain}
use Rattle.njh_console.specs.Desks.{DeskState, IsServed}
use Rattle.njh_console.proofs.TurnLaws.{all_passed, looked_more, looked_none, nobody_answered, one_answered, turn_taken}
use Rattle.njh_console.proofs.queue.answer_first.Goals as goal

pub loop-place-init : goal.loop-place-init
loop-place-init g c = record { to = looked_none c.args.seats.now.items; desk = refl; many = refl; capacity = refl }

pub returns-then-is_done-clause-looked : goal.returns-then-is_done-clause-looked
returns-then-is_done-clause-looked g c =
    let place = c.loop-place.place in
    let was = c.index_mut.result.now in
    let then = c.answer.new.self in
    let undone : c.loop-place.desk.done ≡ false =
    ap (λ (d : DeskState). d.done) c.loop-place.invariant.desk ∙ c.requires in
    let one = one_answered c.loop-place.desk c.answer.new.desk was then c.answer.ensures.calls c.answer.ensures.asked
    c.answer.ensures.served (
      c.answer.ensures.socket,
      c.answer.ensures.seen,
      c.answer.ensures.there,
      c.answer.ensures.failed,
      c.answer.ensures.quiet,
    ) undone
    (search rules) in
    inr (
      one.0,
      one.1,
      turn_taken c.args.now place c.args.seats.now.items c.loop-place.seats.items c.move_to_end.new.seats.items was then
          (one.0 ∷ one.1)
          c.loop-place.invariant.to (search rules) c.index_mut.ensures.value one.2 c.move_to_end.ensures.seats,
      subst (λ (d : DeskState). Chain IsServed d (one.0 ∷ one.1) c.answer.new.desk) c.loop-place.invariant.desk one.3,
    )

pub loop-place-preserved : goal.loop-place-preserved
loop-place-preserved g c =
    let place = c.loop-place.place in
    let was = c.index_mut.result.now in
    let then = c.answer.new.self in
    let nobody = nobody_answered c.loop-place.desk c.answer.new.desk was then c.answer.ensures.calls
    c.answer.ensures.asked c.answer.ensures.served (
      c.answer.ensures.socket,
      c.answer.ensures.seen,
      c.answer.ensures.there,
      c.answer.ensures.failed,
      c.answer.ensures.quiet,
    )
    (search rules) in
    record {
      to = looked_more place c.args.seats.now.items c.loop-place.seats.items was then c.loop-place.invariant.to
          (search rules) c.index_mut.ensures.value nobody.0;
      desk = nobody.1 ∙ c.loop-place.invariant.desk;
      many = search rules;
      capacity = search rules;
    }

pub returns-clause-looked : goal.returns-clause-looked
returns-clause-looked g c =
    inl (
      all_passed c.loop-place.place c.args.seats.now.items c.loop-place.seats.items c.loop-place.invariant.to
          (search rules),
      c.loop-place.invariant.desk,
    )
