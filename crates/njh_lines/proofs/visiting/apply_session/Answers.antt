use Rattle.std.proofs.Common.{◌≡◌, ◌∙◌, ℕ, min, ap}
use Rattle.njh_wire.specs.Standing.{due}
use Rattle.njh_lines.specs.Attention.{first_of}
use Rattle.njh_lines.proofs.visiting.apply_session.Goals as goal

-- the first of what it waits for, of when something is to be told, and of what is beside it
first_with : (moment both look tells beside first told own : ℕ) → moment ≡ min both beside → both ≡ min look tells
    → look ≡ first → tells ≡ told → beside ≡ own → moment ≡ first_of first told own
first_with moment both look tells beside first told own is so asks tell its =
    is ∙ (ap (λ (n : ℕ). min n beside) (so ∙ (ap (λ (n : ℕ). min n tells) asks ∙ ap (λ (n : ℕ). min first n) tell))
    ∙ ap (λ (n : ℕ). min (min first told) n) its)

pub returns-clause-asks : goal.returns-clause-asks
returns-clause-asks g c =
    let look = c.next_look-moment.ensures in
    let soon = c.soon-soon.ensures.soon in
    record {
      waits = λ some unready. first_with _ _ _ _ _ _ _ _ c.min-2.ensures c.min.ensures (look.waits some unready)
          c.moment.ensures c.beside_at.ensures;
      ready = λ now. first_with _ _ _ _ _ _ _ _ c.min-2.ensures c.min.ensures (look.ready now) c.moment.ensures
          c.beside_at.ensures;
      rests = λ none quiet on. first_with _ _ _ _ _ _ _ _ c.min-2.ensures c.min.ensures (look.rests none quiet on
          ∙ ap (λ (n : ℕ). first_of (due c.set_session.new.wire) c.visit.new.post.moment n) soon) c.moment.ensures
          c.beside_at.ensures;
      alone = λ none quiet on. first_with _ _ _ _ _ _ _ _ c.min-2.ensures c.min.ensures (look.alone none quiet on
          ∙ ap (λ (n : ℕ). first_of 18446744073709551615 c.visit.new.post.moment n) soon) c.moment.ensures
          c.beside_at.ensures;
    }
