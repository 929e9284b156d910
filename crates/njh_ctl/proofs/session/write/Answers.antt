use Rattle.std.proofs.Common.{◌≡◌, ℕ, List, ◌++◌, Bor, take, sym, ap, ◌∙◌}
use Rattle.std.proofs.KnownBytes.{Appends-kept}
use Rattle.std.proofs.lemmas.List.{take-append-drop}
use Rattle.njh_ctl.proofs.WrittenUpTo.{IsWrittenUpTo-more}
use Rattle.njh_ctl.proofs.session.write.Goals.{in-Ok, in-Err+in_ok-on_error-in-Err}
use Rattle.njh_ctl.proofs.session.write.Goals as goal

pub loop-preserved : goal.loop-preserved
loop-preserved g c =
    let rest = c.loop.rest.now in
    let so_far = c.loop.invariant in
    elim c.match-write.branch [
      | in-Ok w ↦
          let front = take w.in-Ok.count rest in
          let after = ap (λ (r : Bor (List ℕ)). r.now) w.rest-is ∙ w.split_at.ensures.back in
          let cut : rest ≡ front ++ c.match-write.rest.now = sym (take-append-drop w.in-Ok.count rest)
          ∙ ap (λ (text : List ℕ). front ++ text) (sym after) in
          IsWrittenUpTo-more c.args.bytes.now rest front c.match-write.rest.now _ _ _ so_far cut w.in-Ok.ensures.bytes
      | in-Err+in_ok-on_error-in-Err w ↦ (
        so_far.0,
        Appends-kept _ _ _ so_far.0 so_far.1 w.in-Err.ensures.bytes,
        ap
            (λ (r : Bor (List ℕ)). so_far.0 ++ r.now) w.rest-is ∙ so_far.2,
      )
    ]
