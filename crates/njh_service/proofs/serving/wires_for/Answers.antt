use Rattle.std.proofs.Common.{ℕ, ◌+◌, ap, arith, length, ◌∙◌}
use Rattle.std.proofs.lemmas.List.{length-append}
use Rattle.njh_table.specs.declared.Protocol.{Protocol}
use Rattle.njh_wire.specs.Standing.{Standing}
use Rattle.njh_service.proofs.ServedLaws.{placed_more, protocols_more}
use Rattle.njh_service.proofs.serving.wires_for.Goals as goal

-- a wire more, with its place and its line's protocol
pub loop-place-preserved : goal.loop-place-preserved
loop-place-preserved g c =
    let Wire : Type 0 = Standing g.row.C.Denot in record {
      many = ap length c.in_ok-push.ensures.items
          ∙ (length-append _ _ ∙ ap (λ (n : ℕ). n + 1) c.loop-place.invariant.many);
      places = placed_more _ _ _ _ c.in_ok-push.ensures.items c.loop-place.invariant.many
          (ap (λ (wire : Wire). wire.place) c.in_ok-wire_for.ensures) c.loop-place.invariant.places;
      protocols = protocols_more _ _ _ _ _ _ c.in_ok-push.ensures.items (omega arith)
          (ap (λ (wire : Wire). wire.protocol) c.in_ok-wire_for.ensures) c.loop-place.invariant.protocols;
    }
