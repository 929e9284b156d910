use Rattle.std.proofs.Common.{◌∙◌, inl, inr, sym, ⊎_elim}
use Rattle.njh_sites.proofs.ControlLaws.{took_all}
use Rattle.njh_sites.proofs.calling.hear_answer.Goals as goal

pub returns-clause-heard : goal.returns-clause-heard
returns-clause-heard g c = record {
  bytes = c.receive_up_to-bytes.result.0.items;
  moves = c.receive_up_to-bytes.ensures.moved;
  took = took_all c.args.caller.now c.take.new.self c.receive_up_to-bytes.result.0.items
      c.as_slice.result.now c.take.result c.lacks.result c.as_slice.ensures.value c.take.ensures.taken c.lacks.ensures c.receive_up_to-bytes.ensures.few c.take.ensures.came;
}

-- what came says it, or no more comes
pub returns-clause-outcome : goal.returns-clause-outcome
returns-clause-outcome g c = ⊎_elim (λ same. inl (sym c.outcome.ensures ∙ sym same))
    (λ over. inr (sym c.outcome.ensures ∙ over.0, over.1))
    c.last_outcome.ensures
