use Rattle.njh_sites.proofs.ControlLaws.{took_all}
use Rattle.njh_sites.proofs.asking.Asking.listen.Goals as goal

pub returns-clause-heard : goal.returns-clause-heard
returns-clause-heard g c = record {
  bytes = c.receive_up_to-bytes.result.0.items;
  moves = c.receive_up_to-bytes.ensures.moved;
  took = took_all c.args.self.now.asker c.take.new.self c.receive_up_to-bytes.result.0.items
      c.as_slice.result.now c.take.result c.lacks.result c.as_slice.ensures.value c.take.ensures.taken c.lacks.ensures c.receive_up_to-bytes.ensures.few c.take.ensures.came;
}
