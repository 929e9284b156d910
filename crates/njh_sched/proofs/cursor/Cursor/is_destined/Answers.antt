-- The node of a destination is looked up.
use Rattle.std.proofs.Common.{◌≡◌, ap, sym, ◌∙◌}
use Rattle.njh_stream.specs.Sending.{destination_goes_by, node_goes_by}
use Rattle.njh_table.specs.TableFile.{entry_of}
use Rattle.njh_sched.proofs.cursor.Cursor.is_destined.Goals as goal

pub returns-in-Some-clause-goes : goal.returns-in-Some-clause-goes
returns-in-Some-clause-goes c =
    c.goes_there.ensures.goes
    ∙ (λ i. node_goes_by (entry_of (c.self.view_is i).entry) (c.self.view_is i).id.number
    (c.destination.view_is i).node)
    ∙ ap (destination_goes_by (entry_of c.args.self.now.entry) c.args.self.now.id.number) (sym c.in-Some.is)
