-- The line's mark is taken away after the end of its session.
use Rattle.{std.proofs.Common.{false, refl}, njh_table.proofs.MarkLaws.own_entry-marked}
use Rattle.njh_customer.{proofs.ReadyLaws.marked_after, specs.{Alone.session_closed, CustomerSteps.customer_of}}
use Rattle.njh_customer.proofs.shared.Shared.close_session.Goals as goal

pub returns : goal.returns
returns c =
    let id = c.args.id in
    let old = customer_of id.customer c.args.self.now c.args.lines.now in
    marked_after id false c.args.self.now c.end_session.new.shared _ c.end_session.new.self
    (session_closed id.number old) c.end_session.ensures c.requires.there.known c.set_up.ensures refl
    (own_entry-marked c.args.self.now.tables id false c.requires.there.known)
