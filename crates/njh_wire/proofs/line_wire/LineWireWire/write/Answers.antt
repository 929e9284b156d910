use Rattle.std.proofs.Common.{refl, ap, ◌∙◌}
use Rattle.njh_wire.specs.Standing.{given_up}
use Rattle.njh_wire.specs.declared.end.ConnectionEnd.TheVariants as ends
use Rattle.njh_wire.proofs.TallyLaws.{written_tallies}
use Rattle.njh_wire.proofs.WithheldLaws.{written_withholds, given_up_withholds}
use Rattle.njh_wire.proofs.line_wire.LineWireWire.write.Goals as goal

pub returns-then-put-clause-ok : goal.returns-then-put-clause-ok
returns-then-put-clause-ok g c =
    written_tallies c.args.self.now c.args.frame.now c.put.new.self (c.if-put.ensures.written refl)

pub returns-then-put-clause-withheld : goal.returns-then-put-clause-withheld
returns-then-put-clause-withheld g c =
    written_withholds g.C.Connection.moved c.args.self.now c.args.frame.now c.put.new.self
    (c.if-put.ensures.written refl)

pub returns-clause-withheld : goal.returns-clause-withheld
returns-clause-withheld g c =
    given_up_withholds g.C.Connection.moved ends.Failed c.args.self.now c.give_up.new.self
    (c.give_up.ensures.stands ∙ ap (given_up ends.Failed) (c.if-put.ensures.unwritten (λ w. absurd (cc w))))
