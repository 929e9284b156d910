use Rattle.std.proofs.Common.{◌∙◌, ap, arith, sym}
use Rattle.njh_anteroom.specs.Remembered.{rank_of}
use Rattle.njh_anteroom.proofs.QueueLaws.{room_law, welcome_law}
use Rattle.njh_anteroom.proofs.anteroom.Anteroom.come.Goals as goal

pub returns-clause-room : goal.returns-clause-room
returns-clause-room g c =
    λ may few gone. room_law c.number.result c.args.now c.args.may_grow c.args.self.now.remembered
    c.args.self.now.waiting may few (sym c.entry_of-entry.ensures.entry ∙ gone)

pub returns-clause-welcome : goal.returns-clause-welcome
returns-clause-welcome g c =
    λ gone k d there.
    let remembered = c.args.self.now.remembered in
    let most = welcome_law c.number.result c.args.now c.args.may_grow remembered c.args.self.now.waiting
    (sym c.entry_of-entry.ensures.entry ∙ gone) k d there in
    let same = ap (rank_of c.args.now remembered) c.number.ensures in omega (arith, most, same)
