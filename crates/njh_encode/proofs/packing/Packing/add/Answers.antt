use Rattle.std.proofs.Common.{◌≡◌, ◌∙◌, ◌∷◌, ◌++◌, [], ap, false, rules, subst, sym}
use Rattle.njh_block.specs.Writing.{has_room}
use Rattle.njh_encode.specs.Packing.{sysout, writing_on}
use Rattle.njh_encode.specs.code.Puts.{OpenBlock, Puts}
use Rattle.njh_encode.proofs.PackingLaws.{Puts-next}
use Rattle.njh_encode.proofs.packing.Packing.add.Goals as goal

pub returns : goal.returns
returns c =
    let item = sysout c.args.srcb c.args.bytes.now in
    let none : has_room (writing_on c.args.self.now.state c.args.self.now.items) item ≡ false = search rules in
    let at : c.put-2.new.self ≡ record { state = _; items = item ∷ [] } =
    c.put-2.ensures ∙ ap (λ (k : OpenBlock). record k { items = k.items ++ item ∷ [] }) c.in_ok-end.ensures.next in
    let P : OpenBlock → Type 0 = λ k.
    Puts c.args.name.now c.args.self.now (item ∷ []) k c.args.script.now.items c.end.new.script.items in
    subst P (sym at)
    (Puts-next c.args.name.now c.args.self.now item c.args.script.now.items c.end.new.script.items none
    c.in_ok-end.ensures.line)
