use Rattle.std.proofs.Common.{◌∷◌, [], ◌++◌, ◌∙◌, sym, ap, subst, IsTrue}
use Rattle.njh_block.specs.Blocks.{written_bytes}
use Rattle.njh_block.specs.ItemViews.{outgoing_item}
use Rattle.njh_block.specs.Writing.{Writing, without_end, writing_of, with_last, has_room}
use Rattle.njh_block.proofs.WritingLaws.{Adds, written_on, IsWritten-outgoing}
use Rattle.njh_block.proofs.writer.BlockWriter.add.Goals as goal

-- what adding the record leaves
adds : (c : goal.After-push)
    → Adds (writing_of c.self.inside.limit c.self.inside.text.items) (outgoing_item c.args.out)
    ((without_end c.self.inside.text.items ++ written_bytes (outgoing_item c.args.out)) ++ 0 ∷ [])
adds c =
    written_on (writing_of c.self.inside.limit c.self.inside.text.items) c.self.inside.text.items c.self.inside.ended
    (outgoing_item c.args.out)
    c.self.invariant (IsWritten-outgoing c.args.out c.requires.writable)
    (subst (λ (w : Writing). IsTrue (has_room w (outgoing_item c.args.out))) (sym c.self.view_is) c.requires.room)

pub invariant_of-self : goal.invariant_of-self
invariant_of-self c =
    rw (c.push.ensures.items, c.put_record.ensures, c.pop-end.ensures.rest, c.is_general-self-inside.ensures)
    (adds c).whole

pub returns : goal.returns
returns c =
    rw (c.push.ensures.items, c.put_record.ensures, c.pop-end.ensures.rest)
    ((adds c).seen ∙ ap (with_last (outgoing_item c.args.out)) c.self.view_is)
