use Rattle.std.proofs.Common.{sym, ◌∙◌}
use Rattle.njh_log.proofs.SpellLaws.{put_to_keeper, put_to_place}
use Rattle.njh_log.proofs.spells.Spells.note.Goals as goal

-- there is room for it
pub returns-then-has_room-clause-noted : goal.returns-then-has_room-clause-noted
returns-then-has_room-clause-noted c =
    put_to_keeper c.args.place c.keeper_of-keeper.result c.args.kind c.args.now c.args.self.now c.add.new.self
    c.keeper_of-keeper.ensures (sym c.writes-has_room.ensures ∙ c.if-has_room.true) c.add.ensures

-- there is none
pub returns-else-has_room-clause-noted : goal.returns-else-has_room-clause-noted
returns-else-has_room-clause-noted c =
    put_to_place c.args.place c.keeper_of-keeper.result c.args.kind c.args.now c.args.self.now
    c.add-else-has_room.new.self c.keeper_of-keeper.ensures (sym c.writes-has_room.ensures ∙ c.if-has_room.false)
    c.add-else-has_room.ensures
