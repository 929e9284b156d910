use Rattle.std.proofs.Common.{map}
use Rattle.serde_json.specs.View.{view}
use Rattle.njh_ctl.proofs.RowLaws.{map_take_more}
use Rattle.njh_ctl.proofs.NameLaws.{adds_more, adds_none}
use Rattle.njh_ctl.specs.Chosen.{wanted_by}
use Rattle.njh_ctl.specs.Many.{IsEntry, entry_view}
use Rattle.njh_ctl.proofs.entries.add_entries.Goals as goal

pub loop-file-init : goal.loop-file-init
loop-file-init c = adds_none (IsEntry (wanted_by c.args.filter)) (map entry_view c.args.entries.now.items)

pub loop-file-preserved : goal.loop-file-preserved
loop-file-preserved c =
    adds_more (IsEntry (wanted_by c.args.filter)) _ _ (view c.file-item.result)
    (map entry_view c.args.entries.now.items) (map entry_view c.loop-file.entries.items)
    (map entry_view c.add_entry.new.entries.items) c.loop-file.invariant c.in_ok-add_entry.ensures.done
    (map_take_more view c.args.files.now c.loop-file.file-index c.file-item.result c.loop-file-test.true
    c.file-item.is)
