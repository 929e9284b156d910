use Rattle.std.proofs.Common.{map, take}
use Rattle.serde_json.specs.View.{view}
use Rattle.njh_ctl.specs.Lists.{Keeps, list_view}
use Rattle.njh_ctl.proofs.kept.add_kept.Given as goal

abbrev pub invariant-loop-item : goal.invariant-loop-item
invariant-loop-item l =
    Keeps (list_view l.list) (map view (take l.item-index l.items)) (map view l.kept.items)
