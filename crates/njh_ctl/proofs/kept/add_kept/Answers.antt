use Rattle.std.proofs.Common.{[], map, subst, sym}
use Rattle.serde_json.specs.View.{view}
use Rattle.serde_json.specs.declared.value.Value.{Value}
use Rattle.std.proofs.Common.{List}
use Rattle.njh_ctl.proofs.KeptLaws.{keeps_more}
use Rattle.njh_ctl.proofs.RowLaws.{map_take_more}
use Rattle.njh_ctl.specs.Lists.{Keeps, keeps_none, list_view}
use Rattle.njh_ctl.proofs.kept.add_kept.Goals as goal

pub loop-item-init : goal.loop-item-init
loop-item-init c =
    subst (λ (kept : List Value). Keeps (list_view c.args.list) [] (map view kept)) (sym c.requires) keeps_none

pub loop-item-preserved : goal.loop-item-preserved
loop-item-preserved c =
    keeps_more (list_view c.args.list) _ _ (view c.item-item.result) (map view c.loop-item.kept.items)
    (map view c.keep.new.kept.items) c.loop-item.invariant c.in_ok-keep.ensures.kept
    (map_take_more view c.args.items.now c.loop-item.item-index c.item-item.result c.loop-item-test.true c.item-item.is)
