use Rattle.std.proofs.Common.{◌∙◌, sym}
use Rattle.serde_json.specs.View.{view}
use Rattle.njh_ctl.proofs.EntryLaws.{list_any_map}
use Rattle.njh_ctl.specs.Orders.{is_turned_down}
use Rattle.njh_ctl.proofs.replies.has_turned_down.Goals as goal

pub returns : goal.returns
returns c = c.any_turned_down.ensures ∙ sym (list_any_map is_turned_down view c.args.replies.now)
