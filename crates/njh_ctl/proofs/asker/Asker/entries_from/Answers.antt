use Rattle.std.proofs.Common.{map}
use Rattle.std.proofs.lemmas.Result.{IfOk-weaker}
use Rattle.serde_json.specs.View.{view}
use Rattle.njh_ctl.specs.Asked.{answer_view}
use Rattle.njh_ctl.proofs.asker.Asker.entries_from.Goals as goal

pub returns-clause-done : goal.returns-clause-done
returns-clause-done g c =
    IfOk-weaker c.next_in.result _ _ (λ next goes. record {
      part = answer_view c.in_ok-answer.answer;
      items = map view c.in_ok-files.files.now;
      understood = c.in_ok-answer.ensures.done;
      found = c.in_ok-files.ensures.understood;
      adds = c.in_ok-add_entries.ensures.done;
      goes_on = goes;
    }) c.next_in.ensures.understood
