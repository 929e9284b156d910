use Rattle.std.proofs.lemmas.Result.{on_ok_weaker}
use Rattle.njh_decode.specs.Records.{job_ends_words}
use Rattle.njh_decode.proofs.LineLaws.{same_user, two_and_two}
use Rattle.njh_decode.proofs.records.put_job_ends.Goals as goal

pub returns : goal.returns
unfolding job_ends_words
returns c =
    let origin = same_user _ _ _ _ c.origin_node.ensures c.origin_user.ensures in
    let execution = same_user _ _ _ _ c.execution_node.ensures c.execution_user.ensures in
    on_ok_weaker c.put_user.result (two_and_two _ _ _ _ _ _ _ _ _ origin execution c.in_ok-put_named_user.ensures)
    c.put_user.ensures
