use Rattle.std.proofs.lemmas.Result.{on_ok_weaker}
use Rattle.njh_decode.specs.Records.{job_file_words}
use Rattle.njh_decode.proofs.LineLaws.{same_field, same_number, two_and_two}
use Rattle.njh_decode.proofs.records.put_job_file.Goals as goal

pub returns : goal.returns
unfolding job_file_words
returns c = on_ok_weaker c.put_numbered.result
    (two_and_two _ _ _ _ _ _ _ _ _ (same_field _ _ c.origin_node.ensures) (same_number _ _ c.number.ensures)
    c.in_ok-put_named.ensures)
    c.put_numbered.ensures
