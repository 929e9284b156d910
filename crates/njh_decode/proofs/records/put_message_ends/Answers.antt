use Rattle.std.proofs.lemmas.Result.{on_ok_weaker}
use Rattle.njh_decode.specs.Records.{message_ends_words}
use Rattle.njh_decode.proofs.LineLaws.{same_field, same_user, two_and_two}
use Rattle.njh_decode.proofs.records.put_message_ends.Goals as goal

pub returns : goal.returns
unfolding message_ends_words
returns c = on_ok_weaker c.put_named_user.result
    (two_and_two _ _ _ _ _ _ _ _ _ (same_field _ _ c.origin.ensures) (same_user _ _ _ _ c.to.ensures c.user.ensures)
    c.in_ok-put_named.ensures)
    c.put_named_user.ensures
