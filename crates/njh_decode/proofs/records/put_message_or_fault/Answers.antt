use Rattle.std.proofs.lemmas.Result.{on_ok_weaker}
use Rattle.njh_decode.proofs.LineLaws.{words_and_fault}
use Rattle.njh_decode.proofs.records.put_message_or_fault.Goals as goal

pub returns-in-Err : goal.returns-in-Err
returns-in-Err c =
    let named = words_and_fault _ _ _ _ _ c.nmr_fault_words.ensures in
    rw c.in-Err.is (on_ok_weaker c.put_both.result named c.put_both.ensures)
