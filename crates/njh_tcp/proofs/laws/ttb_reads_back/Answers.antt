use Rattle.njh_tcp.proofs.WrittenLaws.{written_splits, carries, reads_back, texts_back}
use Rattle.njh_tcp.proofs.laws.ttb_reads_back.Goals as goal

pub returns-clause-splits : goal.returns-clause-splits
returns-clause-splits c = written_splits

pub returns-clause-carries : goal.returns-clause-carries
returns-clause-carries c = carries

pub returns-clause-read : goal.returns-clause-read
returns-clause-read c = λ contact carried is.
    let back = reads_back contact carried is in
    (back.given, back.left)

pub returns-clause-texts : goal.returns-clause-texts
returns-clause-texts c = texts_back
