use Rattle.njh_answer.proofs.SinceLaws.{since-put}
use Rattle.njh_answer.proofs.answering.with_since.Goals as goal

pub returns-in_ok-insert-in-Object : goal.returns-in_ok-insert-in-Object
returns-in_ok-insert-in-Object c =
    since-put c.args.since c.args.value c.from.result c.in-Object.members c.insert.new.self c.in_ok-key-in-Object.key
    c.in-Object.is c.in_ok-insert-in-Object.ensures.entries c.in_ok-key-in-Object.ensures.ok c.from.ensures
