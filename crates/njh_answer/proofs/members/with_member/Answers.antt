use Rattle.njh_answer.proofs.MemberLaws.{member-put}
use Rattle.njh_answer.proofs.members.with_member.Goals as goal

pub returns-in_ok-insert-in-Object : goal.returns-in_ok-insert-in-Object
returns-in_ok-insert-in-Object c =
    member-put c.args.name.now c.args.value c.args.own c.in-Object.members c.insert.new.self
    c.in_ok-key-in-Object.key c.in-Object.is c.in_ok-insert-in-Object.ensures.entries
    c.in_ok-key-in-Object.ensures.ok
