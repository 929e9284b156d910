use Rattle.std.proofs.Common.{map, take}
use Rattle.std.specs.Prelude.{string_bytes}
use Rattle.njh_ctl.specs.Talks.{ForEach, MessagesOf}
use Rattle.njh_ctl.proofs.talk.Talk.messages_of_all.Given as goal

abbrev pub invariant-loop-name : goal.invariant-loop-name
invariant-loop-name g l =
    ForEach (MessagesOf l.line) l.fn.self (map string_bytes (take l.name-index l.names)) l.self
