use Rattle.std.proofs.Common.{take}
use Rattle.std.specs.List.{flat_map}
use Rattle.std.specs.Io.KnownBytes.{Appends}
use Rattle.njh_replay.specs.Printed.{told_line}
use Rattle.njh_replay.proofs.answers.print_replies.Given as goal

abbrev pub invariant-loop-reply : goal.invariant-loop-reply
invariant-loop-reply g l = Appends (g.W.Write.contents l.fn.out) (g.W.Write.contents l.out)
    (flat_map (λ reply. told_line l.name reply.items) (take l.reply-index l.replies))
