use Rattle.std.proofs.Common.{◌∙◌}
use Rattle.njh_subcommands.proofs.performing.perform.Goals as goal

-- of a script that is replayed, or a trace that is said in words, no words are bad
pub returns-in-Replay-clause-bad : goal.returns-in-Replay-clause-bad
returns-in-Replay-clause-bad g c = λ fault is.
    let bad = c.replay_by.ensures.bad fault is in (c.in-Replay.is ∙ bad.0, bad.1)

pub returns-in-Decode-clause-bad : goal.returns-in-Decode-clause-bad
returns-in-Decode-clause-bad g c = λ fault is.
    let bad = c.tell_trace.ensures.bad fault is in (c.in-Decode.is ∙ bad.0, bad.1)
