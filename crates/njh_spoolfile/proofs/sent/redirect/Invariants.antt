use Rattle.std.proofs.Common.{◌≡◌, ◌++◌, None, length, take, drop}
use Rattle.njh_header.specs.Redirecting.{records_to_node}
use Rattle.njh_spoolfile.proofs.SentLaws.{all_stored}
use Rattle.njh_spoolfile.proofs.sent.redirect.Given as goal

-- those that were, and those that are left, make all
abbrev pub invariant-loop-n : goal.invariant-loop-n
invariant-loop-n l =
    (length l.records.items ≡ length l.fn.records.items)
    × (take l.n (all_stored l.records.items)
    ++ records_to_node l.kind l.node l.before (drop l.n (all_stored l.records.items))
    ≡ records_to_node l.fn.kind l.fn.node None (all_stored l.fn.records.items))
