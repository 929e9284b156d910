use Rattle.std.proofs.Common.{take}
use Rattle.std.specs.List.{flat_map}
use Rattle.std.specs.Io.KnownBytes.{Appends}
use Rattle.njh_hub.specs.WholeHub.{part}
use Rattle.njh_replay.proofs.FileLaws.{line_text}
use Rattle.njh_replay.proofs.files.print_customer.Given as goal

abbrev pub invariant-loop-index : goal.invariant-loop-index
invariant-loop-index g l =
    Appends (g.W.Write.contents l.fn.out) (g.W.Write.contents l.out)
    (flat_map (line_text l.name) (take l.index (part l.customer l.hub).customer.spool.whole))
