use Rattle.std.proofs.Common.{◌≡◌, map, string_bytes, take}
use Rattle.njh_replay.proofs.line_names.names_in.Given as goal

abbrev pub invariant-loop-line : goal.invariant-loop-line
invariant-loop-line l = map string_bytes l.names.items ≡ map (λ line. line.name) (take l.line-index l.line-items)
