use Rattle.{std.proofs.Common.{◌≡◌, drop}, njh_keeper.specs.Opened.number_from}
use Rattle.njh_keeper.proofs.names.number_of.Given as goal

-- none of so many names is the one
abbrev pub invariant-loop-number : goal.invariant-loop-number
invariant-loop-number l = number_from l.number (drop l.number l.names) l.text ≡ number_from 0 l.names l.text
