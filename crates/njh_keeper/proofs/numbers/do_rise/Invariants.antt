use Rattle.{std.proofs.Common.{◌≡◌, drop}, njh_keeper.specs.code.Apart.rises}
use Rattle.njh_keeper.proofs.numbers.do_rise.Given as goal

-- so many rise
abbrev pub invariant-loop-key : goal.invariant-loop-key
invariant-loop-key l = rises l.least (drop l.key-index l.keys) ≡ rises 0 l.keys
