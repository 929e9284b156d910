use Rattle.njh_keeper.proofs.Words
use Words.{◌-◌, length, CustomerSpool, own_of, AllSeen, IsSeen, IsUpToDate}
use Rattle.njh_keeper.{proofs.PartlyLaws.Halves, specs.code.Partly.KeepsStill}
use Rattle.njh_keeper.proofs.portions.drop_given_up.Given as goal

abbrev pub decreases-loop-place : goal.decreases-loop-place
decreases-loop-place l = length l.own.partial.items - l.place

-- those before the place are there still whose streams are known
abbrev pub invariant-loop-place : goal.invariant-loop-place
invariant-loop-place l = record {
  kept : (now : CustomerSpool) → KeepsStill now l.fn.own l.own;
  seen : (now : CustomerSpool) → AllSeen now (own_of l.fn.own)
      → Halves (IsUpToDate now) (IsSeen now) l.place (own_of l.own).partial;
}
