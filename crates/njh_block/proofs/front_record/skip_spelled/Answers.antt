use Rattle.njh_block.proofs.Skipping.{behind_spelling}
use Rattle.njh_block.proofs.front_record.skip_spelled.Goals as goal

pub returns-in-Some : goal.returns-in-Some
returns-in-Some c = λ rcb srcb. behind_spelling rcb srcb _ _ (rw c.in-Some.is at c.skip.ensures)

pub returns-in-None : goal.returns-in-None
returns-in-None c = λ rcb srcb. behind_spelling rcb srcb _ _ (rw c.in-None.is at c.skip.ensures)
