use Rattle.njh_sight.proofs.tally.+count_answers.Given as goal

-- there are fewer answers each time
abbrev pub decreases-count_answers : goal.decreases-count_answers
decreases-count_answers l = l.left
