use Rattle.std.specs.Prelude.{map}
use Rattle.njh_bisync.specs.Calls.{Feed}
use Rattle.njh_bisync.proofs.CallsLaws.{given_before, left_before, reads_taken, only_taken, cut_anywhere}
use Rattle.njh_bisync.proofs.afresh.reset_begins_afresh.Goals as goal

pub returns-clause-given : goal.returns-clause-given
returns-clause-given c = λ rest before pieces. given_before rest before (map Feed pieces)

pub returns-clause-left : goal.returns-clause-left
returns-clause-left c = λ rest before pieces. left_before rest before (map Feed pieces)

pub returns-clause-reads : goal.returns-clause-reads
returns-clause-reads c = reads_taken

pub returns-clause-only : goal.returns-clause-only
returns-clause-only c = only_taken

pub returns-clause-cut : goal.returns-clause-cut
returns-clause-cut c = cut_anywhere
