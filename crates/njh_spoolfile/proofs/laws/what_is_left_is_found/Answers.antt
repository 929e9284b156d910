use Rattle.sqlite_store.specs.Laws.{settled_at}
use Rattle.njh_spoolfile.proofs.ReopeningLaws.{found_again, committed_again, leaves_spools}
use Rattle.njh_spoolfile.proofs.laws.what_is_left_is_found.Goals as goal

pub returns-clause-found : goal.returns-clause-found
returns-clause-found g c conn = found_again conn.store

pub returns-clause-leaves : goal.returns-clause-leaves
returns-clause-leaves g c conn = leaves_spools conn.store

pub returns-clause-committed : goal.returns-clause-committed
returns-clause-committed g c conn numbered is_open =
    committed_again conn.store numbered (λ trees. settled_at conn.store g.met.D.Disk.seen_may_stay trees is_open)
